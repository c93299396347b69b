use Rattle.std.proofs.Common.{sym, ◌∙◌}
use Rattle.ring_cluster.proofs.work.Publishing.{saying_nothing}
use Rattle.ring_cluster.proofs.published.push_told.Goals as goal

pub returns-in_default : goal.returns-in_default
returns-in_default c = λ before is. is ∙ saying_nothing c.args.names.now before c.args.event.now (λ says. c.in_default.not-Says (c.kind.ensures ∙ says))

pub push_said-requires-clause-says : goal.push_said-requires-clause-says
push_said-requires-clause-says c = sym c.kind.ensures ∙ c.in-Says.is
