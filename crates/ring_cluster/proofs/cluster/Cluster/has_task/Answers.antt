use Rattle.std.proofs.Common.{ap, not, ◌∙◌}
use Rattle.ring_rules.specs.Refusal.{is_empty}
use Rattle.ring_cluster.specs.Plays.{agenda_of}
use Rattle.ring_cluster.proofs.rounds.Named.{first_task}
use Rattle.ring_cluster.proofs.cluster.Cluster.has_task.Goals as goal

pub returns : goal.returns
returns c =
    c.is_some.ensures
    ∙ first_task (λ x. x.now) _ _ c.next_task.ensures.next
    ∙ ap (λ x. not (is_empty (agenda_of x c.args.name.now))) c.self.view_is
