use Rattle.std.proofs.Common.{sym, ap, subst, ◌∙◌}
use Rattle.group_view.specs.Ring.{AreDistinct}
use Rattle.activity.specs.Packets.{origins, line_of}
use Rattle.activity.proofs.Next.{distinct_lines, next_found}
use Rattle.activity.proofs.sending.diff.Goals as goal

pub invariant_of-result : goal.invariant_of-result
invariant_of-result c = subst (λ lines. AreDistinct (origins lines)) (sym (c.from_vec.ensures ∙ c.in_ok-lines.ensures.lines)) (distinct_lines c.args.first c.args.sent.now c.args.tables.now c.in_ok-lines.ensures.distinct)

pub returns-clause-lines : goal.returns-clause-lines
returns-clause-lines c = λ p. ap (λ lines. line_of lines p) (c.from_vec.ensures ∙ c.in_ok-lines.ensures.lines) ∙ next_found c.args.first c.args.sent.now c.args.tables.now c.in_ok-lines.ensures.distinct c.requires p
