use Rattle.std.proofs.lemmas.Grind.{common_steps}
use Rattle.std.proofs.Common.{arith}
use Rattle.confirm_book.proofs.Counting.{push_in_place}
use Rattle.confirm_book.proofs.marks.Marks.push.Goals as goal
use Rattle.confirm_book.proofs.marks.Marks.push.Goals.{then-self-gt0, else-self-gt0}

pub returns-clause-counts : goal.returns-clause-counts
returns-clause-counts c = elim c.if-self-gt0.branch [ then-self-gt0 w ↦ grind (arith, common_steps, push_in_place) | else-self-gt0 w ↦ grind (arith, common_steps) ]
