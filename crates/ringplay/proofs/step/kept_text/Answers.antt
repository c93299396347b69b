use Rattle.std.proofs.Common.{arith}
use Rattle.std.proofs.lemmas.Grind.{common_steps}
use Rattle.ringplay.proofs.step.kept_text.Goals as goal

pub returns-in_ok-format-in-ViewTooOld : goal.returns-in_ok-format-in-ViewTooOld
returns-in_ok-format-in-ViewTooOld c = rw c.in-ViewTooOld.is (grind (arith, common_steps, c.in_ok-format-in-ViewTooOld.ensures.ok))

pub returns-in_ok-format-in-NotRetired : goal.returns-in_ok-format-in-NotRetired
returns-in_ok-format-in-NotRetired c = rw c.in-NotRetired.is (grind (arith, common_steps, c.in_ok-format-in-NotRetired.ensures.ok))

pub returns-in_ok-format-in-ViewOutOfRange : goal.returns-in_ok-format-in-ViewOutOfRange
returns-in_ok-format-in-ViewOutOfRange c = rw c.in-ViewOutOfRange.is (grind (arith, common_steps, c.in_ok-format-in-ViewOutOfRange.ensures.ok))
