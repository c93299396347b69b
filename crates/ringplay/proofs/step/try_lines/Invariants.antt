use Rattle.ringplay.proofs.Stepping.{HasTried}
use Rattle.ringplay.proofs.step.try_lines.Given as goal

abbrev pub invariant-loop-number : goal.invariant-loop-number
invariant-loop-number l = HasTried l.initial.cluster l.cluster l.initial.text.items l.text.items l.lines l.number-index
