use Rattle.std.proofs.Common.{◌≡◌, ◌++◌, take}
use Rattle.ring_report.specs.Report.{refusal_lines}
use Rattle.ring_report.specs.Lent.{lent_in}
use Rattle.ring_report.proofs.refusals.push_refusals.Given as goal

abbrev pub invariant-loop-refusal : goal.invariant-loop-refusal
invariant-loop-refusal l = l.out.items ≡ l.initial.out.items ++ refusal_lines l.name (lent_in (take l.refusal-index l.refusals))
