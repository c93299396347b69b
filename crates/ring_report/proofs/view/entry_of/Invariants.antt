use Rattle.std.proofs.Common.{◌≡◌, drop}
use Rattle.group_view.specs.View.{entry_in}
use Rattle.ring_report.proofs.view.entry_of.Given as goal

abbrev pub invariant-loop-entry : goal.invariant-loop-entry
invariant-loop-entry l = entry_in l.entries l.id.0 ≡ entry_in (drop l.entry-index l.entries) l.id.0
