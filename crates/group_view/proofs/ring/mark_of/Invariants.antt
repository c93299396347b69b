use Rattle.std.proofs.Common.{◌≡◌, drop}
use Rattle.group_view.specs.Parts.{mark_in}
use Rattle.group_view.proofs.ring.mark_of.Given as goal

abbrev pub invariant-loop-entry : goal.invariant-loop-entry
invariant-loop-entry l = mark_in l.entries l.id.0 ≡ mark_in (drop l.entry-index l.entries) l.id.0
