use Rattle.std.proofs.Common.{◌≡◌, drop}
use Rattle.group_view.specs.View.{id_named}
use Rattle.group_view.proofs.ring.find.Given as goal

abbrev pub invariant-loop-entry : goal.invariant-loop-entry
invariant-loop-entry l = id_named l.entries l.name ≡ id_named (drop l.entry-index l.entries) l.name
