use Rattle.std.proofs.Common.{◌≡◌, ◌++◌, map, take, drop}
use Rattle.group_view.specs.Change.{with_synced}
use Rattle.group_view.proofs.ring.set_synced.Given as goal

abbrev pub invariant-loop-entry : goal.invariant-loop-entry
invariant-loop-entry l =
    l.entries ≡ map (with_synced l.id.0) (take l.entry-index l.initial.entries) ++ drop l.entry-index l.initial.entries
