use Rattle.std.proofs.Common.{◌≡◌, ◌+◌, ◌++◌, drop}
use Rattle.group_view.specs.Change.{opening_entries}
use Rattle.group_view.proofs.ring.opening.Given as goal

abbrev pub invariant-loop-place : goal.invariant-loop-place
invariant-loop-place l = l.entries.items ++ opening_entries (l.place + 1) (drop l.place l.names) ≡ opening_entries 1 l.names
