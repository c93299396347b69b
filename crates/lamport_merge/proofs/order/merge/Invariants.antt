use Rattle.std.proofs.Common.{◌≡◌, ◌++◌, length}
use Rattle.std.specs.List.{flat_map}
use Rattle.lamport_merge.specs.Merge.{merged, events_of, entries_in, AreLogs}
use Rattle.lamport_merge.specs.Logs.{logs_of, left_of}
use Rattle.lamport_merge.proofs.order.merge.Given as goal

abbrev pub invariant-each : goal.invariant-each
invariant-each l =
    (length l.nexts.items ≡ length l.logs) × AreLogs (left_of l.logs l.nexts.items)
    × (l.events.items ++ events_of (merged (left_of l.logs l.nexts.items)) ≡ events_of (merged (logs_of l.logs)))

abbrev pub decreases-each : goal.decreases-each
decreases-each l = length (flat_map entries_in (left_of l.logs l.nexts.items))
