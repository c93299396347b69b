use Rattle.std.proofs.Common.{◌≡◌, ◌+◌, ◌≤◌, ◌++◌, length}
use Rattle.std.specs.List.{flat_map}
use Rattle.std.specs.Vec.{vec_len, vec_capacity}
use Rattle.lamport_merge.specs.Merge.{merged, events_of, entries_in, AreLogs}
use Rattle.lamport_merge.specs.Logs.{left_of}
use Rattle.lamport_merge.proofs.gathered.Gathered.merge_behind.Given as goal

abbrev pub invariant-each : goal.invariant-each
invariant-each l =
    (length l.nexts.items ≡ length l.logs.items) × AreLogs (left_of l.logs.items l.nexts.items)
    × (l.events.items ++ events_of (merged (left_of l.logs.items l.nexts.items)) ≡ l.initial.events.items ++ events_of (merged l.fn.self.logs))
    × (vec_len l.events + length (flat_map entries_in (left_of l.logs.items l.nexts.items)) ≤ vec_capacity l.events)

abbrev pub decreases-each : goal.decreases-each
decreases-each l = length (flat_map entries_in (left_of l.logs.items l.nexts.items))
