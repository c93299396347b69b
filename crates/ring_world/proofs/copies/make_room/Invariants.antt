use Rattle.std.proofs.Common.{◌≡◌, ℕ, ◌<◌, ◌≤◌, map, slice_index_or}
use Rattle.ring_world.specs.Copied.{copy_of, room_of}
use Rattle.ring_world.proofs.copies.make_room.Given as goal

abbrev pub invariant-loop-k : goal.invariant-loop-k
invariant-loop-k l = record {
  same : map copy_of l.copies ≡ map copy_of l.initial.copies;
  room : (j : ℕ) → j < l.k → 3 ≤ slice_index_or (map room_of l.copies) j 0;
}
