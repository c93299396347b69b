use Rattle.std.proofs.Common.{◌≡◌, ℕ, ◌<◌, ◌≤◌, map, option_map, slice_index_or}
use Rattle.ring_world.specs.Copied.{copy_of, copy_in_list, room_of, followed_copy}
use Rattle.ring_world.proofs.copies.follow.Given as goal

abbrev pub invariant-loop-k : goal.invariant-loop-k
invariant-loop-k l = record {
  done : (j : ℕ) → j < l.k → copy_in_list l.copies j ≡ followed_copy l.stops (option_map (λ v. v.now) l.view) l.blocked l.id (copy_in_list l.initial.copies j);
  rest : (j : ℕ) → l.k ≤ j → copy_in_list l.copies j ≡ copy_in_list l.initial.copies j;
  room : (j : ℕ) → l.k ≤ j → slice_index_or (map room_of l.copies) j 0 ≡ slice_index_or (map room_of l.initial.copies) j 0;
}
