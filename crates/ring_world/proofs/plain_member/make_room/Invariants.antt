use Rattle.std.proofs.Common.{◌≡◌, ℕ, ◌<◌, ◌≤◌, map, length, slice_index_or}
use Rattle.ring_world.specs.Shows.{row_of, room_of, news_in}
use Rattle.ring_world.proofs.plain_member.make_room.Given as goal

abbrev pub invariant-loop-k : goal.invariant-loop-k
invariant-loop-k l = record {
  same : map row_of l.rows ≡ map row_of l.initial.rows;
  room : (j : ℕ) → j < l.k → length (news_in l.news j).messages ≤ slice_index_or (map room_of l.rows) j 0;
}
