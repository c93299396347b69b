use Rattle.std.proofs.Common.{◌≡◌, ℕ, ◌<◌, ◌≤◌, map, slice_index_or}
use Rattle.ring_rules.specs.Machine.{numbers_at}
use Rattle.ring_world.specs.Shows.{row_in, packet_of, room_of, news_in}
use Rattle.ring_rules.specs.Rows.{taken_with}
use Rattle.ring_world.proofs.plain_member.take_rows.Given as goal

abbrev pub invariant-loop-k : goal.invariant-loop-k
invariant-loop-k l = record {
  done : (j : ℕ) → j < l.k → row_in l.rows j ≡ taken_with (news_in l.initial.news j).own (row_in l.initial.rows j) (numbers_at (packet_of l.packet) j) (news_in l.initial.news j).messages;
  rows : (j : ℕ) → l.k ≤ j → row_in l.rows j ≡ row_in l.initial.rows j;
  room : (j : ℕ) → l.k ≤ j → slice_index_or (map room_of l.rows) j 0 ≡ slice_index_or (map room_of l.initial.rows) j 0;
  news : (j : ℕ) → l.k ≤ j → news_in l.news j ≡ news_in l.initial.news j;
}
