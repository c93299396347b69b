use Rattle.std.proofs.Common.{◌≡◌, ℕ, ◌<◌, ◌≤◌}
use Rattle.ring_rules.specs.Machine.{numbers_at}
use Rattle.ring_world.specs.Shows.{row_in, packet_of}
use Rattle.ring_rules.specs.Step.{begun_row}
use Rattle.ring_world.proofs.plain_member.begin_rows.Given as goal

abbrev pub invariant-loop-k : goal.invariant-loop-k
invariant-loop-k l = record {
  done : (j : ℕ) → j < l.k → row_in l.rows j ≡ begun_row (row_in l.initial.rows j) (numbers_at (packet_of l.packet) j);
  rows : (j : ℕ) → l.k ≤ j → row_in l.rows j ≡ row_in l.initial.rows j;
}
