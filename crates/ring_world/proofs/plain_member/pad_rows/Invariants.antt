use Rattle.std.proofs.Common.{◌≡◌, ℕ, ◌≤◌, map, take, length}
use Rattle.std.specs.Prelude.{vec_len, vec_capacity}
use Rattle.ring_world.specs.Shows.{row_of, row_in}
use Rattle.ring_world.proofs.plain_member.pad_rows.Given as goal

abbrev pub invariant-loop-id : goal.invariant-loop-id
invariant-loop-id l = record {
  size : vec_len l.rows ≡ l._id;
  room : l.size ≤ vec_capacity l.rows;
  known : take (length l.initial.rows.items) (map row_of l.rows.items) ≡ map row_of l.initial.rows.items;
  same : (p : ℕ) → row_in l.rows.items p ≡ row_in l.initial.rows.items p;
}
