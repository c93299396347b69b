use Rattle.std.proofs.Common.{◌≡◌, ℕ, map}
use Rattle.std.specs.List.{range_with_len}
use Rattle.ring_world.specs.Shows.{row_of}
use Rattle.ring_rules.specs.Rows.{no_row}
use Rattle.ring_world.proofs.plain_member.opening_rows.Given as goal

abbrev pub invariant-loop-id : goal.invariant-loop-id
invariant-loop-id l = map row_of l.rows.items ≡ map (λ (_ : ℕ). no_row) (range_with_len 0 l._id)
