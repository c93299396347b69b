use Rattle.std.proofs.Common.{◌≡◌, ◌∷◌, map, get_or}
use Rattle.std.specs.List.{range_with_len}
use Rattle.ring_rules.specs.Machine.{no_member}
use Rattle.ring_rules.specs.Rows.{born_row}
use Rattle.ring_world.specs.Shows.{row_of, member_of}
use Rattle.ring_world.proofs.joining.born_rows.Given as goal

abbrev pub invariant-loop-id : goal.invariant-loop-id
invariant-loop-id l = map row_of l.rows.items ≡ map (λ p. born_row (get_or (no_member ∷ map member_of l.members) p no_member).log) (range_with_len 0 l.id)
