use Rattle.std.proofs.Common.{◌≡◌, ℕ, [], ◌∷◌, ◌++◌, ◌+◌, map, get_or, arith}
use Rattle.std.proofs.lemmas.Grind.{common_steps}
use Rattle.std.specs.List.{range_with_len}
use Rattle.std.proofs.lemmas.List.{map-append}
use Rattle.std.proofs.lemmas.List.FromFn.{map-range_with_len_more}
use Rattle.ring_rules.specs.Machine.{no_member}
use Rattle.ring_rules.specs.Rows.{Row, born_row}
use Rattle.ring_world.specs.Shows.{member_of}
use Rattle.ring_world.proofs.joining.born_rows.Goals as goal

pub loop-id-preserved : goal.loop-id-preserved
loop-id-preserved c =
    let id : ℕ = c.loop-id.id in
    let f : ℕ → Row = λ p. born_row (get_or (no_member ∷ map member_of c.args.members.now) p no_member).log in
    let e : map f (range_with_len 0 (id + 1)) ≡ map f (range_with_len 0 id) ++ f id ∷ [] = map-range_with_len_more f 0 id id (omega arith) in
    grind (arith, common_steps, e, map-append)
