use Rattle.std.proofs.Common.{ℕ, ◌+◌, ◌≡◌, map, ◌++◌, ◌∷◌, [], arith}
use Rattle.std.specs.List.{range_with_len}
use Rattle.std.proofs.lemmas.Grind.{common_steps}
use Rattle.std.proofs.lemmas.List.FromFn.{map-range_with_len_more}
use Rattle.std.proofs.lemmas.List.{map-append}
use Rattle.ring_rules.specs.Rows.{no_row}
use Rattle.ring_world.proofs.plain_member.opening_rows.Goals as goal

pub loop-id-preserved : goal.loop-id-preserved
loop-id-preserved c =
    let e : map (λ (_ : ℕ). no_row) (range_with_len 0 (c.loop-id._id + 1)) ≡ map (λ (_ : ℕ). no_row) (range_with_len 0 c.loop-id._id) ++ no_row ∷ [] = map-range_with_len_more (λ (_ : ℕ). no_row) 0 c.loop-id._id c.loop-id._id (omega arith) in
    grind (arith, common_steps, map-append)
