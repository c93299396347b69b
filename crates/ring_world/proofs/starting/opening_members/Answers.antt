use Rattle.std.proofs.Common.{◌≡◌, suc, [], map, ◌++◌, ◌∷◌, ◌+◌, arith}
use Rattle.std.proofs.lemmas.Grind.{common_steps}
use Rattle.std.specs.List.{range_with_len}
use Rattle.std.proofs.lemmas.List.FromFn.{map-range_with_len_more}
use Rattle.std.proofs.lemmas.List.{map-append}
use Rattle.ring_rules.specs.Step.{opening_member}
use Rattle.ring_world.proofs.starting.opening_members.Goals as goal

pub loop-place-preserved : goal.loop-place-preserved
loop-place-preserved c =
    let f = opening_member c.args.names.now in
    let e : map f (range_with_len 1 (c.loop-place.place + 1)) ≡ map f (range_with_len 1 c.loop-place.place) ++ f (suc c.loop-place.place) ∷ [] = map-range_with_len_more f 1 c.loop-place.place (suc c.loop-place.place) (omega arith) in
    grind (arith, common_steps, map-append)
