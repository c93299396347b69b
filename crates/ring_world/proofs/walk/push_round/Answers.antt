use Rattle.std.proofs.Common.{◌≡◌, ◌++◌, ◌∷◌, suc, map, ap, ◌∙◌, arith}
use Rattle.std.proofs.lemmas.Grind.{common_steps}
use Rattle.ring_rules.specs.OpenLinks.{round_trip}
use Rattle.ring_world.specs.Shows.{world_of}
use Rattle.ring_world.specs.Walking.{reads, reads_row}
use Rattle.ring_world.proofs.rings.Told.{round_told}
use Rattle.ring_world.proofs.walk.push_round.Goals as goal

pub returns-in_ok-push_open : goal.returns-in_ok-push_open
returns-in_ok-push_open c =
    round_told c.args.round (world_of c.args.ring.now) c.args.origin c.in-Some.owner.now c.in-Some.further.now c.args.walk.now.items c.push_stop.new.walk.items c.push_stops.new.walk.items c.push_open.new.walk.items
    c.in_ok-push_stop.ensures c.in_ok-push_stops.ensures c.in_ok-push_open.ensures
    ∙ ap (λ ks. c.args.walk.now.items ++ round_trip (reads c.args.round) (reads_row c.args.round) (world_of c.args.ring.now) c.args.origin (map suc ks)) (let parts : c.in-Some.owner.now ∷ c.in-Some.further.now ≡ c.args.stops.now = grind (arith, common_steps) in parts)
