use Rattle.std.proofs.Common.{◌≡◌, suc, ap, ◌∙◌, arith}
use Rattle.std.proofs.lemmas.Grind.{common_steps}
use Rattle.std.specs.Prelude.{position}
use Rattle.ring_rules.specs.Event.{left_neighbour, since}
use Rattle.ring_world.specs.Shows.{world_of, link_of, stands_at_door}
use Rattle.ring_world.proofs.code.Found.{door_first}
use Rattle.ring_world.proofs.neighbours.at_door.Goals as goal

pub returns-clause-door : goal.returns-clause-door
returns-clause-door c =
    let left : c.left_in-left.result ≡ left_neighbour (world_of c.args.ring.now) (suc c.args.place) = grind (arith, common_steps) in
    let start : c.since_of-since.result ≡ since (world_of c.args.ring.now) (suc c.args.place) = grind (arith, common_steps) in
    door_first c.args.ring.now c.args.place c.left_in-left.result c.since_of-since.result c.first_at_door.result left start
    (c.first_at_door.ensures ∙ ap (λ id. position (λ link. stands_at_door id c.left_in-left.result c.since_of-since.result (link_of link)) c.deref.result.now) c.id_at-id.ensures ∙ ap (position (λ link. stands_at_door (suc c.args.place) c.left_in-left.result c.since_of-since.result (link_of link))) c.deref.ensures.value)
