use Rattle.std.proofs.Common.{◌≡◌, ◌++◌, suc, drop}
use Rattle.std.specs.List.{flat_map}
use Rattle.ring_world.specs.declared.walk.Part.TheVariants as part
use Rattle.ring_world.specs.Shows.{world_of}
use Rattle.ring_world.specs.Walking.{stop_says}
use Rattle.ring_world.proofs.walk.push_stops.Given as goal

abbrev pub invariant-loop-place : goal.invariant-loop-place
invariant-loop-place l =
    l.walk.items ++ flat_map (λ place. stop_says l.round part.Every (world_of l.ring) l.origin (suc place)) (drop l.place-index l.further)
    ≡ l.initial.walk.items ++ flat_map (λ place. stop_says l.round part.Every (world_of l.ring) l.origin (suc place)) l.further
