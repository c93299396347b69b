use Rattle.std.proofs.Common.{◌≡◌, map}
use Rattle.std.specs.List.{range_with_len}
use Rattle.ring_world.specs.Shows.{link_of}
use Rattle.ring_rules.specs.Step.{opening_link}
use Rattle.ring_world.proofs.starting.opening_links.Given as goal

abbrev pub invariant-loop-place : goal.invariant-loop-place
invariant-loop-place l = map link_of l.links.items ≡ map (opening_link l.credit l.names) (range_with_len 1 l.place)
