use Rattle.std.proofs.Common.{◌≡◌, map}
use Rattle.std.specs.List.{range_with_len}
use Rattle.ring_world.specs.Shows.{member_of}
use Rattle.ring_rules.specs.Step.{opening_member}
use Rattle.ring_world.proofs.starting.opening_members.Given as goal

abbrev pub invariant-loop-place : goal.invariant-loop-place
invariant-loop-place l = map member_of l.members.items ≡ map (opening_member l.names) (range_with_len 1 l.place)
