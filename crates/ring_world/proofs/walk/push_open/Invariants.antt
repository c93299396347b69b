use Rattle.std.proofs.Common.{◌≡◌, ◌++◌, ◌-◌, suc, length, filter}
use Rattle.std.specs.List.{range_with_len}
use Rattle.ring_rules.specs.OpenLinks.{is_open}
use Rattle.ring_world.specs.Shows.{world_of}
use Rattle.ring_world.specs.Walking.{said_on}
use Rattle.ring_world.proofs.walk.push_open.Given as goal

abbrev pub invariant-loop-s : goal.invariant-loop-s
invariant-loop-s l = l.walk.items ≡ l.initial.walk.items ++ said_on l.of.round l.of.part (world_of l.ring) l.of.origin (suc l.place) (filter (is_open (world_of l.ring) (suc l.place)) (range_with_len l.s (length l.ring.links.items - l.s)))
