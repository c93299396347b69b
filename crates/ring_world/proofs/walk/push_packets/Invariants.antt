use Rattle.std.proofs.Common.{◌≡◌, ◌++◌, map, reverse, drop}
use Rattle.ring_world.specs.Shows.{packet_of}
use Rattle.ring_world.specs.Walking.{says}
use Rattle.ring_world.proofs.walk.push_packets.Given as goal

abbrev pub invariant-loop-k : goal.invariant-loop-k
invariant-loop-k l = l.walk.items ≡ l.initial.walk.items ++ map (says l.round l.origin) (reverse (map packet_of (drop l.k l.packets)))
