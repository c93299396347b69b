use Rattle.std.proofs.Common.{◌≡◌, map, take}
use Rattle.ring_world.specs.Shows.{news_of, operations_in}
use Rattle.ring_world.proofs.operations.operations.Given as goal

abbrev pub invariant-loop-brought : goal.invariant-loop-brought
invariant-loop-brought l = l.all.items ≡ operations_in (map news_of (take l.brought-index l.news))
