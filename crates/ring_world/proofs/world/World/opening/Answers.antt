use Rattle.std.proofs.Common.{refl}
use Rattle.ring_world.proofs.code.Running.{running_opening}
use Rattle.ring_world.proofs.world.World.opening.Goals as goal

pub invariant_of-result : goal.invariant_of-result
invariant_of-result c = running_opening _ c.args.credit c.args.members.now c.requires c.in_ok-ring.ensures c.new.ensures.items c.new-2.ensures.items refl
