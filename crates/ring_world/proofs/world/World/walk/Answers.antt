use Rattle.ring_world.proofs.code.Running.{running_placed}
use Rattle.ring_world.proofs.world.World.walk.Goals as goal

pub walk_of_name-requires : goal.walk_of_name-requires
walk_of_name-requires c = running_placed c.self.inside c.self.invariant
