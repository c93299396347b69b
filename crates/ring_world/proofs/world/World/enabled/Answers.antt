use Rattle.ring_world.proofs.code.Running.{running_placed}
use Rattle.ring_world.proofs.world.World.enabled.Goals as goal

pub enabled-requires : goal.enabled-requires
enabled-requires c = running_placed c.self.inside c.self.invariant
