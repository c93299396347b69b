use Rattle.ring_world.proofs.code.Running.{running_placed}
use Rattle.ring_world.proofs.world.World.view.Goals as goal

pub newest_view-requires : goal.newest_view-requires
newest_view-requires c = running_placed c.self.inside c.self.invariant
