use Rattle.ring_world.proofs.code.Running.{running_placed}
use Rattle.ring_world.proofs.world.World.member.Goals as goal

pub member_named-requires : goal.member_named-requires
member_named-requires c = running_placed c.self.inside c.self.invariant
