use Rattle.std.proofs.Common.{arith}
use Rattle.ring_world.proofs.code.Found.{few_members}
use Rattle.ring_world.proofs.code.Running.{running_placed}
use Rattle.ring_world.proofs.world.World.members.Goals as goal

pub overflow_cast-result : goal.overflow_cast-result
overflow_cast-result c = omega (arith, c.len.ensures, few_members c.self.inside.ring (running_placed c.self.inside c.self.invariant))

pub returns-clause-few : goal.returns-clause-few
returns-clause-few c = omega (arith, c.len.ensures, few_members c.self.inside.ring (running_placed c.self.inside c.self.invariant))
