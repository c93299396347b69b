use Rattle.std.proofs.Common.{suc}
use Rattle.ring_world.specs.Shows.{world_of}
use Rattle.ring_world.proofs.code.Resting.{one_ignores}
use Rattle.ring_world.proofs.queue_rest.all_know.Goals as goal

pub returns-then-not-knows : goal.returns-then-not-knows
returns-then-not-knows c = one_ignores (world_of c.args.ring.now) (suc c.loop-place.place) c.if-not-knows.ensures
