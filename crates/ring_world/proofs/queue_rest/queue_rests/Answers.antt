use Rattle.std.proofs.Common.{suc, refl}
use Rattle.ring_world.specs.Shows.{world_of}
use Rattle.ring_world.proofs.code.Resting.{led_rests}
use Rattle.ring_world.proofs.queue_rest.queue_rests.Goals as goal

pub returns : goal.returns
returns c =
    led_rests (world_of c.args.ring.now) (suc c.in-Some.place) c.master_rests.result (c.if-not-all_are_enrolled.ensures.0 refl) c.in-Some.ensures.1 c.in-Some.ensures.2 c.master_rests.ensures
