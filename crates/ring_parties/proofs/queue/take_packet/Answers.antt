use Rattle.std.proofs.Common.{ap, arith}
use Rattle.ring_parties.proofs.queue.take_packet.Goals as goal

pub apply_taken-requires : goal.apply_taken-requires
apply_taken-requires c =
    let there = c.in_ok-taken.ensures.there in
    omega (arith, c.in_ok-taken.ensures.few there.0 there.1 there.2, c.carried-coming.ensures there.0 there.1 there.2, c.in-Ok.ensures.ok, c.in_ok-taken.taken.ok.0, c.in_ok-taken.taken.small, ap (λ m. m.room) c.hear_round.ensures.mirror)
