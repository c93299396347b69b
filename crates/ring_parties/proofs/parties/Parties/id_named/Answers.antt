use Rattle.std.proofs.Common.{arith}
use Rattle.ring_parties.proofs.events.Closing.{few_stand}
use Rattle.ring_parties.proofs.parties.Parties.id_named.Goals as goal

pub overflow_cast-result : goal.overflow_cast-result
overflow_cast-result c = omega (arith, few_stand c.requires.0 c.requires.1 c.requires.2 (c.args.self.now).all c.requires.3, c.in_ok-place.ensures.within)

pub overflow_add-result : goal.overflow_add-result
overflow_add-result c = omega (arith, few_stand c.requires.0 c.requires.1 c.requires.2 (c.args.self.now).all c.requires.3, c.in_ok-place.ensures.within)
