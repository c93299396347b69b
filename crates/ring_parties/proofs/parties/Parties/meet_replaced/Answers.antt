use Rattle.std.proofs.Common.{ap}
use Rattle.ring_parties.specs.Parties.{out_seen}
use Rattle.ring_parties.specs.Looking.{replaced_seen}
use Rattle.ring_parties.proofs.events.Closing.{between_may, between_meets}
use Rattle.ring_parties.proofs.parties.Parties.meet_replaced.Goals as goal

pub meet_in-requires : goal.meet_in-requires
meet_in-requires c =
    let h = c.requires in
    between_may h.0 h.1 h.2 h.3 (c.args.self.now).all c.in-Some.name (out_seen c.in-Some.out) (replaced_seen c.args.replaced) (ap replaced_seen c.in-Some.is) h.4

pub returns-clause-meets : goal.returns-clause-meets
returns-clause-meets c = λ credit names events ids b.
    between_meets credit names events ids (c.args.self.now).all (c.meet_in.new.self).all c.in-Some.name (out_seen c.in-Some.out) (out_seen c.meet_in.new.out) (replaced_seen c.args.replaced) (ap replaced_seen c.in-Some.is) b c.meet_in.ensures.meets
