use Rattle.ring_parties.specs.Replaced.{IsMember}
use Rattle.ring_parties.proofs.meetings.MeetsAll.{of_name, nobody_left, sender_may, second_met}
use Rattle.ring_parties.proofs.parties.Parties.meet_sender.Goals as goal

pub returns-in_default-clause-meets : goal.returns-in_default-clause-meets
returns-in_default-clause-meets c = λ credit names events b. nobody_left credit names events (c.args.self.now).all c.args.name c.in_default.is b

pub overflow_sub-name : goal.overflow_sub-name
overflow_sub-name c = (of_name (λ m. IsMember m.from.0 (c.args.self.now).all) c.args.name c.in-Some.name c.in-Some.is c.requires.from).0

pub meet_out-requires-clause-within : goal.meet_out-requires-clause-within
meet_out-requires-clause-within c = (of_name (λ m. IsMember m.from.0 (c.args.self.now).all) c.args.name c.in-Some.name c.in-Some.is c.requires.from).1

pub meet_out-requires-clause-may : goal.meet_out-requires-clause-may
meet_out-requires-clause-may c =
    let h = c.requires.between in
    sender_may h.0 h.1 h.2 (c.args.self.now).all c.args.name c.in-Some.name c.in-Some.is c.requires.from h.3

pub returns-clause-meets : goal.returns-clause-meets
returns-clause-meets c = λ credit names events b.
    second_met credit names events (c.args.self.now).all (c.meet_out.new.self).all c.args.name c.in-Some.name c.in-Some.is c.requires.from c.meet_out.ensures.meets b
