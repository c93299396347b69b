use Rattle.std.proofs.Common.{◌+◌}
use Rattle.ring_parties.specs.Replaced.{moved_by}
use Rattle.ring_parties.specs.States.{state}
use Rattle.ring_parties.proofs.meetings.MeetsAll.{next_may, first_met, comes_from}
use Rattle.ring_parties.proofs.parties.Parties.meet_moved.Goals as goal

pub meet_out-requires-clause-may : goal.meet_out-requires-clause-may
meet_out-requires-clause-may c =
    let h = c.requires.moved in
    next_may h.0 h.1 h.2 c.args.i (moved_by (c.args.i + 1) (state h.0 h.1 h.2)) (c.args.self.now).all c.requires.within h.3

pub meet_sender-requires-clause-from : goal.meet_sender-requires-clause-from
meet_sender-requires-clause-from c =
    let h = c.requires.moved in
    comes_from h.0 h.1 h.2 c.args.i (c.args.self.now).all (c.meet_out.new.self).all c.taken_from-taken.result c.requires.within c.taken_from-taken.ensures c.meet_out.ensures.meets h.3

pub meet_sender-requires-clause-between : goal.meet_sender-requires-clause-between
meet_sender-requires-clause-between c =
    let h = c.requires.moved in
    (h.0, h.1, h.2, first_met h.0 h.1 h.2 c.args.i (c.args.self.now).all (c.meet_out.new.self).all c.taken_from-taken.result c.requires.within c.taken_from-taken.ensures c.meet_out.ensures.meets h.3)

pub returns-clause-meets : goal.returns-clause-meets
returns-clause-meets c = λ credit names events b.
    c.meet_sender.ensures.meets credit names events
    (first_met credit names events c.args.i (c.args.self.now).all (c.meet_out.new.self).all c.taken_from-taken.result c.requires.within c.taken_from-taken.ensures c.meet_out.ensures.meets b)
