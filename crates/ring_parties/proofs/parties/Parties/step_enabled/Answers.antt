use Rattle.std.proofs.Common.{arith, sym, subst}
use Rattle.ring_parties.specs.States.{state}
use Rattle.ring_parties.specs.Keeps.{KeepsStand}
use Rattle.ring_parties.specs.Standing.{StandAfter}
use Rattle.ring_parties.proofs.events.After.{booked_after}
use Rattle.ring_parties.proofs.events.Closing.{found_at}
use Rattle.ring_parties.proofs.parties.Parties.step_enabled.Goals as goal

pub collect-requires : goal.collect-requires
collect-requires c =
    let stand = subst (StandAfter c.args.credit c.args.names.now c.args.journal.now.items) (sym c.hand_over.ensures.same) c.requires.standing in
    record {
      within = omega (arith, c.requires.at.0, stand.stand.stand.count);
      delivered = c.in_ok-hand_over.ensures.ok;
      standing = (c.args.credit, c.args.names.now, c.args.journal.now.items, stand);
      booked = booked_after c.args.credit c.args.names.now c.args.journal.now.items (c.hand_over.new.self).all (c.hand_over.new.self).keeps c.args.i stand
          (subst (KeepsStand (state c.args.credit c.args.names.now c.args.journal.now.items)) (sym c.hand_over.ensures.keeps) c.requires.keeps)
          (omega (arith, c.requires.at.0, stand.stand.stand.count));
    }

pub happen-requires-clause-within : goal.happen-requires-clause-within
happen-requires-clause-within c =
    let old = subst (StandAfter c.args.credit c.args.names.now c.args.journal.now.items) (sym c.hand_over.ensures.same) c.requires.standing in
    omega (arith, c.requires.at.0, (c.collect.ensures.standing c.args.credit c.args.names.now c.args.journal.now.items old).stand.stand.count)

pub happen-requires-clause-named : goal.happen-requires-clause-named
happen-requires-clause-named c =
    let old = subst (StandAfter c.args.credit c.args.names.now c.args.journal.now.items) (sym c.hand_over.ensures.same) c.requires.standing in
    found_at c.args.credit c.args.names.now c.args.journal.now.items (c.collect.new.self).all c.args.event.now c.args.i (c.collect.ensures.standing c.args.credit c.args.names.now c.args.journal.now.items old) c.requires.at
