use Rattle.std.proofs.Common.{ap, sym, subst, ◌∙◌}
use Rattle.ring_rules.specs.Event.{refusal}
use Rattle.ring_rules.specs.Work.{LeavesLess}
use Rattle.ring_cluster.specs.Seen.{state_of, SameButOwed, with_event}
use Rattle.ring_cluster.proofs.rounds.Resting.{to_do_less, to_do_enabled}
use Rattle.ring_cluster.proofs.driver.take_turn.Goals as goal

pub happens-requires-clause-less : goal.happens-requires-clause-less
happens-requires-clause-less c = subst (LeavesLess (state_of c.args.cluster.now)) (sym c.event_of-event.ensures)
    (to_do_less c.args.cluster.now c.args.id.0 c.args.turn c.is_going.ensures c.requires.within.0 c.requires.within.1 c.requires.turn)

pub unreachable-requires : goal.unreachable-requires
unreachable-requires c =
    (c.in_ok-did.ensures.does.stays c.if-not-did.true).1
    (ap (refusal (state_of c.args.cluster.now)) c.event_of-event.ensures
    ∙ to_do_enabled c.args.cluster.now c.args.id.0 c.args.turn c.is_going.ensures c.requires.within.0 c.requires.within.1 c.requires.turn)

pub returns-clause-done : goal.returns-clause-done
returns-clause-done c = subst (λ e. SameButOwed (with_event c.args.cluster.now e) c.happens.new.cluster) c.event_of-event.ensures (c.in_ok-did.ensures.done c.if-not-did.false)
