use Rattle.std.proofs.Common.{◌≡◌, Some, sym, subst, ◌∙◌}
use Rattle.ring_cluster.specs.declared.driver.OwnTurn.TheVariants as turn
use Rattle.ring_cluster.specs.Seen.{state_of, SameButOwed, with_event}
use Rattle.ring_cluster.specs.Turns.{turn_event}
use Rattle.ring_cluster.proofs.deposits.Owed.{but_refl}
use Rattle.ring_cluster.proofs.rounds.Turning.{works_refl}
use Rattle.ring_cluster.proofs.driver.own_turn.Goals as goal

pub returns-in_default-clause-does : goal.returns-in_default-clause-does
returns-in_default-clause-does c = record {
  works = works_refl c.args.cluster.now;
  falls = λ x. cc;
  stays = λ _. (but_refl c.args.cluster.now, c.in_default.ensures.next);
}

pub returns-in_default-clause-starts : goal.returns-in_default-clause-starts
returns-in_default-clause-starts c = λ up has. let none = sym c.in_default.is ∙ c.next_turn.ensures.starts up has in cc

pub returns-clause-starts : goal.returns-clause-starts
returns-clause-starts c = λ up has.
    let both : Some c.in-Some.turn ≡ Some turn.Start = sym c.in-Some.is ∙ c.next_turn.ensures.starts up has in
    let same : c.in-Some.turn ≡ turn.Start = cc in
    subst (λ t. SameButOwed (with_event c.args.cluster.now (turn_event (state_of c.args.cluster.now) c.args.id.0 t)) c.take_turn.new.cluster) same c.in_ok-take_turn.ensures.done
