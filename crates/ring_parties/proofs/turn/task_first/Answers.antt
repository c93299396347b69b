use Rattle.std.proofs.Common.{inr, true, [], Ok, sym, ap, subst}
use Rattle.std.specs.Prelude.{option_map}
use Rattle.ring_rules.specs.declared.event.Event.{Event}
use Rattle.ring_rules.specs.Event.{is_asked}
use Rattle.ring_parties.specs.Turn.{Acted}
use Rattle.ring_parties.specs.Turns.{TookTurn}
use Rattle.ring_parties.proofs.turns.Passing.{acted_trans}
use Rattle.ring_parties.proofs.turns.Taken.{took_failed, took_own, took_then}
use Rattle.ring_parties.proofs.turn.task_first.Goals as goal

pub returns-in_err-did-2 : goal.returns-in_err-did-2
returns-in_err-did-2 c =
    let first : Acted [] c.args.party.now c.answer.new.party = c.in_ok-answer.ensures.did_not c.if-branch.false in
    took_failed _ true _ c.args.party.now c.start.new.party c.from_residual-in_err-did-2.result c.from_residual-in_err-did-2.ensures.1 (acted_trans [] [] c.args.party.now c.answer.new.party c.start.new.party first c.in_err-did-2.ensures.err)

pub returns : goal.returns
returns c =
    let first : Acted [] c.args.party.now c.answer.new.party = c.in_ok-answer.ensures.did_not c.if-branch.false in
    subst (λ o. TookTurn true (option_map (λ t. t.now) o) c.args.party.now c.start.new.party (Ok c.own_turn-2.result)) (sym c.in-Some.is)
    (took_then true _ c.args.party.now c.answer.new.party c.start.new.party (Ok c.own_turn-2.result) first
    (took_own _ true _ c.answer.new.party c.start.new.party c.in_ok-did-2.did c.own_turn-2.result c.own_turn-2.ensures.own c.own_turn-2.ensures.nothing (λ (e : Event) is. (ap is_asked is, inr (_, is))) c.in_ok-did-2.ensures))
