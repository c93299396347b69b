use Rattle.std.proofs.Common.{false, [], Ok, sym, subst, ◌∙◌}
use Rattle.std.specs.Prelude.{option_map}
use Rattle.ring_parties.specs.declared.turn.Turn.TheVariants as turn
use Rattle.ring_parties.specs.Turn.{Acted}
use Rattle.ring_parties.specs.Turns.{TookTurn}
use Rattle.ring_parties.proofs.turns.Failing.{if_some_at}
use Rattle.ring_parties.proofs.turns.Names.{acted_name}
use Rattle.ring_parties.proofs.turns.Passing.{acted_trans}
use Rattle.ring_parties.proofs.turns.Taken.{Answers, took_failed, took_nothing, took_task, took_then}
use Rattle.ring_parties.proofs.turns.Tries.{tries_did}
use Rattle.ring_parties.proofs.turn.own_first.Goals as goal

pub answer-requires-clause-own : goal.answer-requires-clause-own
answer-requires-clause-own c =
    let first : Acted [] c.args.party.now c.do_own.new.party = c.in_ok-do_own.ensures.did_not c.if-branch.false in
    if_some_at _ c.args.next c.in-Some.task c.in-Some.is c.requires.own ∙ sym (acted_name [] c.args.party.now c.do_own.new.party first)

pub returns-in_err-answer : goal.returns-in_err-answer
returns-in_err-answer c =
    let first : Acted [] c.args.party.now c.do_own.new.party = c.in_ok-do_own.ensures.did_not c.if-branch.false in
    took_failed _ false _ c.args.party.now c.answer.new.party c.from_residual-in_err-answer.result c.from_residual-in_err-answer.ensures.1 (acted_trans [] [] c.args.party.now c.do_own.new.party c.answer.new.party first c.in_err-answer.ensures.err)

pub returns-then-branch-2 : goal.returns-then-branch-2
returns-then-branch-2 c =
    let first : Acted [] c.args.party.now c.do_own.new.party = c.in_ok-do_own.ensures.did_not c.if-branch.false in
    let x = c.in_ok-answer.ensures.did c.if-branch-2.true in
    let task = c.in-Some.task.now in
    subst (λ o. TookTurn false (option_map (λ t. t.now) o) c.args.party.now c.answer.new.party (Ok turn.Task)) (sym c.in-Some.is)
    (took_then false _ c.args.party.now c.do_own.new.party c.answer.new.party (Ok turn.Task) first (took_task false task c.do_own.new.party c.answer.new.party (tries_did (Answers task) c.do_own.new.party c.answer.new.party x.0 x.1 x.2)))

pub returns : goal.returns
returns c =
    let first : Acted [] c.args.party.now c.do_own.new.party = c.in_ok-do_own.ensures.did_not c.if-branch.false in
    took_then false _ c.args.party.now c.do_own.new.party c.answer.new.party (Ok turn.Nothing) first (took_nothing false _ c.do_own.new.party c.answer.new.party (c.in_ok-answer.ensures.did_not c.if-branch-2.false))
