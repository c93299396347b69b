use Rattle.std.proofs.Common.{[], ◌∷◌, ap}
use Rattle.ring_rules.specs.declared.event.Event.{Event}
use Rattle.ring_rules.specs.Event.{is_asked}
use Rattle.ring_parties.specs.Turn.{Acted}
use Rattle.ring_parties.proofs.turns.Passing.{acted_trans}
use Rattle.ring_parties.proofs.turns.Tries.{tries_did, tries_failed, tries_then}
use Rattle.ring_parties.proofs.turn.do_own.Goals as goal

pub returns-in_err-take : goal.returns-in_err-take
returns-in_err-take c =
    let first : Acted [] c.args.party.now c.start.new.party = c.in_ok-start.ensures.did_not c.if-branch.false in
    tries_failed _ _ c.args.party.now c.take.new.party c.from_residual-in_err-take.result c.from_residual-in_err-take.ensures.1 (acted_trans [] [] c.args.party.now c.start.new.party c.take.new.party first c.in_err-take.ensures.err)

pub returns-then-branch-2 : goal.returns-then-branch-2
returns-then-branch-2 c =
    let first : Acted [] c.args.party.now c.start.new.party = c.in_ok-start.ensures.did_not c.if-branch.false in
    let x = c.in_ok-take.ensures.did c.if-branch-2.true in
    tries_did _ c.args.party.now c.take.new.party x.0 (ap is_asked x.1) (acted_trans [] (x.0 ∷ []) c.args.party.now c.start.new.party c.take.new.party first x.2)

pub returns-in_err-gain : goal.returns-in_err-gain
returns-in_err-gain c =
    let first : Acted [] c.args.party.now c.start.new.party = c.in_ok-start.ensures.did_not c.if-branch.false in
    let second : Acted [] c.args.party.now c.take.new.party = acted_trans [] [] c.args.party.now c.start.new.party c.take.new.party first (c.in_ok-take.ensures.did_not c.if-branch-2.false) in
    tries_failed _ _ c.args.party.now c.gain.new.party c.from_residual-in_err-gain.result c.from_residual-in_err-gain.ensures.1 (acted_trans [] [] c.args.party.now c.take.new.party c.gain.new.party second c.in_err-gain.ensures.err)

pub returns-then-branch-3 : goal.returns-then-branch-3
returns-then-branch-3 c =
    let first : Acted [] c.args.party.now c.start.new.party = c.in_ok-start.ensures.did_not c.if-branch.false in
    let second : Acted [] c.args.party.now c.take.new.party = acted_trans [] [] c.args.party.now c.start.new.party c.take.new.party first (c.in_ok-take.ensures.did_not c.if-branch-2.false) in
    let x = c.in_ok-gain.ensures.did c.if-branch-3.true in
    tries_did _ c.args.party.now c.gain.new.party x.0 (ap is_asked x.1) (acted_trans [] (x.0 ∷ []) c.args.party.now c.take.new.party c.gain.new.party second x.2)

pub returns-in_err-did : goal.returns-in_err-did
returns-in_err-did c =
    let first : Acted [] c.args.party.now c.start.new.party = c.in_ok-start.ensures.did_not c.if-branch.false in
    let second : Acted [] c.args.party.now c.take.new.party = acted_trans [] [] c.args.party.now c.start.new.party c.take.new.party first (c.in_ok-take.ensures.did_not c.if-branch-2.false) in
    let third : Acted [] c.args.party.now c.gain.new.party = acted_trans [] [] c.args.party.now c.take.new.party c.gain.new.party second (c.in_ok-gain.ensures.did_not c.if-branch-3.false) in
    tries_failed _ _ c.args.party.now c.put.new.party c.from_residual-in_err-did.result c.from_residual-in_err-did.ensures.1 (acted_trans [] [] c.args.party.now c.gain.new.party c.put.new.party third c.in_err-did.ensures.err)

pub returns : goal.returns
returns c =
    let first : Acted [] c.args.party.now c.start.new.party = c.in_ok-start.ensures.did_not c.if-branch.false in
    let second : Acted [] c.args.party.now c.take.new.party = acted_trans [] [] c.args.party.now c.start.new.party c.take.new.party first (c.in_ok-take.ensures.did_not c.if-branch-2.false) in
    let third : Acted [] c.args.party.now c.gain.new.party = acted_trans [] [] c.args.party.now c.take.new.party c.gain.new.party second (c.in_ok-gain.ensures.did_not c.if-branch-3.false) in
    tries_then _ _ c.args.party.now c.gain.new.party c.put.new.party _ (λ (e : Event) is. ap is_asked is) third c.in_ok-did.ensures
