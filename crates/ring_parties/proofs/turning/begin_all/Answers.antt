use Rattle.std.proofs.Common.{◌<◌, length, get_or, arith}
use Rattle.ring_parties.specs.declared.party.Party.{Party}
use Rattle.ring_parties.specs.Turns.{Begun}
use Rattle.ring_parties.proofs.pairs.Each.{at_here}
use Rattle.ring_parties.proofs.pairs.Done.{done_next, done_all}
use Rattle.ring_parties.proofs.pairs.AllShown.{shown_by, done_shown, one_shown}
use Rattle.ring_parties.proofs.turning.begin_all.Goals as goal

pub returns-in_err-begin-clause-same : goal.returns-in_err-begin-clause-same
returns-in_err-begin-clause-same c =
    let l : c.loop-place.place < length c.loop-place.members = omega (arith, c.loop-place-test.true, c.loop-place.auto.members) in
    let x : Party = get_or c.loop-place.members c.loop-place.place c.index-members-place.result in
    one_shown c.args.members.now c.loop-place.members c.loop-place.place x (record x { node = c.begin.new.self })
    (done_shown (λ _ p q. Begun c.args.number c.args.turns p q) c.loop-place.place c.args.members.now c.loop-place.members (λ _ p q b. b.same) c.loop-place.invariant)
    (at_here c.loop-place.members c.loop-place.place c.index-members-place.result l)
    (shown_by x c.begin.new.self c.begin.ensures.held c.begin.ensures.ends)

pub loop-place-preserved : goal.loop-place-preserved
loop-place-preserved c =
    let l : c.loop-place.place < length c.loop-place.members = omega (arith, c.loop-place-test.true, c.loop-place.auto.members) in
    let x : Party = get_or c.loop-place.members c.loop-place.place c.index-members-place.result in
    let begun : Begun c.args.number c.args.turns x (record x { node = c.begin.new.self }) = record {
      same = shown_by x c.begin.new.self c.begin.ensures.held c.begin.ensures.ends;
      recorded = c.in_ok-begin.ensures.ok;
      room = c.in_ok-begin.ensures.room;
    } in
    done_next (λ _ p q. Begun c.args.number c.args.turns p q) c.loop-place.place c.args.members.now c.loop-place.members x (record x { node = c.begin.new.self }) c.loop-place.invariant
    (at_here c.loop-place.members c.loop-place.place c.index-members-place.result l) begun

pub returns-clause-begun : goal.returns-clause-begun
returns-clause-begun c = done_all (λ _ p q. Begun c.args.number c.args.turns p q) c.loop-place.place c.args.members.now c.loop-place.members
    (omega (arith, c.loop-place-test.false, c.loop-place.auto.members, c.loop-place.auto.place-end)) c.loop-place.invariant

pub returns-clause-same : goal.returns-clause-same
returns-clause-same c = done_shown (λ _ p q. Begun c.args.number c.args.turns p q) c.loop-place.place c.args.members.now c.loop-place.members (λ _ p q b. b.same) c.loop-place.invariant
