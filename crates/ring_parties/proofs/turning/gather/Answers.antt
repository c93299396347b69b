use Rattle.std.proofs.Common.{◌<◌, length, get_or, [], ◌∷◌, ◌++◌, ap, ◌∙◌, arith}
use Rattle.ring_parties.specs.declared.party.Party.{Party}
use Rattle.ring_parties.specs.Turns.{SameShown}
use Rattle.ring_parties.proofs.pairs.Each.{at_here}
use Rattle.ring_parties.proofs.pairs.Done.{done_all}
use Rattle.ring_parties.proofs.pairs.AllLogs.{logs_next}
use Rattle.ring_parties.proofs.turning.gather.Goals as goal

pub loop-place-preserved : goal.loop-place-preserved
loop-place-preserved c =
    let l : c.loop-place.place < length c.loop-place.members = omega (arith, c.loop-place-test.true, c.loop-place.auto.members) in
    let x : Party = get_or c.loop-place.members c.loop-place.place c.index-members-place.result in
    logs_next c.loop-place.place c.args.members.now c.loop-place.members c.args.logs.now c.loop-place.logs c.add.new.self x c.take_log.new.party c.loop-place.invariant
    (at_here c.loop-place.members c.loop-place.place c.index-members-place.result l)
    c.take_log.ensures.same
    (c.add.ensures.logs ∙ ap (λ g. c.loop-place.logs.logs ++ g ∷ []) c.take_log.ensures.log)
    c.add.ensures.room

pub returns-clause-same : goal.returns-clause-same
returns-clause-same c = done_all (λ _ p q. SameShown p q) c.loop-place.place c.args.members.now c.loop-place.members
    (omega (arith, c.loop-place-test.false, c.loop-place.auto.members, c.loop-place.auto.place-end)) c.loop-place.invariant.shown
