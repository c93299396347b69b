use Rattle.std.proofs.Common.{◌<◌, length, get_or, arith}
use Rattle.ring_parties.specs.declared.party.Party.{Party}
use Rattle.ring_parties.specs.Pairing.{IsHeardIf}
use Rattle.ring_parties.proofs.pairs.Each.{at_here}
use Rattle.ring_parties.proofs.pairs.Done.{done_none, done_all}
use Rattle.ring_parties.proofs.pairs.Hearing.{heard_set}
use Rattle.ring_parties.proofs.pairing.rest_unheard.Goals as goal

pub loop-place-init : goal.loop-place-init
loop-place-init c = done_none (λ _ p q. IsHeardIf c.args.members.now p q) c.args.members.now

pub loop-place-preserved : goal.loop-place-preserved
loop-place-preserved c =
    let l : c.loop-place.place < length c.loop-place.members = omega (arith, c.loop-place-test.true, c.loop-place.auto.members) in
    let x : Party = get_or c.loop-place.members c.loop-place.place c.index-members-place.result in
    heard_set c.loop-place.place c.args.members.now c.loop-place.members x c.hear.new.party c.is_heard-heard.result c.loop-place.invariant
    (at_here c.loop-place.members c.loop-place.place c.index-members-place.result l) c.is_heard-heard.ensures c.hear.ensures

pub returns : goal.returns
returns c = done_all (λ _ p q. IsHeardIf c.args.members.now p q) c.loop-place.place c.args.members.now c.loop-place.members
    (omega (arith, c.loop-place-test.false, c.loop-place.auto.members, c.loop-place.auto.place-end)) c.loop-place.invariant
