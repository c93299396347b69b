use Rattle.std.proofs.Common.{◌<◌, length, arith}
use Rattle.ring_parties.proofs.pairs.Each.{at_here}
use Rattle.ring_parties.proofs.pairs.Below.{none_below, next_below, may_below, all_below, tried_met, tried_count}
use Rattle.ring_parties.proofs.pairing.meet_pairs.Goals as goal

pub loop-place-init : goal.loop-place-init
loop-place-init c = none_below c.args.members.now

pub meet_pair-meets-requires-clause-may : goal.meet_pair-meets-requires-clause-may
meet_pair-meets-requires-clause-may c = may_below c.loop-place.place c.args.members.now c.loop-place.members c.requires c.loop-place.invariant

pub loop-place-preserved : goal.loop-place-preserved
loop-place-preserved c =
    let may = may_below c.loop-place.place c.args.members.now c.loop-place.members c.requires c.loop-place.invariant in
    let count = tried_count c.loop-place.place c.loop-place.members c.meet_pair-meets.new.members c.meet_pair-meets.result c.meet_pair-meets.ensures in
    let l : c.loop-place.place < length c.meet_pair-meets.new.members = omega (arith, c.loop-place-test.true, c.loop-place.auto.members, count) in
    next_below c.loop-place.place c.args.members.now c.loop-place.members _ c.meet_pair-meets.result may c.loop-place.invariant
    (tried_met c.loop-place.place c.loop-place.members c.meet_pair-meets.new.members _ c.meet_pair-meets.result may c.meet_pair-meets.ensures (at_here c.meet_pair-meets.new.members c.loop-place.place _ l))

pub returns-clause-met : goal.returns-clause-met
returns-clause-met c = all_below c.loop-place.place c.args.members.now c.loop-place.members (omega (arith, c.loop-place-test.false, c.loop-place.auto.members, c.loop-place.auto.place-end)) c.loop-place.invariant

pub returns-clause-may : goal.returns-clause-may
returns-clause-may c = may_below c.loop-place.place c.args.members.now c.loop-place.members c.requires c.loop-place.invariant
