use Rattle.std.proofs.Common.{◌+◌, sym, arith}
use Rattle.ring_cluster.proofs.rounds.Counting.{few_more, few_each}
use Rattle.ring_cluster.proofs.rounds.Turning.{begun_more, all_begun, round_trans, member_back, place_still}
use Rattle.ring_cluster.proofs.driver.last_turns.Goals as goal

pub last_turn-requires-after_bounds : goal.last_turn-requires-after_bounds
last_turn-requires-after_bounds g c κs within =
    (place_still c.args.cluster.now c.loop-place.cluster c.loop-place.place c.loop-place.invariant.begun.round.stay (omega (arith, c.loop-place-test.true, c.loop-place.invariant.count)), sym c.name_at-name.ensures)

pub returns-in_err-last_turn-clause-once : goal.returns-in_err-last_turn-clause-once
returns-in_err-last_turn-clause-once g c =
    few_each 1 (c.loop-place.place + 1) c.args.cluster.now c.last_turn.new.cluster
    (few_more 1 c.loop-place.place c.name_at-name.result c.args.cluster.now c.loop-place.cluster c.last_turn.new.cluster c.is_going.ensures
    (member_back c.args.cluster.now c.loop-place.cluster c.loop-place.place c.name_at-name.result c.loop-place.invariant.begun.round.stay (omega (arith, c.loop-place-test.true, c.loop-place.invariant.count)) c.name_at-name.ensures)
    c.loop-place.invariant.few c.last_turn.ensures.once)

pub loop-place-preserved : goal.loop-place-preserved
loop-place-preserved g c =
    let at = member_back c.args.cluster.now c.loop-place.cluster c.loop-place.place c.name_at-name.result c.loop-place.invariant.begun.round.stay (omega (arith, c.loop-place-test.true, c.loop-place.invariant.count)) c.name_at-name.ensures in
    record {
      count = c.loop-place.invariant.count;
      begun = begun_more c.loop-place.place c.name_at-name.result c.args.cluster.now c.loop-place.cluster c.last_turn.new.cluster c.loop-place.invariant.begun at c.last_turn.ensures.round c.in_ok-last_turn.ensures.begun;
      few = few_more 1 c.loop-place.place c.name_at-name.result c.args.cluster.now c.loop-place.cluster c.last_turn.new.cluster c.is_going.ensures at c.loop-place.invariant.few c.last_turn.ensures.once;
    }

pub name_at-name-requires : goal.name_at-name-requires
name_at-name-requires g c = place_still c.args.cluster.now c.loop-place.cluster c.loop-place.place c.loop-place.invariant.begun.round.stay (omega (arith, c.loop-place-test.true, c.loop-place.invariant.count))

pub returns-in_err-last_turn-clause-round : goal.returns-in_err-last_turn-clause-round
returns-in_err-last_turn-clause-round g c = round_trans c.args.cluster.now c.loop-place.cluster c.last_turn.new.cluster c.loop-place.invariant.begun.round c.last_turn.ensures.round

pub returns-clause-begun : goal.returns-clause-begun
returns-clause-begun g c = all_begun c.loop-place.place c.args.cluster.now c.loop-place.cluster (omega (arith, c.loop-place.invariant.count, c.loop-place-test.false, c.loop-place.auto.place-end)) c.loop-place.invariant.begun
