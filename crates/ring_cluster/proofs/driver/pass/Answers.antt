use Rattle.std.proofs.Common.{rules, sym, subst, ◌+◌, arith}
use Rattle.ring_cluster.proofs.rounds.Turning.{PassedBelow, passed_none, passed_more, works_trans, place_still}
use Rattle.ring_cluster.proofs.driver.pass.Goals as goal

pub loop-place-init : goal.loop-place-init
loop-place-init c = record { count = c.count-count.ensures; passed = passed_none c.args.cluster.now }

pub loop-place-preserved : goal.loop-place-preserved
loop-place-preserved c = record {
  count = c.loop-place.invariant.count;
  passed = subst (λ b. PassedBelow c.args.cluster.now c.work_turn.new.cluster b (c.loop-place.place + 1)) (sym c.either-moved.ensures)
      (passed_more c.args.cluster.now c.loop-place.cluster c.work_turn.new.cluster c.loop-place.moved c.in_ok-did.did c.loop-place.place c.loop-place.invariant.passed c.in_ok-did.ensures.does.works c.in_ok-did.ensures.does.falls c.in_ok-did.ensures.does.stays);
}

pub work_turn-requires : goal.work_turn-requires
work_turn-requires c = place_still c.args.cluster.now c.loop-place.cluster c.loop-place.place c.loop-place.invariant.passed.does.round.stay (omega (arith, c.loop-place-test.true, c.loop-place.invariant.count))

pub returns-in_err-did : goal.returns-in_err-did
returns-in_err-did c = record {
  works = works_trans c.args.cluster.now c.loop-place.cluster c.work_turn.new.cluster c.loop-place.invariant.passed.does c.work_turn.ensures.does.works;
  falls = search rules;
  stays = search rules;
}
