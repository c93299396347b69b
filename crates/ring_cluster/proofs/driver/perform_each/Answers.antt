use Rattle.std.proofs.Common.{◌+◌, sym, subst, arith}
use Rattle.ring_cluster.specs.Turns.{IsMemberAt}
use Rattle.ring_cluster.proofs.rounds.Doing.{performed_less}
use Rattle.ring_cluster.proofs.rounds.Turning.{FinishedBelow, finished_none, finished_more, performed_or, rests_named, place_still}
use Rattle.ring_cluster.proofs.driver.perform_each.Goals as goal

pub loop-place-init : goal.loop-place-init
loop-place-init c = record { count = c.count-count.ensures; finished = finished_none c.args.cluster.now }

pub name_at-name-requires : goal.name_at-name-requires
name_at-name-requires c = place_still c.args.cluster.now c.loop-place.cluster c.loop-place.place c.loop-place.invariant.finished.does.stay (omega (arith, c.loop-place-test.true, c.loop-place.invariant.count))

pub loop-place-preserved : goal.loop-place-preserved
loop-place-preserved c =
    let at : IsMemberAt c.loop-place.cluster c.loop-place.place c.name_at-name.result = (place_still c.args.cluster.now c.loop-place.cluster c.loop-place.place c.loop-place.invariant.finished.does.stay (omega (arith, c.loop-place-test.true, c.loop-place.invariant.count)), sym c.name_at-name.ensures) in
    record {
      count = c.loop-place.invariant.count;
      finished = subst (λ b. FinishedBelow c.args.cluster.now c.perform.new.self b (c.loop-place.place + 1)) (sym c.either-moved.ensures)
          (finished_more c.args.cluster.now c.loop-place.cluster c.perform.new.self c.loop-place.moved c.in_ok-did.did c.loop-place.place c.loop-place.invariant.finished
          (performed_or c.loop-place.place c.name_at-name.result c.loop-place.cluster c.perform.new.self c.in_ok-did.did c.is_going.ensures at c.in_ok-did.ensures.done c.in_ok-did.ensures.none)
          (λ t. performed_less c.loop-place.place c.name_at-name.result c.loop-place.cluster c.perform.new.self c.is_going.ensures at (c.in_ok-did.ensures.done t))
          (λ f. rests_named c.loop-place.place c.name_at-name.result c.loop-place.cluster c.perform.new.self at (c.in_ok-did.ensures.none f)));
    }

pub returns : goal.returns
returns c =
    let below = c.loop-place.invariant.finished in
    record {
      round = below.does;
      falls = below.falls;
      stays = λ none. (below.stays none, λ i name at. below.rests none i (omega (arith, at.0, c.loop-place.invariant.count, c.loop-place-test.false)) name at);
    }
