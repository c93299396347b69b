use Rattle.std.proofs.Common.{rules}
use Rattle.ring_cluster.proofs.rounds.Resting.{rest_after, drained_empty}
use Rattle.ring_cluster.proofs.rounds.Turning.{round_trans, works_round}
use Rattle.ring_cluster.proofs.driver.drain.Goals as goal

pub returns-in_err-work_out-clause-round : goal.returns-in_err-work_out-clause-round
returns-in_err-work_out-clause-round c = round_trans c.args.cluster.now c.drains.cluster c.work_out.new.cluster c.drains.invariant (works_round c.drains.cluster c.work_out.new.cluster c.work_out.ensures.works)

pub returns-in_err-finish_all-clause-round : goal.returns-in_err-finish_all-clause-round
returns-in_err-finish_all-clause-round c = round_trans c.args.cluster.now c.drains.cluster c.finish_all.new.cluster c.drains.invariant
    (round_trans c.drains.cluster c.work_out.new.cluster c.finish_all.new.cluster (works_round c.drains.cluster c.work_out.new.cluster c.work_out.ensures.works) c.finish_all.ensures.round)

pub returns-then-not-branch-clause-round : goal.returns-then-not-branch-clause-round
returns-then-not-branch-clause-round c = round_trans c.args.cluster.now c.drains.cluster c.finish_all.new.cluster c.drains.invariant
    (round_trans c.drains.cluster c.work_out.new.cluster c.finish_all.new.cluster (works_round c.drains.cluster c.work_out.new.cluster c.work_out.ensures.works) c.finish_all.ensures.round)

pub returns-then-not-branch-clause-empty : goal.returns-then-not-branch-clause-empty
returns-then-not-branch-clause-empty c = drained_empty c.work_out.new.cluster c.finish_all.new.cluster c.is_going.ensures c.in_ok-work_out.ensures.rests (c.in_ok-finish_all.ensures.stays (search (rules, c.if-not-branch.true)))

pub returns-then-not-branch-clause-rests : goal.returns-then-not-branch-clause-rests
returns-then-not-branch-clause-rests c = rest_after c.work_out.new.cluster c.finish_all.new.cluster ((c.in_ok-finish_all.ensures.stays (search (rules, c.if-not-branch.true))).0, c.in_ok-work_out.ensures.rests)

pub drains-preserved : goal.drains-preserved
drains-preserved c = round_trans c.args.cluster.now c.drains.cluster c.finish_all.new.cluster c.drains.invariant
    (round_trans c.drains.cluster c.work_out.new.cluster c.finish_all.new.cluster (works_round c.drains.cluster c.work_out.new.cluster c.work_out.ensures.works) c.finish_all.ensures.round)
