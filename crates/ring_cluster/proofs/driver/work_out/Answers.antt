use Rattle.ring_cluster.proofs.rounds.Resting.{rest_after}
use Rattle.ring_cluster.proofs.rounds.Turning.{works_trans}
use Rattle.ring_cluster.proofs.driver.work_out.Goals as goal

pub returns-then-not-branch-clause-rests : goal.returns-then-not-branch-clause-rests
returns-then-not-branch-clause-rests c = rest_after c.passes.cluster c.pass.new.cluster (c.in_ok-pass.ensures.stays c.if-not-branch.true)

pub returns-in_err-pass-clause-works : goal.returns-in_err-pass-clause-works
returns-in_err-pass-clause-works c = works_trans c.args.cluster.now c.passes.cluster c.pass.new.cluster c.passes.invariant c.pass.ensures.works

pub returns-then-not-branch-clause-works : goal.returns-then-not-branch-clause-works
returns-then-not-branch-clause-works c = works_trans c.args.cluster.now c.passes.cluster c.pass.new.cluster c.passes.invariant c.pass.ensures.works

pub passes-preserved : goal.passes-preserved
passes-preserved c = works_trans c.args.cluster.now c.passes.cluster c.pass.new.cluster c.passes.invariant c.pass.ensures.works
