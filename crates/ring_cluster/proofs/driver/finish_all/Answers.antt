use Rattle.std.proofs.Common.{rules, arith}
use Rattle.ring_cluster.proofs.rounds.Turning.{round_refl, round_trans}
use Rattle.ring_cluster.proofs.driver.finish_all.Goals as goal

pub tasks-init : goal.tasks-init
tasks-init c = round_refl c.perform_each.new.cluster

pub tasks-preserved : goal.tasks-preserved
tasks-preserved c = round_trans c.perform_each.new.cluster c.tasks.cluster c.perform_each-in-tasks.new.cluster c.tasks.invariant c.perform_each-in-tasks.ensures.round

pub returns-in_err-perform_each-2 : goal.returns-in_err-perform_each-2
returns-in_err-perform_each-2 c = record {
  round = round_trans c.args.cluster.now c.perform_each.new.cluster c.perform_each-in-tasks.new.cluster c.perform_each.ensures.round
      (round_trans c.perform_each.new.cluster c.tasks.cluster c.perform_each-in-tasks.new.cluster c.tasks.invariant c.perform_each-in-tasks.ensures.round);
  falls = search rules;
  stays = search rules;
}

pub returns-then-not-branch-2 : goal.returns-then-not-branch-2
returns-then-not-branch-2 c = record {
  round = round_trans c.args.cluster.now c.perform_each.new.cluster c.perform_each-in-tasks.new.cluster c.perform_each.ensures.round
      (round_trans c.perform_each.new.cluster c.tasks.cluster c.perform_each-in-tasks.new.cluster c.tasks.invariant c.perform_each-in-tasks.ensures.round);
  falls = λ _. omega (arith, c.in_ok-perform_each.ensures.falls (search (rules, c.if-not-branch.false)), c.tasks.invariant.less, c.perform_each-in-tasks.ensures.round.less);
  stays = λ x. cc;
}
