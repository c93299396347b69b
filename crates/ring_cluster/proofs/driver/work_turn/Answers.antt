use Rattle.std.proofs.Common.{sym, ap, ◌∙◌, arith}
use Rattle.ring_rules.specs.Machine.{runs_phase}
use Rattle.ring_cluster.proofs.deposits.Owed.{but_refl}
use Rattle.ring_cluster.proofs.rounds.Members.{members_few}
use Rattle.ring_cluster.proofs.rounds.Turning.{works_refl}
use Rattle.ring_cluster.proofs.driver.work_turn.Goals as goal

pub returns-then-not-runs-clause-does : goal.returns-then-not-runs-clause-does
returns-then-not-runs-clause-does c = record {
  works = works_refl c.args.cluster.now;
  falls = λ x. cc;
  stays = λ _. (but_refl c.args.cluster.now, λ runs. let no = sym c.runs.ensures ∙ c.if-not-runs.true in cc);
}

pub overflow_cast-id : goal.overflow_cast-id
overflow_cast-id c = omega (arith, c.requires, members_few c.args.cluster.now c.is_going.ensures)

pub overflow_add-id : goal.overflow_add-id
overflow_add-id c = omega (arith, c.requires, members_few c.args.cluster.now c.is_going.ensures)

pub returns-then-not-runs-clause-starts : goal.returns-then-not-runs-clause-starts
returns-then-not-runs-clause-starts c = λ up has. let no = sym (ap runs_phase up) ∙ sym c.runs.ensures ∙ c.if-not-runs.true in cc
