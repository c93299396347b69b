use Rattle.std.proofs.Common.{arith, false, refl, sym, ap, subst, ◌∙◌}
use Rattle.ring_cluster.specs.Plays.{AgendasAreEmpty}
use Rattle.ring_cluster.specs.Seen.{state_of}
use Rattle.ring_cluster.specs.Turns.{AllRest}
use Rattle.ring_cluster.proofs.deposits.Owed.{but_same, but_owing}
use Rattle.ring_cluster.proofs.rounds.Doing.{gone_from}
use Rattle.ring_cluster.proofs.rounds.Playing.{HasGoneOn-trans}
use Rattle.ring_cluster.proofs.rounds.Turning.{works_same}
use Rattle.ring_cluster.proofs.rounds.Numbers.{gives_within, gives_more, on_err}
use Rattle.ring_cluster.proofs.rounds.Resting.{idle_rest, quiet_rest}
use Rattle.ring_cluster.proofs.cluster.Cluster.work_out.Goals as goal

pub returns-clause-idle : goal.returns-clause-idle
returns-clause-idle g c = idle_rest c.deliver.new.self c.is_going.ensures (subst (λ x. AllRest (state_of x)) (sym c.in_ok-deliver.ensures.ok) c.in_ok-drain.ensures.rests)

pub returns-clause-quiet : goal.returns-clause-quiet
returns-clause-quiet g c = quiet_rest c.deliver.new.self c.is_going.ensures (subst (λ x. AllRest (state_of x)) (sym c.in_ok-deliver.ensures.ok) c.in_ok-drain.ensures.rests)

pub returns-clause-rounds : goal.returns-clause-rounds
returns-clause-rounds g c = gives_more 1 64 c.args.self.now c.work_rounds.new.self c.number_round.new.self c.deliver.new.self c.work_rounds.ensures.rounds c.number_round.ensures (ap (λ x. x.rounds) c.in_ok-deliver.ensures.ok ∙ c.drain.ensures.round.given.1)

pub returns-in_err-work_rounds-clause-rounds_begun : goal.returns-in_err-work_rounds-clause-rounds_begun
returns-in_err-work_rounds-clause-rounds_begun g c = on_err c.from_residual.result _ (gives_within 1 64 1 65 c.args.self.now c.work_rounds.new.self (omega arith) (omega arith) c.work_rounds.ensures.rounds)

pub returns-in_err-drain-clause-rounds_begun : goal.returns-in_err-drain-clause-rounds_begun
returns-in_err-drain-clause-rounds_begun g c = on_err c.from_residual-in_err-drain.result _ (gives_within 2 65 1 65 c.args.self.now c.drain.new.cluster (omega arith) (omega arith) (gives_more 1 64 c.args.self.now c.work_rounds.new.self c.number_round.new.self c.drain.new.cluster c.work_rounds.ensures.rounds c.number_round.ensures c.drain.ensures.round.given.1))

pub returns-in_err-deliver-clause-rounds_begun : goal.returns-in_err-deliver-clause-rounds_begun
returns-in_err-deliver-clause-rounds_begun g c = on_err c.from_residual-in_err-deliver.result _ (gives_within 2 65 1 65 c.args.self.now c.deliver.new.self (omega arith) (omega arith) (gives_more 1 64 c.args.self.now c.work_rounds.new.self c.number_round.new.self c.deliver.new.self c.work_rounds.ensures.rounds c.number_round.ensures (ap (λ x. x.rounds) c.in_err-deliver.ensures.err.0 ∙ c.drain.ensures.round.given.1)))

pub returns-in_err-drain-clause-goes : goal.returns-in_err-drain-clause-goes
returns-in_err-drain-clause-goes g c = HasGoneOn-trans c.args.self.now c.work_rounds.new.self c.drain.new.cluster c.work_rounds.ensures.goes
    (gone_from c.work_rounds.new.self c.number_round.new.self c.number_round.new.self c.drain.new.cluster _ _ c.number_round.ensures refl c.drain.ensures.round.goes)

pub returns-in_err-deliver-clause-goes : goal.returns-in_err-deliver-clause-goes
returns-in_err-deliver-clause-goes g c = HasGoneOn-trans c.args.self.now c.work_rounds.new.self c.deliver.new.self c.work_rounds.ensures.goes
    (HasGoneOn-trans c.work_rounds.new.self c.drain.new.cluster c.deliver.new.self
    (gone_from c.work_rounds.new.self c.number_round.new.self c.number_round.new.self c.drain.new.cluster _ _ c.number_round.ensures refl c.drain.ensures.round.goes)
    (works_same c.drain.new.cluster c.deliver.new.self (but_same c.drain.new.cluster c.deliver.new.self c.in_err-deliver.ensures.err.0)).round.goes)

pub returns-clause-goes : goal.returns-clause-goes
returns-clause-goes g c = HasGoneOn-trans c.args.self.now c.work_rounds.new.self c.deliver.new.self c.work_rounds.ensures.goes
    (HasGoneOn-trans c.work_rounds.new.self c.drain.new.cluster c.deliver.new.self
    (gone_from c.work_rounds.new.self c.number_round.new.self c.number_round.new.self c.drain.new.cluster _ _ c.number_round.ensures refl c.drain.ensures.round.goes)
    (works_same c.drain.new.cluster c.deliver.new.self (but_owing c.drain.new.cluster c.deliver.new.self false c.in_ok-deliver.ensures.ok)).round.goes)

pub returns-clause-empty : goal.returns-clause-empty
returns-clause-empty g c = subst AgendasAreEmpty (sym c.in_ok-deliver.ensures.ok) c.in_ok-drain.ensures.empty
