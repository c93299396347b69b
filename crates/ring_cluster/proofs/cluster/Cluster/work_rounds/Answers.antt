use Rattle.std.proofs.Common.{rules, refl, ap, ◌∙◌, arith}
use Rattle.ring_cluster.proofs.rounds.Doing.{gone_from}
use Rattle.ring_cluster.proofs.rounds.Playing.{HasGoneOn-trans}
use Rattle.ring_cluster.proofs.rounds.Numbers.{gives_next}
use Rattle.ring_cluster.proofs.cluster.Cluster.work_rounds.Goals as goal

pub returns-in_err-round-clause-rounds : goal.returns-in_err-round-clause-rounds
returns-in_err-round-clause-rounds g c = gives_next c.loop-round._round 1 64 c.args.self.now c.loop-round.self c.number_round.new.self c.round.new.cluster (omega arith) (omega (arith, c.loop-round-test.true)) c.loop-round.invariant.rounds c.number_round.ensures c.round.ensures.round.given.1

pub returns-then-happened-before-clause-rounds : goal.returns-then-happened-before-clause-rounds
returns-then-happened-before-clause-rounds g c = gives_next c.loop-round._round 1 64 c.args.self.now c.loop-round.self c.number_round.new.self c.round.new.cluster (omega arith) (omega (arith, c.loop-round-test.true)) c.loop-round.invariant.rounds c.number_round.ensures c.round.ensures.round.given.1

pub returns-in_err-round-clause-goes : goal.returns-in_err-round-clause-goes
returns-in_err-round-clause-goes g c = HasGoneOn-trans c.args.self.now c.loop-round.self c.round.new.cluster c.loop-round.invariant.goes
    (gone_from c.loop-round.self c.number_round.new.self c.number_round.new.self c.round.new.cluster _ _ c.number_round.ensures refl c.round.ensures.round.goes)

pub loop-round-preserved : goal.loop-round-preserved
loop-round-preserved g c = record {
  goes = HasGoneOn-trans c.args.self.now c.loop-round.self c.round.new.cluster c.loop-round.invariant.goes
      (gone_from c.loop-round.self c.number_round.new.self c.number_round.new.self c.round.new.cluster _ _ c.number_round.ensures refl c.round.ensures.round.goes);
  given = c.round.ensures.round.given.0 ∙ ap (λ x. x.given) c.number_round.ensures ∙ c.loop-round.invariant.given;
  rounds = search rules;
}
