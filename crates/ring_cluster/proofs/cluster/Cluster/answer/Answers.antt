use Rattle.ring_cluster.proofs.deposits.Owed.{but_same}
use Rattle.ring_cluster.proofs.rounds.Numbers.{on_err}
use Rattle.ring_cluster.proofs.cluster.Cluster.answer.Goals as goal

pub returns-in_err-give-clause-err : goal.returns-in_err-give-clause-err
returns-in_err-give-clause-err c = on_err c.from_residual-in_err-give.result _ (but_same c.args.self.now c.give.new.self c.in_err-give.ensures.err)
