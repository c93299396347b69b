use Rattle.std.proofs.Common.{true, false, inr, refl}
use Rattle.ring_cluster.proofs.deposits.Owed.{stepped_is, owing_is}
use Rattle.ring_cluster.proofs.cluster.Cluster.step.Goals as goal

pub returns-in-Ok-clause-ok : goal.returns-in-Ok-clause-ok
returns-in-Ok-clause-ok c = stepped_is c.args.self.now c.happen.new.self c.number_round.new.self c.deliver.new.self c.args.event.now false c.in_ok-happen.ensures.ok c.number_round.ensures c.in-Ok.ensures.ok

pub returns-in-Err-clause-err : goal.returns-in-Err-clause-err
returns-in-Err-clause-err c = inr (refl, c.in_ok-happen.ensures.enabled, inr (stepped_is c.args.self.now c.happen.new.self c.number_round.new.self c.deliver.new.self c.args.event.now true c.in_ok-happen.ensures.ok c.number_round.ensures (owing_is c.number_round.new.self c.deliver.new.self true c.in-Err.ensures.err.0 c.in-Err.ensures.err.1)))
