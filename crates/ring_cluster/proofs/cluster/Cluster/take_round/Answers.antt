use Rattle.std.proofs.Common.{false}
use Rattle.ring_cluster.proofs.deposits.Owed.{but_owing}
use Rattle.ring_cluster.proofs.rounds.Turning.{round_trans, works_round, works_same}
use Rattle.ring_cluster.proofs.cluster.Cluster.take_round.Goals as goal

pub returns-clause-round : goal.returns-clause-round
returns-clause-round g c = round_trans c.args.self.now c.round.new.cluster c.deliver.new.self c.round.ensures.round
    (works_round c.round.new.cluster c.deliver.new.self (works_same c.round.new.cluster c.deliver.new.self (but_owing c.round.new.cluster c.deliver.new.self false c.in_ok-deliver.ensures.ok)))
