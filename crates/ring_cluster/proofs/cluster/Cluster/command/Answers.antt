use Rattle.ring_cluster.proofs.rounds.Doing.{commanded_plays}
use Rattle.ring_cluster.proofs.cluster.Cluster.command.Goals as goal

pub returns-clause-plays : goal.returns-clause-plays
returns-clause-plays c = commanded_plays c.args.self.now c.take_command.new.self c.args.command c.requires c.in_ok-take_command.ensures.ok
