use Rattle.ring_cluster.specs.Backlog.{backlog_of}
use Rattle.ring_cluster.specs.Turns.{TakesRound}
use Rattle.ring_cluster.proofs.driver.finish_all.Given as goal

abbrev pub invariant-tasks : goal.invariant-tasks
invariant-tasks l = TakesRound l.initial.cluster l.cluster

abbrev pub decreases-tasks : goal.decreases-tasks
decreases-tasks l = backlog_of l.cluster
