use Rattle.ring_cluster.specs.Backlog.{backlog_of}
use Rattle.ring_cluster.specs.Turns.{TakesRound}
use Rattle.ring_cluster.proofs.driver.drain.Given as goal

abbrev pub invariant-drains : goal.invariant-drains
invariant-drains l = TakesRound l.initial.cluster l.cluster

abbrev pub decreases-drains : goal.decreases-drains
decreases-drains l = backlog_of l.cluster
