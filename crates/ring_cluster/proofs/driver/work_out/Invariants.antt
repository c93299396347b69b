use Rattle.ring_cluster.specs.Seen.{state_of}
use Rattle.ring_cluster.specs.Turns.{Works}
use Rattle.ring_rules.specs.Work.{total}
use Rattle.ring_cluster.proofs.driver.work_out.Given as goal

abbrev pub invariant-passes : goal.invariant-passes
invariant-passes l = Works l.initial.cluster l.cluster

abbrev pub decreases-passes : goal.decreases-passes
decreases-passes l = total (state_of l.cluster)
