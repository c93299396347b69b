use Rattle.std.proofs.Common.{◌≡◌, ◌+◌}
use Rattle.ring_rules.specs.Step.{size}
use Rattle.ring_cluster.specs.Seen.{state_of}
use Rattle.ring_cluster.proofs.rounds.Turning.{FinishedBelow}
use Rattle.ring_cluster.proofs.driver.perform_each.Given as goal

abbrev pub invariant-loop-place : goal.invariant-loop-place
invariant-loop-place l = record {
  count : l.count + 1 ≡ size (state_of l.initial.cluster);
  finished : FinishedBelow l.initial.cluster l.cluster l.moved l.place;
}
