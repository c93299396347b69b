use Rattle.std.proofs.Common.{◌≡◌, ◌+◌}
use Rattle.ring_rules.specs.Step.{size}
use Rattle.ring_cluster.specs.Seen.{state_of}
use Rattle.ring_cluster.proofs.rounds.Counting.{FewBelow}
use Rattle.ring_cluster.proofs.rounds.Turning.{BegunBelow}
use Rattle.ring_cluster.proofs.driver.last_turns.Given as goal

abbrev pub invariant-loop-place : goal.invariant-loop-place
invariant-loop-place g l = record {
  count : l.count + 1 ≡ size (state_of l.initial.cluster);
  begun : BegunBelow l.place l.initial.cluster l.cluster;
  few : FewBelow 1 l.place l.initial.cluster l.cluster;
}
