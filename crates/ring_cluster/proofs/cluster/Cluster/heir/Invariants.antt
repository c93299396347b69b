use Rattle.std.proofs.Common.{◌≡◌, ℕ, ◌+◌, ◌<◌, false}
use Rattle.ring_rules.specs.Machine.{runs}
use Rattle.ring_rules.specs.Step.{size}
use Rattle.ring_cluster.specs.Seen.{state_of}
use Rattle.ring_cluster.proofs.cluster.Cluster.heir.Given as goal

abbrev pub invariant-loop-place : goal.invariant-loop-place
invariant-loop-place l = record {
  count : l.count + 1 ≡ size (state_of l.self);
  none : (k : ℕ) → k < l.place → runs (state_of l.self) (k + 1) ≡ false;
}
