use Rattle.std.proofs.Common.{◌≡◌, ℕ, suc, ◌<◌, false}
use Rattle.ring_rules.specs.Machine.{runs}
use Rattle.ring_world.specs.Shows.{world_of}
use Rattle.ring_world.proofs.quiet.nobody_runs.Given as goal

abbrev pub invariant-loop-place : goal.invariant-loop-place
invariant-loop-place l = (k : ℕ) → k < l.place → runs (world_of l.ring) (suc k) ≡ false
