use Rattle.std.proofs.Common.{◌≡◌, ℕ, suc, ◌<◌, true}
use Rattle.ring_rules.specs.Machine.{runs}
use Rattle.ring_rules.specs.Quiet.{IsResting}
use Rattle.ring_world.specs.Shows.{world_of}
use Rattle.ring_world.proofs.quiet.all_rest.Given as goal

abbrev pub invariant-loop-place : goal.invariant-loop-place
invariant-loop-place l = (k : ℕ) → k < l.place → runs (world_of l.ring) (suc k) ≡ true → IsResting (world_of l.ring) (suc k)
