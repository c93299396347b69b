use Rattle.std.proofs.Common.{◌≡◌, ℕ, suc, ◌<◌, true}
use Rattle.std.specs.Prelude.{is_some}
use Rattle.ring_rules.specs.Machine.{member_at, runs}
use Rattle.ring_world.specs.Shows.{world_of}
use Rattle.ring_world.proofs.queue_rest.all_know.Given as goal

abbrev pub invariant-loop-place : goal.invariant-loop-place
invariant-loop-place l = (k : ℕ) → k < l.place → runs (world_of l.ring) (suc k) ≡ true → is_some (member_at (world_of l.ring) (suc k)).mirror.missing ≡ true
