use Rattle.std.proofs.Common.{◌≡◌, ℕ, suc, ◌<◌, true, Some}
use Rattle.group_view.specs.View.{entry_in}
use Rattle.ring_rules.specs.Machine.{member_at, view_in, newest, runs}
use Rattle.ring_world.specs.Shows.{world_of}
use Rattle.ring_world.proofs.queue_rest.all_are_enrolled.Given as goal

abbrev pub invariant-loop-place : goal.invariant-loop-place
invariant-loop-place l = (k : ℕ) → k < l.place → runs (world_of l.ring) (suc k) ≡ true → (member_at (world_of l.ring) (suc k)).mirror.missing ≡ Some 0 → (entry_in (view_in (world_of l.ring) (newest (world_of l.ring))).entries (suc k)).synced ≡ true
