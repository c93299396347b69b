use Rattle.std.proofs.Common.{◌≡◌, ◌≤◌, ◌<◌, ℕ, ◌∷◌}
use Rattle.group_view.specs.Since.{no_group}
use Rattle.ring_rules.specs.View.{left_by}
use Rattle.ring_world.proofs.neighbours.is_kept.Given as goal

abbrev pub invariant-loop-u : goal.invariant-loop-u
invariant-loop-u l = (j : ℕ) → l.opened ≤ j → j < l.u → left_by (no_group ∷ l.views) j l.receiver ≡ l.sender
