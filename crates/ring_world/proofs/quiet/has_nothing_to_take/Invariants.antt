use Rattle.std.proofs.Common.{◌≡◌, ℕ, suc, ◌<◌, true}
use Rattle.ring_rules.specs.Machine.{link_at}
use Rattle.ring_rules.specs.OpenLinks.{is_open}
use Rattle.ring_rules.specs.Event.{holds_nothing}
use Rattle.ring_world.specs.Shows.{world_of}
use Rattle.ring_world.proofs.quiet.has_nothing_to_take.Given as goal

abbrev pub invariant-loop-s : goal.invariant-loop-s
invariant-loop-s l = (s : ℕ) → s < l.s → is_open (world_of l.ring) (suc l.place) s ≡ true → holds_nothing (link_at (world_of l.ring) s) ≡ true
