use Rattle.std.proofs.Common.{ℕ, ◌<◌, get_or}
use Rattle.group_view.specs.View.{no_entry}
use Rattle.ring_rules.specs.Quiet.{IsSettled}
use Rattle.ring_world.specs.Shows.{world_of}
use Rattle.ring_world.proofs.quiet.are_settled.Given as goal

abbrev pub invariant-loop-entry : goal.invariant-loop-entry
invariant-loop-entry l = (k : ℕ) → k < l.entry-index → IsSettled (world_of l.ring) (get_or l.entries k no_entry)
