use Rattle.std.proofs.Common.{◌≢◌, ℕ, ◌<◌, get_or, None}
use Rattle.group_view.specs.declared.entry.Entry.{Entry}
use Rattle.ring_rules.specs.Event.{erase_refusal}
use Rattle.ring_cluster.specs.Seen.{state_of}
use Rattle.ring_cluster.proofs.driver.next_erasable.Given as goal

abbrev pub invariant-loop-entry : goal.invariant-loop-entry
invariant-loop-entry l = (k : ℕ) (d : Entry) → k < l.entry-index → erase_refusal (state_of l.cluster) l.id.0 (get_or l.entry-items k d).id.0 ≢ None
