use Rattle.std.proofs.Common.{◌≡◌, drop}
use Rattle.group_view.specs.Ring.{first}
use Rattle.group_view.specs.Parts.{live_ids}
use Rattle.group_view.proofs.ring.first_live.Given as goal

abbrev pub invariant-loop-entry : goal.invariant-loop-entry
invariant-loop-entry l = first (live_ids l.entries) ≡ first (live_ids (drop l.entry-index l.entries))
