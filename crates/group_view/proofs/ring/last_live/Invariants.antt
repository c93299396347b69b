use Rattle.std.proofs.Common.{◌≡◌, take}
use Rattle.std.specs.Prelude.{option_map}
use Rattle.group_view.specs.View.{number}
use Rattle.group_view.specs.Parts.{live_ids, last}
use Rattle.group_view.proofs.ring.last_live.Given as goal

abbrev pub invariant-loop-entry : goal.invariant-loop-entry
invariant-loop-entry l = option_map number l.found ≡ last (live_ids (take l.entry-index l.entries))
