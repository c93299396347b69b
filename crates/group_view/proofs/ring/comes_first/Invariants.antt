use Rattle.std.proofs.Common.{◌≡◌, drop}
use Rattle.group_view.specs.View.{ids}
use Rattle.group_view.specs.Parts.{comes_before}
use Rattle.group_view.proofs.ring.comes_first.Given as goal

abbrev pub invariant-loop-entry : goal.invariant-loop-entry
invariant-loop-entry l = comes_before l.x.0 l.y.0 (ids l.entries) ≡ comes_before l.x.0 l.y.0 (ids (drop l.entry-index l.entries))
