use Rattle.std.proofs.Common.{◌≡◌, ◌++◌, map, take, drop}
use Rattle.group_view.specs.Parts.{dated_right_of}
use Rattle.group_view.proofs.ring.date_right_of.Given as goal

abbrev pub invariant-loop-place : goal.invariant-loop-place
invariant-loop-place l =
    l.entries ≡ map (dated_right_of l.left.0 l.version l.initial.entries) (take l.place l.initial.entries) ++ drop l.place l.initial.entries
