use Rattle.std.proofs.Common.{◌≡◌, map}
use Rattle.std.specs.List.{range_with_len}
use Rattle.ring_script.specs.Load.{name_at}
use Rattle.ring_script.proofs.load.first_members.Given as goal

abbrev pub invariant-loop-place : goal.invariant-loop-place
invariant-loop-place l = l.names.items ≡ map name_at (range_with_len 0 l.place)
