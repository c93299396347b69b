use Rattle.std.proofs.Common.{◌≡◌, ◌++◌, suc, map, drop}
use Rattle.std.specs.List.{filter}
use Rattle.group_view.specs.View.{ids}
use Rattle.ring_rules.specs.Machine.{runs}
use Rattle.ring_world.specs.Shows.{world_of}
use Rattle.ring_world.proofs.walk.push_running.Given as goal

abbrev pub invariant-loop-entry : goal.invariant-loop-entry
invariant-loop-entry l =
    map suc l.running.items ++ filter (runs (world_of l.ring)) (ids (drop l.entry-index l.entries))
    ≡ map suc l.initial.running.items ++ filter (runs (world_of l.ring)) (ids l.entries)
