use Rattle.std.proofs.Common.{◌≡◌, ◌≤◌, ◌++◌, map, drop, length}
use Rattle.std.specs.Prelude.{reverse}
use Rattle.std.specs.List.{filter}
use Rattle.group_view.specs.View.{ids, number, is_alias}
use Rattle.group_view.proofs.ring.push_aliases.Given as goal

abbrev pub invariant-loop-end : goal.invariant-loop-end
invariant-loop-end l = record {
  within : l.end ≤ length l.part;
  pushed : map number l.aliases.items ≡ map number l.initial.aliases.items ++ filter (is_alias l.entries l.id.0) (reverse (ids (drop l.end l.part)));
}

abbrev pub decreases-loop-end : goal.decreases-loop-end
decreases-loop-end l = l.end
