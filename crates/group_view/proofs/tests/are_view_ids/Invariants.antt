use Rattle.std.proofs.Common.{◌≡◌, ◌≤◌, true, drop, length, nat_lt}
use Rattle.std.specs.List.{list_all}
use Rattle.group_view.specs.Ring.{AreDistinct}
use Rattle.group_view.specs.View.{ids}
use Rattle.group_view.proofs.tests.are_view_ids.Given as goal

abbrev pub invariant-loop-from : goal.invariant-loop-from
invariant-loop-from l = record {
  within : l.from ≤ length l.entries;
  distinct : AreDistinct (ids (drop l.from l.entries));
  fresh : list_all (λ n. nat_lt n l.next_id) (ids (drop l.from l.entries)) ≡ true;
}

abbrev pub decreases-loop-from : goal.decreases-loop-from
decreases-loop-from l = l.from
