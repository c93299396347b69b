use Rattle.std.proofs.Common.{◌≡◌, ◌+◌, ◌≤◌, length, drop}
use Rattle.std.specs.List.{filter}
use Rattle.registrar.specs.Registry.{is_for}
use Rattle.registrar.proofs.giving.count_named.Given as goal

abbrev pub invariant-loop-waiting_link : goal.invariant-loop-waiting_link
invariant-loop-waiting_link g l =
    (l.count ≤ l.waiting_link-index)
    × (l.count + length (filter (is_for l.by.0) (drop l.waiting_link-index l.links)) ≡ length (filter (is_for l.by.0) l.links))
