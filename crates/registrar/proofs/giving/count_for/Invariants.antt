use Rattle.std.proofs.Common.{◌≡◌, ◌+◌, ◌≤◌, length, drop}
use Rattle.registrar.specs.Handled.{links_for}
use Rattle.registrar.proofs.giving.count_for.Given as goal

abbrev pub invariant-loop-waiting_link : goal.invariant-loop-waiting_link
invariant-loop-waiting_link g l =
    (l.count ≤ l.waiting_link-index)
    × (l.count + length (links_for l.by.0 (drop l.waiting_link-index l.links)) ≡ length (links_for l.by.0 l.links))
