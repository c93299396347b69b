use Rattle.std.proofs.Common.{◌≡◌, map, take}
use Rattle.ring_rules.specs.Published.{published_in}
use Rattle.ring_cluster.specs.Published.{told_in}
use Rattle.ring_cluster.proofs.published.told_of.Given as goal

abbrev pub invariant-loop-event : goal.invariant-loop-event
invariant-loop-event l = told_in l.all.items ≡ map (λ name. published_in name (take l.event-index l.events)) l.names
