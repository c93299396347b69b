use Rattle.std.proofs.Common.{◌≡◌, [], map, take}
use Rattle.ring_rules.specs.Published.{published_in}
use Rattle.ring_cluster.specs.Published.{told_in}
use Rattle.ring_cluster.proofs.published.nothing_of.Given as goal

abbrev pub invariant-loop-place : goal.invariant-loop-place
invariant-loop-place l = told_in l.all.items ≡ map (λ name. published_in name []) (take l._place l.names)
