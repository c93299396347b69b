use Rattle.std.proofs.Common.{◌≡◌, ◌+◌, ◌-◌, ◌≤◌, ◌++◌, length, take, drop}
use Rattle.std.specs.Vec.{vec_len, vec_capacity}
use Rattle.registrar.specs.Registry.{beside}
use Rattle.registrar.specs.Handled.{links_for}
use Rattle.registrar.proofs.giving.give_all.Given as goal

abbrev pub invariant-loop-place : goal.invariant-loop-place
invariant-loop-place g l =
    (l.place ≤ length l.links.items)
    × (take l.place l.links.items ++ beside l.by.0 (drop l.place l.links.items) ≡ beside l.by.0 l.initial.links.items)
    × (l.given.items ++ links_for l.by.0 (drop l.place l.links.items) ≡ l.initial.given.items ++ links_for l.by.0 l.initial.links.items)
    × (vec_len l.given + length (links_for l.by.0 (drop l.place l.links.items)) ≤ vec_capacity l.given)

abbrev pub decreases-loop-place : goal.decreases-loop-place
decreases-loop-place g l = length l.links.items - l.place
