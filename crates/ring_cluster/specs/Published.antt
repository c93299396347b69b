-- What the members of a cluster have published, as it tells that.
use Rattle.std.specs.Prelude.{ℕ, ◌-◌, List, map, drop, Option, option_map}
use Rattle.std.specs.List.{range_with_len}
use Rattle.std.specs.Borrow.{Bor}
use Rattle.std.specs.declared.vec.Vec.{Vec}
use Rattle.std.specs.declared.alloc.Global.{Global}
use Rattle.ring_rules.specs.Machine.{Member, World}
use Rattle.ring_rules.specs.Step.{size, log_of}
use Rattle.ring_rules.specs.Published.{told_of}

-- what is told of a message by a body that is lent, where it has one
abbrev pub told_by : Option (Bor (List ℕ)) → Option (List ℕ)
told_by body = option_map (λ (b : Bor (List ℕ)). b.now) body

-- what is told of messages
abbrev pub told_with : List (Option (Bor (List ℕ))) → List (Option (List ℕ))
told_with messages = map told_by messages

-- of those of each member, by places
abbrev pub told_in : List (Vec (Option (Bor (List ℕ))) Global) → List (List (Option (List ℕ)))
told_in all = map (λ (v : Vec (Option (Bor (List ℕ))) Global). told_with v.items) all

-- what is told of each log of a state, by places
abbrev pub told_of_each : World → List (List (Option (List ℕ)))
told_of_each w = map (λ x. map told_of (log_of w x)) (range_with_len 1 (size w - 1))

-- the names of the members, by places
abbrev pub names_in : World → List (List ℕ)
names_in w = map (λ (y : Member). y.name) (drop 1 w.members)
