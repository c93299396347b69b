-- The walk of an origin told a second time, for proofs: by the links that are kept, each with the packets that count on it.
use Rattle.std.specs.Prelude.{ℕ, Bool, true, false, cond, ◌&&◌, List, [], ◌∷◌, ◌++◌, nat_eq, drop}
use Rattle.std.specs.List.{filter, flat_map}
use Rattle.ring_rules.specs.declared.numbers.Numbers.{Numbers}
use Rattle.ring_rules.specs.Rows.{Row}
use Rattle.group_view.specs.Ring.{rotated, is_in}
use Rattle.ring_rules.specs.Machine.{Packet, Member, Link, World, row_at, numbers_at, member_at, ring, runs, is_kept, is_waiting}
use Rattle.ring_rules.specs.OpenLinks.{number}

-- ---- packets

-- a number of each packet, the newest first
abbrev pub newest_first : (Packet → ℕ) → List Packet → List ℕ
newest_first f [] = []
newest_first f (k ∷ ks) = newest_first f ks ++ f k ∷ []

-- the same of the counted packets of all links, the newest link first
abbrev pub numbers : (Packet → ℕ) → (Link → List Packet) → List Link → List ℕ
numbers f c [] = []
numbers f c (l ∷ ls) = numbers f c ls ++ newest_first f (c l)

-- the packets, where a test passes
abbrev pub when : Bool → List Packet → List Packet
when true ks = ks
when false ks = []

-- what counts of the links that pass a test
abbrev pub only : (Link → Bool) → (Link → List Packet) → Link → List Packet
only e c l = cond (e l) (c l) []

-- what counts of the others
abbrev pub no_but : (Link → Bool) → (Link → List Packet) → Link → List Packet
no_but e c l = cond (e l) [] (c l)

-- what counts of a link to member q: a waiting member's first packet stands for its own numbers
abbrev pub past_first : Bool → List Packet → List Packet
past_first true ks = drop 1 ks
past_first false ks = ks

-- the packets that count of a link to q, whose member is y: all of a link that is kept, but for the first one where y waits for it
abbrev pub counted_by : (Link → ℕ → Bool) → ℕ → Member → Link → List Packet
counted_by kept q y l = when (nat_eq l.receiver q && kept l y.version) (past_first (is_waiting y.phase && nat_eq l.opened y.version) l.packets)

-- the same in a state
abbrev pub counted : World → ℕ → Link → List Packet
counted w q l = counted_by (is_kept w) q (member_at w q) l

-- ---- a round, over the members that run from the owner on: early packets and own number of the owner, packets and own number of each other, late packets of the owner

-- what stands at one member: its packets, and its own number
abbrev pub block : (ℕ → List ℕ) → (ℕ → ℕ) → ℕ → List ℕ
block m f q = m q ++ f q ∷ []

-- the whole round
abbrev pub round : (ℕ → List ℕ) → (ℕ → ℕ) → (ℕ → List ℕ) → (ℕ → List ℕ) → List ℕ → List ℕ
round e f m l [] = []
round e f m l (y ∷ ys) = e y ++ (f y ∷ (flat_map (block m f) ys ++ l y))

-- the entries up to the first that runs
abbrev pub stopped_prefix : (ℕ → Bool) → List ℕ → List ℕ
stopped_prefix r [] = []
stopped_prefix r (x ∷ xs) = cond (r x) [] (x ∷ stopped_prefix r xs)

-- a packet is early where its sender stands among the stopped ones from the origin up to the owner
abbrev pub is_early : List ℕ → Link → Bool
is_early stopped l = is_in l.sender stopped

-- a round of one kind of numbers, over these members
abbrev pub round_of : (Numbers → ℕ) → (Row → ℕ) → World → ℕ → List ℕ → List ℕ → List ℕ
round_of g r w p stopped ys =
    round (λ q. numbers (λ k. g (numbers_at k p)) (only (is_early stopped) (counted w q)) w.links) (number g r w p)
    (λ q. numbers (λ k. g (numbers_at k p)) (counted w q) w.links)
    (λ q. numbers (λ k. g (numbers_at k p)) (no_but (is_early stopped) (counted w q)) w.links) ys

-- how much the first of these members has retired
abbrev pub retired_by : World → ℕ → List ℕ → List ℕ
retired_by w p [] = []
retired_by w p (y ∷ ys) = (row_at (member_at w y) p).retired ∷ []

-- the stopped ones from the origin up to its owner
abbrev pub stopped_from : World → ℕ → List ℕ
stopped_from w p = stopped_prefix (runs w) (rotated p (ring w))

-- those that run, from the origin rightwards
abbrev pub running_from : World → ℕ → List ℕ
running_from w p = filter (runs w) (rotated p (ring w))

-- the walk over these members: the round of got, the round of forgot, and what the owner has retired
abbrev pub walk_over : World → ℕ → List ℕ → List ℕ → List ℕ
walk_over w p stopped ys =
    round_of (λ k. k.got) (λ r. r.got) w p stopped ys ++ (round_of (λ k. k.forgot) (λ r. r.forgot) w p stopped ys ++ retired_by w p ys)

-- the walk of an origin
abbrev pub walk : World → ℕ → List ℕ
walk w p = walk_over w p (stopped_from w p) (running_from w p)
