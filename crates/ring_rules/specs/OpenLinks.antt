-- The walk of an origin round the ring, told by the links that stand open to each member.
use Rattle.std.specs.Prelude.{ℕ, ◌≤◌, ⊤, Bool, false, cond, not, ◌&&◌, ◌||◌, nat_eq, nat_le, max, List, [], ◌∷◌, ◌++◌, length, map, drop, reverse, Option, Some, None}
use Rattle.std.specs.List.{filter, flat_map, range_with_len}
use Rattle.ring_rules.specs.declared.numbers.Numbers.{Numbers}
use Rattle.ring_rules.specs.Rows.{Row}
use Rattle.group_view.specs.Ring.{is_in, first, rotated}
use Rattle.group_view.specs.View.{entry_in}
use Rattle.ring_rules.specs.View.{between}
use Rattle.ring_rules.specs.Machine.{Phase, Waiting, Up, Stopped, Packet, Member, Link, World, no_packet, oldest, row_at, numbers_at, member_at, link_at, view_in, newest, ring, left, runs, is_waiting}

-- ---- the owner

-- the running members from y rightwards in the newest ring, y included
abbrev pub running_on : World → ℕ → List ℕ
running_on w y = filter (runs w) (rotated y (ring w))

-- the owner of an origin is the first of them from the origin on
abbrev pub owner : World → ℕ → Option ℕ
owner w p = first (running_on w p)

-- ---- links that are open to y

-- the version of y's view
abbrev pub version_of : World → ℕ → ℕ
version_of w y = (member_at w y).version

-- since when the left neighbour that y has in the view of a version has been it
abbrev pub since_in : World → ℕ → ℕ → ℕ
since_in w u y = (entry_in (view_in w u).entries y).since

-- in the view u, the sender is y's left neighbour, and it was that already when the link opened
abbrev pub comes_from_left : World → ℕ → Link → ℕ → Bool
comes_from_left w y l u = nat_eq l.sender (left w u y) && nat_le (since_in w u y) l.opened

-- the test of a link at y's door: it comes from the left in y's view, or in the view in which it opened where that is newer
abbrev pub passes : World → ℕ → Link → Bool
passes w y l = comes_from_left w y l (max (version_of w y) l.opened)

-- whether the link at place s is the one that y takes from
abbrev pub is_place : Option ℕ → ℕ → Bool
is_place None s = false
is_place (Some t) s = nat_eq t s

-- of y
abbrev pub is_current : World → ℕ → ℕ → Bool
is_current w y s = is_place (member_at w y).current s

-- It stands at y's door where it goes to y, isn't y's current link, and wasn't left. A link is left when its receiver takes its
-- end, and then it is over; or by a refresh of its receiver, when it no longer comes from the left. For that nothing has to be
-- kept with the link: it never passes the test again, as its receiver's view only becomes newer.
abbrev pub is_door_link : World → ℕ → ℕ → Bool
is_door_link w y s = nat_eq (link_at w s).receiver y && (not (is_current w y s) && not (link_at w s).over)

-- a link is open to y where it is y's current link, or stands at y's door and passes the test
abbrev pub is_open : World → ℕ → ℕ → Bool
is_open w y s = is_current w y s || (is_door_link w y s && passes w y (link_at w s))

-- the places of the links open to y, in order of opening
abbrev pub open_links : World → ℕ → List ℕ
open_links w y = filter (is_open w y) (range_with_len 0 (length w.links))

-- ---- their packets

-- The packets of one, the oldest first. A waiting member counts with the numbers of the first packet of its current link, so
-- that packet isn't among them.
abbrev pub packets_of : World → ℕ → ℕ → List Packet
packets_of w y s = cond (is_waiting (member_at w y).phase && is_current w y s) (drop 1 (link_at w s).packets) (link_at w s).packets

-- the packets on these links: the newest link comes first, and in each link the newest packet comes first
abbrev pub packets_on : World → ℕ → List ℕ → List Packet
packets_on w y links = reverse (flat_map (packets_of w y) links)

-- of all links that are open to y
abbrev pub open_packets : World → ℕ → List Packet
open_packets w y = packets_on w y (open_links w y)

-- What comes to the owner y of p is late in three cases: p is y; p stands between the sender and y in the newest ring; the
-- sender is y itself. Otherwise it is early.
abbrev pub is_late : World → ℕ → ℕ → ℕ → Bool
is_late w p y s = nat_eq p y || (is_in p (between (view_in w (newest w)) (link_at w s).sender y) || nat_eq (link_at w s).sender y)

-- the late ones
abbrev pub late_packets : World → ℕ → ℕ → List Packet
late_packets w p y = packets_on w y (filter (is_late w p y) (open_links w y))

-- the early ones
abbrev pub early_packets : World → ℕ → ℕ → List Packet
early_packets w p y = packets_on w y (filter (λ s. not (is_late w p y s)) (open_links w y))

-- ---- what stands at a member

-- the first packet of the link that a member takes from
abbrev pub first_packet : World → Option ℕ → Packet
first_packet w None = no_packet
first_packet w (Some s) = oldest (link_at w s)

-- a running member's number for an origin
abbrev pub own_number : (Numbers → ℕ) → (Row → ℕ) → World → ℕ → Phase → Member → ℕ
own_number g r w p Waiting y = g (numbers_at (first_packet w y.current) p)
own_number g r w p Up y = r (row_at y p)
own_number g r w p Stopped y = r (row_at y p)

-- the number of the member of an id
abbrev pub number : (Numbers → ℕ) → (Row → ℕ) → World → ℕ → ℕ → ℕ
number g r w p q = own_number g r w p (member_at w q).phase (member_at w q)

-- ---- the walk

-- the packets' numbers for p, and then the member's own
abbrev pub stop_of : (Numbers → ℕ) → (Row → ℕ) → World → ℕ → List Packet → ℕ → List ℕ
stop_of g r w p packets y = map (λ k. g (numbers_at k p)) packets ++ number g r w p y ∷ []

-- one round, from the owner on: the early packets and the owner; for each further member, what is open to it and itself; the
-- late packets
abbrev pub round_trip : (Numbers → ℕ) → (Row → ℕ) → World → ℕ → List ℕ → List ℕ
round_trip g r w p [] = []
round_trip g r w p (y ∷ ys) =
    stop_of g r w p (early_packets w p y) y ++ (flat_map (λ z. stop_of g r w p (open_packets w z) z) ys ++ map (λ k. g (numbers_at k p)) (late_packets w p y))

-- the round of got, the round of forgot, and retired of the owner; nothing where no member runs
abbrev pub walk_of : World → ℕ → Option ℕ → List ℕ
walk_of w p None = []
walk_of w p (Some y) =
    round_trip (λ k. k.got) (λ a. a.got) w p (running_on w y) ++ (round_trip (λ k. k.forgot) (λ a. a.forgot) w p (running_on w y) ++ (row_at (member_at w y) p).retired ∷ [])

-- the walk of an origin
abbrev pub the_walk : World → ℕ → List ℕ
the_walk w p = walk_of w p (owner w p)

-- of the origin that somebody is, and nothing for nobody
abbrev pub walk_named : World → Option ℕ → List ℕ
walk_named w None = []
walk_named w (Some p) = the_walk w p

-- ---- that it never rises

-- no number is greater than the one before it, from a on
abbrev pub FallsFrom : ℕ → List ℕ → Type 0
FallsFrom a [] = ⊤
FallsFrom a (x ∷ xs) = (x ≤ a) × FallsFrom x xs

-- no number is greater than the one before it
abbrev pub NeverRises : List ℕ → Type 0
NeverRises [] = ⊤
NeverRises (x ∷ xs) = FallsFrom x xs
