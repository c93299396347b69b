-- How much a ring still has to do, as a list of numbers, of which the first that changes falls at each step of repair.
use Rattle.std.specs.Prelude.{ℕ, zero, suc, ◌+◌, ◌-◌, ◌*◌, if◌then◌else◌, ◌≡◌, ◌<◌, ◌≤◌, ◌⊎◌, Bool, false, ◌&&◌, not, nat_eq, nat_lt, length, List, [], ◌∷◌, is_some, Option, Some, None}
use Rattle.std.specs.List.{sum_by, count_by}
use Rattle.ring_names.specs.declared.numbers.MemberId.{MemberId}
use Rattle.group_view.specs.View.{Group, is_live_mark}
use Rattle.group_view.specs.declared.entry.Entry.{Entry}
use Rattle.group_view.specs.Kept.{changes_of}
use Rattle.ring_rules.specs.declared.event.Event.{Event}
use Rattle.ring_rules.specs.Rows.{Row}
use Rattle.ring_rules.specs.Machine.{Member, Link, World, member_at, link_at, view_in, newest}
use Rattle.ring_rules.specs.OpenLinks.{passes, is_current}
use Rattle.ring_rules.specs.Step.{size, log_of}
use Rattle.ring_rules.specs.Lawful.{row_of}
use Rattle.ring_rules.specs.Event.{has_nothing_new, refusal, effect}

-- f 0 + .. + f (n - 1)
abbrev pub sum_below : ℕ → (ℕ → ℕ) → ℕ
sum_below zero f = 0
sum_below (suc n) f = sum_below n f + f n

-- ---- the entries of the newest view

-- The changes that are left to an entry, of the four that each may see: its admission, its death, its erasure, and its
-- registration.
abbrev pub entry_left : Entry → ℕ
entry_left e = 4 - changes_of e

-- those of all entries of the newest view
abbrev pub marks_left : World → ℕ
marks_left w = sum_by entry_left (view_in w (newest w)).entries

-- ---- members

-- whether a member is stale: its view isn't of the version v, the newest, or it sends on no link
abbrev pub is_stale : ℕ → Member → Bool
is_stale v y = not (nat_eq y.version v && is_some y.out)

-- 1 where it is
abbrev pub stale_by : ℕ → Member → ℕ
stale_by v y = if is_stale v y then 1 else 0

-- the same of the member with the id after i; ids count from 1
abbrev pub stale_at : World → ℕ → ℕ
stale_at w i = stale_by (newest w) (member_at w (i + 1))

-- how many members are stale
abbrev pub stale : World → ℕ
stale w = sum_below (size w - 1) (stale_at w)

-- 1 where a member sends on a link and has numbers, of n origins, that it has not sent there, else 0
abbrev pub dirty_on : ℕ → World → Member → Option ℕ → ℕ
dirty_on n w y None = 0
dirty_on n w y (Some o) = if has_nothing_new n y (link_at w o).sending then 0 else 1

-- the same of the member of an id, with n origins
abbrev pub dirty_at : ℕ → World → ℕ → ℕ
dirty_at n w i = dirty_on n w (member_at w i) (member_at w i).out

-- how many members have such numbers
abbrev pub dirty : World → ℕ
dirty w = sum_below (size w) (dirty_at (size w) w)

-- how many messages of a log of this length a row has still to get, to forget, and to retire
abbrev pub lag_row : ℕ → Row → ℕ
lag_row n r = (n - r.got) + (n - r.forgot) + (n - r.retired)

-- those of member q, of origin p
abbrev pub lag_at : World → ℕ → ℕ → ℕ
lag_at w q p = lag_row (length (log_of w p)) (row_of w q p)

-- of all origins
abbrev pub lag_by : World → ℕ → ℕ
lag_by w q = sum_below (size w) (lag_at w q)

-- all members together
abbrev pub lag : World → ℕ
lag w = sum_below (size w - 1) (λ i. lag_by w (i + 1))

-- ---- what masters owe

-- whether it leads
abbrev pub is_led : Option MemberId → ℕ → Bool
is_led None x = false
is_led (Some id) x = nat_eq id.0 x

-- whether a master of a later term, which hasn't started, owes Start
abbrev pub is_late : Group → Bool → Bool
is_late g started = nat_lt 1 g.term && not started

-- whether a live entry that isn't registered came after the version at which a member, whose view is of this version, last told
-- how many messages there are
abbrev pub is_untold : ℕ → ℕ → Entry → Bool
is_untold version told e = is_live_mark e.mark && (not e.synced && (nat_lt told e.joined && nat_lt told version))

-- how many such entries there are
abbrev pub untold : Group → Member → ℕ
untold g y = count_by (is_untold y.version y.told) g.entries

-- what member x owes, where it leads by its view: its Start, and to tell these entries
abbrev pub owed_by : Group → ℕ → Member → ℕ
owed_by g x y = if is_led g.master x then (if is_late g y.started then 1 else 0) + untold g y else 0

-- the same of the member of an id
abbrev pub owed_at : World → ℕ → ℕ
owed_at w x = owed_by (view_in w (member_at w x).version) x (member_at w x)

-- all members together
abbrev pub owed : World → ℕ
owed w = sum_below (size w - 1) (λ i. owed_at w (i + 1))

-- ---- links

-- what is to be taken from a link: its packets, and its end where that wasn't taken yet
abbrev pub items : Link → ℕ
items l = length l.packets + (if is_some l.ending && not l.over then 1 else 0)

-- how far a link is from having been left, where it is over, is its receiver's current link, and passes at its receiver's door
abbrev pub place_by : Bool → Bool → Bool → ℕ
place_by over current door = if over then 0 else (if current then 1 else (if door then 2 else 0))

-- the same of the link at a place
abbrev pub place_at : World → ℕ → ℕ
place_at w s = place_by (link_at w s).over (is_current w (link_at w s).receiver s) (passes w (link_at w s).receiver (link_at w s))

-- what is left of a link: its items, each of which may make a grant, its place, and its grants
abbrev pub weight_at : World → ℕ → ℕ
weight_at w s = 2 * items (link_at w s) + place_at w s + length (link_at w s).flow.grants

-- all links together
abbrev pub on_links : World → ℕ
on_links w = sum_below (length w.links) (weight_at w)

-- ---- all of it

-- What lies on the links and is still to be sent, as one number. A put spends a member's unsent numbers on one packet; a take
-- spends a packet on at most one grant, and leaves numbers unsent only where its member came less behind.
abbrev pub traffic : World → ℕ
traffic w = 3 * dirty w + 3 * lag w + on_links w

-- What a ring has to do. A change of the newest view spends one of the changes left to an entry, whatever it makes stale; a
-- refresh spends a stale member, whatever it opens and ends, and whatever its member owes by the new view; a Start or a
-- Depth spends what is owed, whatever it is behind with then; and all else spends traffic. To add a number, set it in before
-- those that its events may raise.
abbrev pub work : World → List ℕ
work w = marks_left w ∷ stale w ∷ owed w ∷ traffic w ∷ []

-- from these numbers to those, as many, one falls, and none before it rises
abbrev pub Falls : List ℕ → List ℕ → Type 0
Falls [] ms = ⊥
Falls (n ∷ ns) [] = ⊥
Falls (n ∷ ns) (m ∷ ms) = ((m < n) × (length ms ≡ length ns)) ⊎ ((m ≤ n) × Falls ns ms)

-- The same as one number, for at most 64 members: what is told raises traffic by at most 579; a refresh raises that by at
-- most 6, and what is owed by at most 65; and a change of the newest view leaves all but one of the members stale.
abbrev pub total : World → ℕ
total w = 2600000 * marks_left w + 39100 * stale w + 600 * owed w + traffic w

-- an event leaves less to do, where it is enabled: in the list, and in the one number
pub record LeavesLess (w : World) (e : Event) : Type 0 where
  pub falls : refusal w e ≡ None → Falls (work w) (work (effect w e))
  pub less : refusal w e ≡ None → total (effect w e) < total w
