-- How the links of a ring stand, beside its walks: from whom to whom they go, in which order they opened, and how what is put on
-- them and taken from them fits into the walks.
use Rattle.std.specs.Prelude.{◌≡◌, ◌≢◌, ℕ, ◌<◌, ◌≤◌, true, false, cond, List, [], ◌∷◌, ◌++◌, length, map, Option, Some, None, is_some}
use Rattle.std.specs.List.{flat_map}
use Rattle.group_view.specs.Ring.{is_in}
use Rattle.group_view.specs.View.{entry_in}
use Rattle.ring_rules.specs.Refusal.{is_empty}
use Rattle.ring_rules.specs.View.{is_live, between}
use Rattle.ring_rules.specs.Machine.{Waiting, Packet, World, row_at, numbers_at, member_at, link_at, view_in, newest, ring, left, right, runs, oldest}
use Rattle.ring_rules.specs.OpenLinks.{NeverRises, running_on, owner, version_of, since_in, passes, is_door_link, open_packets, late_packets, early_packets, number, stop_of, round_trip}
use Rattle.ring_rules.specs.Step.{size}

-- ---- where a member takes from

-- The link s comes to y from y's left neighbour in y's view; it opened when that one had become it, and not after that view; and
-- y hasn't taken its end.
pub record ComesFromLeft (w : World) (y s : ℕ) : Type 0 where
  pub there : s < length w.links
  pub receiver : (link_at w s).receiver ≡ y
  pub sender : (link_at w s).sender ≡ left w (version_of w y) y
  pub since : since_in w (version_of w y) y ≤ (link_at w s).opened
  pub upto : (link_at w s).opened ≤ version_of w y
  pub goes_on : (link_at w s).over ≡ false

-- y, which waits, has a current link, that of its admission: it opened with y's view, and a packet stands there
pub record TakesAdmission (w : World) (y : ℕ) : Type 0 where
  pub some : is_some (member_at w y).current ≡ true
  pub opened : (s : ℕ) → (member_at w y).current ≡ Some s → (link_at w s).opened ≡ version_of w y
  pub first : (s : ℕ) → (member_at w y).current ≡ Some s → is_empty (link_at w s).packets ≡ false

-- ---- where it sends

-- the link o goes from x to x's right neighbour in x's view, and hasn't ended
pub record GoesRight (w : World) (x o : ℕ) : Type 0 where
  pub there : o < length w.links
  pub sender : (link_at w o).sender ≡ x
  pub receiver : (link_at w o).receiver ≡ right w (version_of w x) x
  pub goes_on : (link_at w o).ending ≡ None

-- x has never sent: it joined, so in a later view than the first, has still the view in which it was admitted, and no link is
-- from it
pub record HasNeverSent (w : World) (x : ℕ) : Type 0 where
  pub joined : 1 < version_of w x
  pub version : (entry_in (view_in w (version_of w x)).entries x).joined ≡ version_of w x
  pub none : (s : ℕ) → s < length w.links → (link_at w s).sender ≢ x

-- ---- the links to a member

-- Each link came from who was its receiver's left neighbour when it opened, and had become it by then. Of two links to a member
-- the later one opened in a newer version; and the neighbour from which it came became it only after the earlier one had opened,
-- so that a member has one link for each period in which a left neighbour stays.
pub record HavePeriods (w : World) : Type 0 where
  pub sender : (s : ℕ) → s < length w.links → (link_at w s).sender ≡ left w (link_at w s).opened (link_at w s).receiver
  pub since : (s : ℕ) → s < length w.links → since_in w (link_at w s).opened (link_at w s).receiver ≤ (link_at w s).opened
  pub rising : (i j : ℕ) → i < j → j < length w.links → (link_at w i).receiver ≡ (link_at w j).receiver → (link_at w i).opened < (link_at w j).opened
  pub apart : (i j : ℕ) → i < j → j < length w.links → (link_at w i).receiver ≡ (link_at w j).receiver → (link_at w i).opened < since_in w (link_at w j).opened (link_at w j).receiver

-- From the link s, which stands open at y's door, nothing was taken. Its first packet is there, and begins for each origin no
-- later than where y stands; of one that waits, where its own first packet ends.
pub record BeginsNear (w : World) (y s : ℕ) : Type 0 where
  pub untaken : (link_at w s).had.fresh ≡ true
  pub some : is_empty (link_at w s).packets ≡ false
  pub lo : (p : ℕ) → 1 ≤ p → p < size w → (numbers_at (oldest (link_at w s)) p).lo ≤ number (λ k. k.got) (λ r. r.got) w p y

-- ---- who answers for whom

-- p stands in the newest ring, and is dead or erased there
pub record IsGone (w : World) (p : ℕ) : Type 0 where
  pub stands : is_in p (ring w) ≡ true
  pub gone : is_live (view_in w (newest w)) p ≡ false

-- ---- the longer walk

-- The longer walk has, directly behind the own got of each running member that has put a packet on its out link, the got that it
-- put last there: what a member sent last is no more than what it has, and no less than what stands behind it.

-- what was put last of an origin on the link at a place, where a packet was put there
abbrev pub sent_on : World → ℕ → Option ℕ → List ℕ
sent_on w p None = []
sent_on w p (Some o) = cond (link_at w o).sending.fresh [] ((numbers_at (link_at w o).sending.sent p).got ∷ [])

-- what stands at y in the round of got, and behind it what y put last on its out link
abbrev pub longer_stop : World → ℕ → List Packet → ℕ → List ℕ
longer_stop w p packets y = stop_of (λ k. k.got) (λ r. r.got) w p packets y ++ sent_on w p (member_at w y).out

-- the round of got with that
abbrev pub longer_round : World → ℕ → List ℕ → List ℕ
longer_round w p [] = []
longer_round w p (y ∷ ys) =
    longer_stop w p (early_packets w p y) y ++ (flat_map (λ z. longer_stop w p (open_packets w z) z) ys ++ map (λ k. (numbers_at k p).got) (late_packets w p y))

-- the walk with that round
abbrev pub longer_walk_of : World → ℕ → Option ℕ → List ℕ
longer_walk_of w p None = []
longer_walk_of w p (Some y) = longer_round w p (running_on w y) ++ (round_trip (λ k. k.forgot) (λ r. r.forgot) w p (running_on w y) ++ (row_at (member_at w y) p).retired ∷ [])

-- of an origin
abbrev pub longer_walk : World → ℕ → List ℕ
longer_walk w p = longer_walk_of w p (owner w p)

-- ---- together

-- the parts
pub record LinksStand (w : World) : Type 0 where
  -- a running member takes from its left neighbour
  pub current : (y s : ℕ) → runs w y ≡ true → (member_at w y).current ≡ Some s → ComesFromLeft w y s
  -- one that waits takes from the link of its admission
  pub waits : (y : ℕ) → (member_at w y).phase ≡ Waiting → TakesAdmission w y
  -- a running member that sends does so to its right neighbour
  pub out : (x o : ℕ) → runs w x ≡ true → (member_at w x).out ≡ Some o → GoesRight w x o
  -- one that sends nowhere is new: it hasn't refreshed since its admission
  pub nowhere : (x : ℕ) → runs w x ≡ true → (member_at w x).out ≡ None → HasNeverSent w x
  -- one that waits sends nowhere
  pub silent : (x : ℕ) → (member_at w x).phase ≡ Waiting → (member_at w x).out ≡ None
  -- the links to a member opened one after another, one for each period of its left neighbour
  pub periods : HavePeriods w
  -- the longer walk never rises either
  pub longer : (p : ℕ) → 1 ≤ p → p < size w → NeverRises (longer_walk w p)
  -- the first packet at a member's door begins no later than where the member stands
  pub door : (y s : ℕ) → runs w y ≡ true → s < length w.links → is_door_link w y s ≡ true → passes w y (link_at w s) ≡ true → BeginsNear w y s
  -- between a running member and its left neighbour, in the member's view, all are gone
  pub between_gone : (y p : ℕ) → runs w y ≡ true → is_in p (between (view_in w (version_of w y)) (left w (version_of w y) y) y) ≡ true → IsGone w p
  -- of an origin no running member but its owner has anything retired
  pub retired : (y p : ℕ) → 1 ≤ p → p < size w → runs w y ≡ true → owner w p ≢ Some y → (row_at (member_at w y) p).retired ≡ 0
