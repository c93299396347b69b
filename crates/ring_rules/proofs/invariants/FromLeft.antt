-- A link from its receiver's left neighbour, opened since that one has been it: just such a link is kept.
use Rattle.std.proofs.Common.{◌≡◌, ℕ, zero, suc, ◌<◌, ◌≤◌, true, false, not, nat_eq, nat_le, List, ◌∷◌, length, drop, get_or, Some, max, sym, ap, subst, ◌∙◌, ⊎_elim, arith}
use Rattle.std.specs.Cmp.{both_ways}
use Rattle.std.proofs.lemmas.Bool.{not-true, and_parts, false≢true, leb-true, le-leb, cases_lt, and_from}
use Rattle.std.proofs.lemmas.List.Quantifiers.{position-Some}
use Rattle.group_view.specs.Ring.{is_in}
use Rattle.group_view.specs.View.{Group, entry_in}
use Rattle.group_view.specs.Since as group
use Rattle.group_view.specs.Since.{no_group, IsSince, KeepsLeft, KeepsSince, since_at}
use Rattle.group_view.proofs.History.{Ends}
use Rattle.group_view.proofs.KeptLeft.{keeps_since, since_keeps}
use Rattle.group_view.proofs.Passing.{left_inside}
use Rattle.group_view.proofs.Rings.{nat_eq-is, nat_eq-same}
use Rattle.ring_rules.specs.View.{ids, is_live, left_of, left_by}
use Rattle.ring_rules.specs.Machine.{Link, World, no_link, member_at, link_at, view_in, newest, left, runs, is_kept}
use Rattle.ring_rules.specs.Step.{size}
use Rattle.ring_rules.specs.Event.{is_at_door, at_door}
use Rattle.ring_rules.specs.Lawful.{ViewsKeepSince}
use Rattle.ring_rules.specs.OpenLinks.{since_in, comes_from_left}
use Rattle.ring_rules.proofs.invariants.Good.{Kept, kept_true, true_kept}
use Rattle.ring_rules.proofs.walks.Views.{left_in_view}
use Rattle.ring_rules.proofs.invariants.Kept.{Inv}

-- ---- what holds in every state

-- the views are those of a group that opened and changed
pub record HasViews (w : World) : Type 0 where
  pub groups : List Group
  pub is : w.views ≡ no_group ∷ groups
  pub ends : Ends groups (view_in w (newest w))

-- the next id is that of the next member
abbrev pub HasNextId : World → Type 0
HasNextId w = (view_in w (newest w)).next_id ≡ size w

-- the invariant of the walk; the views; and ids in order
pub record IsGood (w : World) : Type 0 where
  pub inv : Inv w
  pub views : HasViews w
  pub next_id : HasNextId w

-- in each of them each entry has since when its left neighbour has been it
pub views_keep_since : (w : World) → HasViews w → ViewsKeepSince w
views_keep_since w h = subst (λ vs. KeepsSince (drop 1 vs)) (sym h.is) h.ends.history.dated

-- ---- the test by the left neighbour and since

-- the left neighbour as the group's history has it
pub left_of_group : (w : World) (h : HasViews w) (u y : ℕ) → left w u y ≡ group.left_at h.groups u y
unfolding left_by group.left_at
left_of_group w h u y = ap (λ vs. left_of (get_or vs u no_group) y) h.is

-- in version 0 is nobody
pub nobody_first : (w : World) (h : HasViews w) (u y : ℕ) → is_in y (ids (view_in w u)) ≡ true → 1 ≤ u
nobody_first w h zero y i = absurd (false≢true (sym (ap (λ vs. is_in y (ids (get_or vs 0 no_group))) h.is) ∙ i))
nobody_first w h (suc u) y i = omega arith

-- so who runs has a view
pub version_some : (w : World) (x : ℕ) → IsGood w → runs w x ≡ true → 1 ≤ (member_at w x).version
version_some w x h r = nobody_first w h.views (member_at w x).version x (h.inv.is_ring.stands x (member_at w x).version r (omega arith) (h.inv.is_ring.held x))

-- what a link comes to that passes the test in a view
pub comes : (w : World) (y u : ℕ) (l : Link) → l.sender ≡ left w u y → since_in w u y ≤ l.opened → comes_from_left w y l u ≡ true
comes w y u l e le = and_from (nat_eq l.sender (left w u y)) (nat_le (since_in w u y) l.opened) (subst (λ q. nat_eq l.sender q ≡ true) e (nat_eq-same l.sender)) (le-leb (since_in w u y) l.opened le)

-- and the other way
pub came : (w : World) (y u : ℕ) (l : Link) → comes_from_left w y l u ≡ true → (l.sender ≡ left w u y) × (since_in w u y ≤ l.opened)
came w y u l h =
    let a = and_parts (nat_eq l.sender (left w u y)) (nat_le (since_in w u y) l.opened) h in
    (nat_eq-is l.sender (left w u y) a.0, leb-true (since_in w u y) l.opened a.1)

-- A link opened in a version that is there, from who was its receiver's left neighbour then.
pub record OpenedRight (w : World) (l : Link) : Type 0 where
  pub upto : l.opened ≤ newest w
  pub from_left : left w l.opened l.receiver ≡ l.sender
  pub known : is_in l.receiver (ids (view_in w l.opened)) ≡ true

pub opened_right : (w : World) (s : ℕ) → IsGood w → s < length w.links → OpenedRight w (link_at w s)
opened_right w s h l = record { upto = h.inv.linked.opened s l; from_left = h.inv.linked.from_left s l; known = h.inv.history.known s l }

-- its sender stands in the view in which it opened
pub sender_known : (w : World) (s : ℕ) → IsGood w → s < length w.links → is_in (link_at w s).sender (ids (view_in w (link_at w s).opened)) ≡ true
sender_known w s h there =
    let l = link_at w s in
    let v = view_in w l.opened in
    let known : is_in l.receiver (ids v) ≡ true = h.inv.history.known s there in
    subst (λ q. is_in q (ids v) ≡ true) (sym (left_in_view w l.opened l.receiver known) ∙ h.inv.linked.from_left s there)
    (left_inside (is_live v) l.receiver (ids v) (h.inv.is_ring.distinct l.opened (h.inv.linked.opened s there)) known)

-- in the later of a version and the one in which it opened, a link comes from the left exactly where it is kept up to that version
pub comes_is : (w : World) (l : Link) (v : ℕ) → IsGood w → OpenedRight w l → v ≤ newest w → comes_from_left w l.receiver l (max v l.opened) ≡ is_kept w l v
comes_is w l v h o upto =
    ⊎_elim
    (λ (newer : v < l.opened).
    ap (comes_from_left w y l) (let is : max v l.opened ≡ l.opened = omega arith in is)
    ∙ comes w y l.opened l (sym o.from_left) (let d : IsSince groups y l.opened (since_in w l.opened y) = dated l.opened (omega arith) o.upto in d.upto)
    ∙ sym (kept_true w l v (λ k a b. absurd (omega arith))))
    (λ (older : l.opened ≤ v).
    ap (comes_from_left w y l) (let is : max v l.opened ≡ v = omega arith in is) ∙ both_ways (comes_from_left w y l v) (is_kept w l v) (λ e. kept_true w l v (stays older (came w y v l e))) (λ e. seen older (true_kept w l v e)))
    (cases_lt v l.opened)
  where
    y : ℕ
    y = l.receiver

    groups : List Group
    groups = h.views.groups

    present : (u : ℕ) → l.opened ≤ u → u ≤ newest w → is_in y (ids (view_in w u)) ≡ true
    present u a b = h.inv.history.grows y l.opened u o.known a b

    some : 1 ≤ l.opened
    some = nobody_first w h.views l.opened y o.known

    same_view : (u : ℕ) → view_in w u ≡ group.view_at groups u
    same_view u = ap (λ vs. get_or vs u no_group) h.views.is

    since_is : (u : ℕ) → since_at groups u y ≡ since_in w u y
    since_is u = sym (ap (λ (k : Group). (entry_in k.entries y).since) (same_view u))

    dated : (u : ℕ) → l.opened ≤ u → u ≤ newest w → IsSince groups y u (since_in w u y)
    dated u a b =
        subst (IsSince groups y u) (since_is u)
        (h.views.ends.history.dated u y (omega (arith, some)) (omega (arith, ap length h.views.is, h.inv.is_ring.some)) (sym (ap (λ k. is_in y (ids k)) (same_view u)) ∙ present u a b))

    stays : l.opened ≤ v → (l.sender ≡ left w v y) × (since_in w v y ≤ l.opened) → Kept w l v
    stays older e = λ u a b.
        let d : IsSince groups y v (since_in w v y) = dated v older upto in
        let now : group.left_at groups v y ≡ l.sender = sym (left_of_group w h.views v y) ∙ sym e.0 in
        left_of_group w h.views u y ∙ keeps_since groups y v (since_in w v y) l.sender l.opened d e.1 now u a b

    seen : l.opened ≤ v → Kept w l v → comes_from_left w y l v ≡ true
    seen older k =
        let d : IsSince groups y v (since_in w v y) = dated v older upto in
        let keeps : KeepsLeft groups y l.sender l.opened v = (λ u a b. sym (left_of_group w h.views u y) ∙ k u a b) in
        let e = since_keeps groups y v (since_in w v y) l.sender l.opened d some older keeps in
        comes w y v l (sym e.1 ∙ sym (left_of_group w h.views v y)) e.0

-- ---- the link that stands first at a member's door

-- It goes to y, isn't taken to its end, and comes from the left in y's view.
pub record StandsAtDoor (w : World) (y s : ℕ) : Type 0 where
  pub there : s < length w.links
  pub receiver : (link_at w s).receiver ≡ y
  pub goes_on : (link_at w s).over ≡ false
  pub from_left : comes_from_left w y (link_at w s) (member_at w y).version ≡ true

-- of any link by the test
pub at_door_stands : (w : World) (y s : ℕ) → s < length w.links → is_at_door w y (link_at w s) ≡ true → StandsAtDoor w y s
unfolding left_by
at_door_stands w y s lt e =
    let l = link_at w s in
    let a = and_parts (nat_eq l.receiver y) _ e in
    let b = and_parts (not l.over) _ a.1 in
    record { there = lt; receiver = nat_eq-is l.receiver y a.0; goes_on = not-true l.over b.0; from_left = b.1 }

-- and of the first one
pub found_at_door : (w : World) (y s : ℕ) → at_door w y ≡ Some s → StandsAtDoor w y s
found_at_door w y s e = let f = position-Some (is_at_door w y) w.links s no_link e in at_door_stands w y s f.0 f.1

-- it is kept up to y's view, where that isn't older than the link
pub door_kept : (w : World) (y s : ℕ) → IsGood w → StandsAtDoor w y s → (link_at w s).opened ≤ (member_at w y).version → is_kept w (link_at w s) (member_at w y).version ≡ true
door_kept w y s h d upto =
    let l = link_at w s in
    let v : ℕ = (member_at w y).version in
    sym (comes_is w l v h (opened_right w s h d.there) (h.inv.is_ring.held y))
    ∙ ap (comes_from_left w l.receiver l) (let is : max v l.opened ≡ v = omega arith in is)
    ∙ ap (λ x. comes_from_left w x l v) d.receiver
    ∙ d.from_left
