-- A refresh as it looks from the doors: which link opens, to whom, and what the others are after it.
use Rattle.std.proofs.Common.{◌≡◌, ℕ, ◌+◌, ◌<◌, ◌≤◌, Bool, true, false, cond, not, nat_eq, List, [], ◌∷◌, ◌++◌, length, map, max, Option, Some, None, refl, sym, ap, subst, ◌∙◌, arith}
use Rattle.std.specs.Prelude.{◌&&◌, option_map}
use Rattle.std.specs.List.{filter, range_with_len}
use Rattle.std.proofs.lemmas.List.{map-append}
use Rattle.group_view.proofs.Passing.{right_inside}
use Rattle.group_view.specs.Ring.{is_in}
use Rattle.ring_rules.specs.View.{ids, is_live, right_of}
use Rattle.ring_rules.specs.Machine.{Link, World, member_at, link_at, view_in, newest, left, runs, runs_phase, is_kept}
use Rattle.ring_rules.specs.OpenLinks.{comes_from_left, is_place}
use Rattle.ring_rules.specs.Step.{size, look_at}
use Rattle.ring_rules.specs.Event.{refreshed}
use Rattle.ring_rules.proofs.events.WhatRefuses.{MayLook}
use Rattle.ring_rules.proofs.rings.Rounds.{nat_eq-is}
use Rattle.ring_rules.proofs.invariants.Good.{kept_true}
use Rattle.ring_rules.proofs.walks.Views.{right_is}
use Rattle.group_view.proofs.Marks.{right_is as right_of_entry}
use Rattle.ring_rules.proofs.invariants.Happens.{IsGood}
use Rattle.ring_rules.proofs.work.Refreshed as ring
pub use Rattle.ring_rules.proofs.work.Refreshed.{new_link, sending_member, opened_world, old_links, old_many, link_old, link_new, links_more}
use Rattle.gm_member.specs.Held.{Incoming, fresh_in, sends_to, stays}
use Rattle.gm_member.specs.Stands.{incoming_in, outgoing_in, held_in}
use Rattle.gm_member.proofs.DoorLists.{filter_agree, made_agree, filter_more}
use Rattle.ring_rules.proofs.invariants.FromLeft.{OpenedRight, comes_is}
use Rattle.gm_member.proofs.DoorParts.{waits_by}
use Rattle.gm_member.proofs.Doors.{view_version, stays_kept, comes_stays}

-- ---- the link that opens

-- whether x, as it is in w, sends to its right neighbour in the view of version v
abbrev pub sends_right : World → ℕ → ℕ → Bool
sends_right w x v = sends_to (held_in w x).out (right_of (view_in w v) x)

-- what a refresh of x to v brings to the door of y: the link that opens, where one does and goes to y
abbrev pub arriving : World → ℕ → ℕ → ℕ → List Incoming
arriving w x v y = cond (sends_right w x v) [] (cond (nat_eq (right_of (view_in w v) x) y) (fresh_in w.initial w.more x v ∷ []) [])

-- ---- a refresh is one of two

-- the ring says it of the state
sends_right_is : (w : World) (x v : ℕ) → sends_right w x v ≡ ring.sends_right w x v
sends_right_is w x v = by_out (member_at w x).out
  where
    by_out : (o : Option ℕ) → sends_to (option_map (outgoing_in w) o) (right_of (view_in w v) x) ≡ ring.goes_to w (right_of (view_in w v) x) o
    by_out None = refl
    by_out (Some o) = refl

pub refresh_looks : (w : World) (x v : ℕ) → sends_right w x v ≡ true → refreshed w x v ≡ look_at w x v
refresh_looks w x v h = ring.refresh_looks w x v (sym (sends_right_is w x v) ∙ h)

pub refresh_opens : (w : World) (x v : ℕ) → x < size w → sends_right w x v ≡ false → refreshed w x v ≡ opened_world w x v (old_links w x)
refresh_opens w x v l h = ring.refresh_opens w x v l (sym (sends_right_is w x v) ∙ h)

-- ---- the links that were there

-- who receives and who sends on an old link has the same of it
pub incoming_old : (w : World) (x v s : ℕ) → s < length w.links → incoming_in (opened_world w x v (old_links w x)) s ≡ incoming_in w s
incoming_old w x v s l = ap (λ (k : Link). record { from = k.sender; opened = k.opened; counted = k.flow.receiver }) (link_old w x v s l)

pub outgoing_old : (w : World) (x v s : ℕ) → s < length w.links → outgoing_in (opened_world w x v (old_links w x)) s ≡ outgoing_in w s
outgoing_old w x v s l = ap (λ (k : Link). outgoing_in (record w { links = k ∷ [] }) 0) (link_old w x v s l)

-- and it waits at a door by the same test
pub waits_old : (w : World) (x v y : ℕ) (c : Option ℕ) (u s : ℕ) → s < length w.links → waits_by (opened_world w x v (old_links w x)) y c u s ≡ waits_by w y c u s
waits_old w x v y c u s l = ap (λ (k : Link). (nat_eq k.receiver y && (not (is_place c s) && not k.over)) && comes_from_left w y k (max u k.opened)) (link_old w x v s l)

-- ---- the new link at its door

-- it comes from the left
pub new_right : (w : World) (x v : ℕ) → MayLook w x v → IsGood w → OpenedRight w (new_link w x v)
new_right w x v m h =
    let rx : runs w x ≡ true = ap runs_phase m.up in
    let there : is_in x (ids (view_in w v)) ≡ true = h.inv.is_ring.stands x v rx m.later m.upto in
    record {
      upto = m.upto;
      from_left = ap (left w v) (sym (right_is w v x (view_in w v) refl)) ∙ h.inv.is_ring.front x v v rx m.later (omega arith) m.upto;
      known = subst (λ z. is_in z (ids (view_in w v)) ≡ true) (sym (right_of_entry (view_in w v).entries x there)) (right_inside (is_live (view_in w v)) x (ids (view_in w v)) there);
    }

-- so it passes the test of its receiver in each view
pub new_comes : (w : World) (x v u : ℕ) → MayLook w x v → IsGood w → u ≤ newest w → comes_from_left w (right_of (view_in w v) x) (new_link w x v) (max u v) ≡ true
new_comes w x v u m h upto =
    comes_is w (new_link w x v) u h (new_right w x v m h) upto
    ∙ kept_true w (new_link w x v) u (λ k a b. ap (left w k) (sym (right_is w v x (view_in w v) refl)) ∙ h.inv.is_ring.front x v k (ap runs_phase m.up) m.later a (omega arith))

-- so at the door of whoever receives it
pub new_at : (w : World) (x v y u : ℕ) → MayLook w x v → IsGood w → u ≤ newest w → nat_eq (right_of (view_in w v) x) y ≡ true → comes_from_left w y (new_link w x v) (max u v) ≡ true
new_at w x v y u m h upto e = subst (λ q. comes_from_left w q (new_link w x v) (max u v) ≡ true) (nat_eq-is (right_of (view_in w v) x) y e) (new_comes w x v u m h upto)

-- where it passes there, it waits at the door of its receiver alone
pub waits_fresh : (w : World) (x v y : ℕ) (c : Option ℕ) (u : ℕ) → (nat_eq (right_of (view_in w v) x) y ≡ true → comes_from_left w y (new_link w x v) (max u v) ≡ true) → is_place c (length w.links) ≡ false
    → waits_by (opened_world w x v (old_links w x)) y c u (length w.links) ≡ nat_eq (right_of (view_in w v) x) y
waits_fresh w x v y c u comes none =
    ap (λ (k : Link). (nat_eq k.receiver y && (not (is_place c (length w.links)) && not k.over)) && comes_from_left w y k (max u k.opened)) (link_new w x v)
    ∙ ap (λ b. (nat_eq z y && (not b && not false)) && comes_from_left w y (new_link w x v) (max u v)) none
    ∙ by_receiver (nat_eq z y) refl
  where
    z : ℕ
    z = right_of (view_in w v) x

    by_receiver : (b : Bool) → nat_eq z y ≡ b → ((b && (not false && not false)) && comes_from_left w y (new_link w x v) (max u v)) ≡ b
    by_receiver true e = comes e
    by_receiver false e = refl

-- so in a good state
pub waits_new : (w : World) (x v y : ℕ) (c : Option ℕ) (u : ℕ) → MayLook w x v → IsGood w → u ≤ newest w → is_place c (length w.links) ≡ false → waits_by (opened_world w x v (old_links w x)) y c u (length w.links) ≡ nat_eq (right_of (view_in w v) x) y
waits_new w x v y c u m h upto none = waits_fresh w x v y c u (new_at w x v y u m h upto) none

-- ---- a door after the link has opened

-- a link that x opens is as its receiver has it
pub incoming_new : (w : World) (x v : ℕ) → incoming_in (opened_world w x v (old_links w x)) (length w.links) ≡ fresh_in w.initial w.more x v
incoming_new w x v = ap (λ (k : Link). record { from = k.sender; opened = k.opened; counted = k.flow.receiver }) (link_new w x v)

-- the links that pass at the door of y, of which t says which were there
pub door_after : (w : World) (x v y : ℕ) (t : ℕ → Bool) (c : Option ℕ) (u : ℕ) → (nat_eq (right_of (view_in w v) x) y ≡ true → comes_from_left w y (new_link w x v) (max u v) ≡ true) → is_place c (length w.links) ≡ false → ((s : ℕ) → s < length w.links → waits_by w y c u s ≡ t s)
    → map (incoming_in (opened_world w x v (old_links w x))) (filter (waits_by (opened_world w x v (old_links w x)) y c u) (range_with_len 0 (length (opened_world w x v (old_links w x)).links)))
    ≡ map (incoming_in w) (filter t (range_with_len 0 (length w.links))) ++ cond (nat_eq (right_of (view_in w v) x) y) (fresh_in w.initial w.more x v ∷ []) []
door_after w x v y t c u comes none tests =
    ap (λ k. map (incoming_in w') (filter (waits_by w' y c u) (range_with_len 0 k))) (links_more w x v)
    ∙ ap (map (incoming_in w')) (filter_more (waits_by w' y c u) 0 n n (let is : 0 + n ≡ n = omega arith in is))
    ∙ map-append (incoming_in w') (filter (waits_by w' y c u) (range_with_len 0 n)) (cond (waits_by w' y c u n) (n ∷ []) [])
    ∙ ap (λ xs. xs ++ map (incoming_in w') (cond (waits_by w' y c u n) (n ∷ []) []))
    (ap (map (incoming_in w')) (filter_agree (waits_by w' y c u) t 0 n (λ s a b. waits_old w x v y c u s (omega arith) ∙ tests s (omega arith)))
    ∙ made_agree (incoming_in w') (incoming_in w) t 0 n (λ s a b _. incoming_old w x v s (omega arith)))
    ∙ ap (λ b. map (incoming_in w) (filter t (range_with_len 0 n)) ++ map (incoming_in w') (cond b (n ∷ []) [])) (waits_fresh w x v y c u comes none)
    ∙ ap (λ xs. map (incoming_in w) (filter t (range_with_len 0 n)) ++ xs) (by_receiver (nat_eq (right_of (view_in w v) x) y))
  where
    w' : World
    w' = opened_world w x v (old_links w x)

    n : ℕ
    n = length w.links

    by_receiver : (b : Bool) → map (incoming_in w') (cond b (n ∷ []) []) ≡ cond b (fresh_in w.initial w.more x v ∷ []) []
    by_receiver true = ap (λ a. a ∷ []) (incoming_new w x v)
    by_receiver false = refl

-- ---- what a look rests on

-- What x has where it looks at the view of version v: that view's number, the links to x, and that a link which x opens to
-- itself passes at its door.
pub record SeesLinks (w : World) (x v : ℕ) : Type 0 where
  pub may : MayLook w x v
  pub numbered : (view_in w v).version ≡ v
  pub current : (s : ℕ) → (member_at w x).current ≡ Some s → (s < length w.links) × ((link_at w s).receiver ≡ x) × ((link_at w s).opened ≤ (member_at w x).version)
  pub stays_kept : (s u : ℕ) → s < length w.links → (link_at w s).receiver ≡ x → u ≤ newest w → stays (view_in w u) x (incoming_in w s) ≡ is_kept w (link_at w s) u
  pub comes_stays : (s u : ℕ) → s < length w.links → (link_at w s).receiver ≡ x → u ≤ newest w → comes_from_left w x (link_at w s) (max u (link_at w s).opened) ≡ stays (view_in w u) x (incoming_in w s)
  pub own : nat_eq (right_of (view_in w v) x) x ≡ true → comes_from_left w x (new_link w x v) (max v v) ≡ true

-- so in a good state
pub sees_links : (w : World) (x v : ℕ) → MayLook w x v → IsGood w → SeesLinks w x v
sees_links w x v m h =
    let rx : runs w x ≡ true = ap runs_phase m.up in
    record {
      may = m;
      numbered = view_version w v h m.upto;
      current = λ s e. (h.inv.current.lt x s rx e, h.inv.current.receiver x s rx e, h.inv.current.opened x s rx e);
      stays_kept = λ s u there to upto. stays_kept w x s u h there to upto;
      comes_stays = λ s u there to upto. comes_stays w x s u h there to upto;
      own = new_at w x v x v m h m.upto;
    }
