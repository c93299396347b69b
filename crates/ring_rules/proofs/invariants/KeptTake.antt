-- A take keeps the whole invariant.
use Rattle.std.proofs.Common.{◌≡◌, ◌≢◌, ℕ, ◌<◌, ◌≤◌, Bool, true, false, cond, List, [], ◌∷◌, length, refl, sym, ap, subst, ◌∙◌, arith, nat_eq, ⊎_elim, ◌⊎◌, Some}
use Rattle.std.proofs.lemmas.Bool.{cases_eq, cases_lt, false≢true}
use Rattle.std.proofs.lemmas.List.{length-set}
use Rattle.std.proofs.lemmas.List.FromFn.{length-map-range_with_len}
use Rattle.std.proofs.lemmas.List.Elements.{filter_agree}
use Rattle.ring_rules.specs.Refusal.{is_empty}
use Rattle.ring_rules.proofs.events.WhatRefuses.{MayTake}
use Rattle.group_view.specs.Ring.{others, is_in}
use Rattle.ring_rules.specs.View.{ids, between}
use Rattle.ring_rules.specs.Machine.{Waiting, Up, World, no_member, no_link, no_packet, member_at, link_at, view_in, row_at, numbers_at, newest, ring, runs, is_kept, is_waiting}
use Rattle.ring_rules.specs.Rows.{no_row, taken_row}
use Rattle.ring_rules.proofs.walks.CountedWalk.{counted, walk, running_from}
use Rattle.ring_rules.specs.Step.{size, popped, take_from, taker, is_owned, log_of}
use Rattle.ring_rules.proofs.rings.Lists.{at_set, get_or_beyond}
use Rattle.ring_rules.proofs.invariants.Good.{never_rises_still}
use Rattle.ring_rules.proofs.invariants.Standing.{knows, standing}
use Rattle.ring_rules.proofs.walks.OwnerStops.{AllPackets, IsPacket, IsRetiredRight}
use Rattle.ring_rules.proofs.invariants.Shape.{IsShaped, taker_shaped}
use Rattle.ring_rules.proofs.walks.Put.{runs_phase-Up, counted_not_kept, counted_other}
use Rattle.ring_rules.proofs.walks.Take.{CanTake, Standing, elsewhere, first_time, unknown, come_round, taken_packet, take_walk, take_runs, row_at-taker, take_retired_other, take_retired, head_once}
use Rattle.ring_rules.proofs.walks.Refresh.{kept_less}
use Rattle.group_view.proofs.Rings.{in_before, nat_eq-is, others_inside}
use Rattle.ring_rules.proofs.invariants.Kept.{Inv, AllPackets-first, AllPackets-drop, shaped_packed, shaped_current, shaped_keeps, set_alike, waits_alike}

-- the conditions of a take
pub can_take : (w : World) (y s : ℕ) → Inv w → MayTake w y s → CanTake w y s
can_take w y s h m =
    let ry : runs w y ≡ true = runs_phase-Up w y m.up in
    record {
      is_member = m.is_member;
      up = m.up;
      is_link = h.current.lt y s ry m.current;
      receiver = h.current.receiver y s ry m.current;
      is_kept_so_far = h.current.kept_yet y s ry m.current;
      has = m.has;
      is_oldest = λ j l. ⊎_elim
          (λ (is : (link_at w j).receiver ≡ y).
          subst (λ q. counted w q (link_at w j) ≡ []) is (counted_not_kept w (link_at w j).receiver (link_at w j)
          (not_kept j l is (is_kept w (link_at w j) (member_at w (link_at w j).receiver).version) refl)))
          (λ (d : (link_at w j).receiver ≢ y). counted_other w y (link_at w j) d)
          (cases_eq (link_at w j).receiver y);
      waiting = h.waiting;
    }
  where
    not_kept : (j : ℕ) → j < s → (link_at w j).receiver ≡ y → (b : Bool) → is_kept w (link_at w j) (member_at w (link_at w j).receiver).version ≡ b → b ≡ false
    not_kept j l is false e = refl
    not_kept j l is true e =
        let ry : runs w y ≡ true = runs_phase-Up w y m.up in
        let late : (link_at w s).opened ≤ (member_at w (link_at w j).receiver).version = subst (λ q. (link_at w s).opened ≤ (member_at w q).version) (sym is) (h.current.opened y s ry m.current) in
        absurd (false≢true (sym (h.linked.period j s l (h.current.lt y s ry m.current) (is ∙ sym (h.current.receiver y s ry m.current))) ∙ kept_less w (link_at w j) (link_at w s).opened (member_at w (link_at w j).receiver).version late e))

pub take_shape : (w : World) (y s : ℕ) → CanTake w y s → IsShaped w (take_from w y s).members (take_from w y s).links
take_shape w y s c = taker_shaped w y s (taker w y s) c.is_member c.is_link (λ q r. sym (take_runs w y s q c.is_member) ∙ r) refl refl

pub packet_zero : (w : World) (s : ℕ) → Inv w → s < length w.links → is_empty (link_at w s).packets ≡ false → IsPacket w (link_at w s) (taken_packet w s)
packet_zero w s h l e = AllPackets-first (IsPacket w (link_at w s)) (link_at w s).packets no_packet e (h.packed.packets s l)

pub take_standing : (w : World) (y s p : ℕ) → Inv w → MayTake w y s → is_in p (ring w) ≡ true → p < size w → Standing w y s p
take_standing w y s p h m inside pl =
    let c : CanTake w y s = can_take w y s h m in
    let ry : runs w y ≡ true = runs_phase-Up w y m.up in
    standing_zero inside c
  where
    -- of the taken packet alone
    standing_zero : is_in p (ring w) ≡ true → CanTake w y s → Standing w y s p
    standing_zero i c =
        standing w y s p h.is_ring h.linked h.history h.ordered h.numbered.zero (packet_zero w s h c.is_link c.has).zero
        (record { can = c; opened = h.current.opened y s (runs_phase-Up w y m.up) m.current; version = m.version }) i

pub not_owned : (w : World) (y s p : ℕ) → Inv w → MayTake w y s → knows w (member_at w y).version p ≡ false → is_owned (view_in w (member_at w y).version) y (link_at w s).sender p ≡ false
not_owned w y s p h m k = by_self (nat_eq p y) refl
  where
    outside : (b : Bool) → is_in p (between (view_in w (member_at w y).version) (link_at w s).sender y) ≡ b → b ≡ false
    outside false e = refl
    outside true e =
        absurd (false≢true (sym k ∙ others_inside (link_at w s).sender p (ids (view_in w (member_at w y).version)) (in_before p y (others (link_at w s).sender (ids (view_in w (member_at w y).version))) e)))

    by_self : (b : Bool) → nat_eq p y ≡ b → cond b true (is_in p (between (view_in w (member_at w y).version) (link_at w s).sender y)) ≡ false
    by_self true e =
        absurd (false≢true (sym k ∙ ap (knows w (member_at w y).version) (nat_eq-is p y e) ∙ h.is_ring.stands y (member_at w y).version (runs_phase-Up w y m.up) (omega arith) (h.is_ring.held y)))
    by_self false e = outside (is_in p (between (view_in w (member_at w y).version) (link_at w s).sender y)) refl

pub take_zero : (w : World) (y s p : ℕ) → Inv w → MayTake w y s → knows w (member_at w y).version p ≡ false → ((row_at (taker w y s) p).got ≡ 0) × ((row_at (taker w y s) p).forgot ≡ 0)
take_zero w y s p h m k = ⊎_elim
    (λ (lt : p < size w).
    let c : CanTake w y s = can_take w y s h m in
    let older : knows w (taken_packet w s).version p ≡ false = not_known (knows w (taken_packet w s).version p) refl in
    let z : IsPacket w (link_at w s) (taken_packet w s) = packet_zero w s h c.is_link c.has in
    let row : row_at (taker w y s) p ≡ taken_row false (log_of w p) (row_at (member_at w y) p) (numbers_at (taken_packet w s) p) =
    row_at-taker w y s p lt ∙ ap (λ b. taken_row b (log_of w p) (row_at (member_at w y) p) (numbers_at (taken_packet w s) p)) (not_owned w y s p h m k) in
    (ap (λ a. a.got) row ∙ (z.zero p older).0, ap (λ a. a.forgot) row ∙ (z.zero p older).1))
    (λ (ge : size w ≤ p).
    let none : row_at (taker w y s) p ≡ no_row = get_or_beyond (taker w y s).rows p no_row (omega (arith, length-map-range_with_len (λ p. taken_row (is_owned (view_in w (member_at w y).version) y (link_at w s).sender p) (log_of w p) (row_at (member_at w y) p) (numbers_at (taken_packet w s) p)) 0 (size w))) in
    (ap (λ a. a.got) none, ap (λ a. a.forgot) none))
    (cases_lt p (size w))
  where
    not_known : (b : Bool) → knows w (taken_packet w s).version p ≡ b → b ≡ false
    not_known false e = refl
    not_known true e = absurd (false≢true (sym k ∙ h.history.grows p (taken_packet w s).version (member_at w y).version e m.version (h.is_ring.held y)))

pub taker_beyond : (w : World) (y s p : ℕ) → size w ≤ p → row_at (taker w y s) p ≡ no_row
taker_beyond w y s p ge = get_or_beyond (taker w y s).rows p no_row (omega (arith, length-map-range_with_len (λ p. taken_row (is_owned (view_in w (member_at w y).version) y (link_at w s).sender p) (log_of w p) (row_at (member_at w y) p) (numbers_at (taken_packet w s) p)) 0 (size w)))

pub take_retires : (w : World) (y s : ℕ) → Inv w → MayTake w y s → IsRetiredRight (take_from w y s)
take_retires w y s h m = record { none = λ p x z us r e i. by_place p x z us r (same p ∙ e) i (cases_eq z y) }
  where
    c : CanTake w y s
    c = can_take w y s h m

    same : (p : ℕ) → running_from w p ≡ running_from (take_from w y s) p
    same p = sym (filter_agree (runs (take_from w y s)) (runs w) (λ q. take_runs w y s q c.is_member) _)

    at_y : (p x : ℕ) (us : List ℕ) → is_in p (ring w) ≡ true → running_from w p ≡ x ∷ us → is_in y us ≡ true → p < size w → Standing w y s p → (row_at (member_at (take_from w y s) y) p).retired ≡ 0
    at_y p x us r e i lt (elsewhere q qs e2 d own) = take_retired w y s p c.is_member lt own ∙ h.retired.none p x y us r e i
    at_y p x us r e i lt (first_time qs e2 b own) = take_retired w y s p c.is_member lt own ∙ h.retired.none p x y us r e i
    at_y p x us r e i lt (unknown qs e2 b own g f) = take_retired w y s p c.is_member lt own ∙ h.retired.none p x y us r e i
    at_y p x us r e i lt (come_round qs e2 own n b) =
        let both : x ∷ us ≡ y ∷ qs = sym e ∙ e2 in
        let tail : us ≡ qs = cc in
        let once : is_in y qs ≡ false = head_once (runs w) y p qs (ring w) (h.is_ring.distinct (newest w) (omega arith)) (h.is_ring.stands y (newest w) (runs_phase-Up w y m.up) (h.is_ring.held y) (omega arith)) (runs_phase-Up w y m.up) e2 in
        absurd (false≢true (sym once ∙ ap (is_in y) (sym tail) ∙ i))

    beyond : (p : ℕ) → size w ≤ p → (row_at (member_at (take_from w y s) y) p).retired ≡ 0
    beyond p ge =
        at_set (λ k a. k ≡ y → (row_at a p).retired ≡ 0) w.members y y (taker w y s) no_member c.is_member
        (λ _. ap (λ a. a.retired) (get_or_beyond (taker w y s).rows p no_row (omega (arith, length-map-range_with_len (λ p. taken_row (is_owned (view_in w (member_at w y).version) y (link_at w s).sender p) (log_of w p) (row_at (member_at w y) p) (numbers_at (taken_packet w s) p)) 0 (size w)))))
        (λ d e. absurd (d e)) refl

    by_place : (p x z : ℕ) (us : List ℕ) → is_in p (ring w) ≡ true → running_from w p ≡ x ∷ us → is_in z us ≡ true → (z ≡ y) ⊎ (z ≢ y) → (row_at (member_at (take_from w y s) z) p).retired ≡ 0
    by_place p x z us r e i k = ⊎_elim
        (λ (is : z ≡ y). subst (λ q. (row_at (member_at (take_from w y s) q) p).retired ≡ 0) (sym is)
        (⊎_elim (λ (lt : p < size w). at_y p x us r e (ap (λ q. is_in q us) (sym is) ∙ i) lt (take_standing w y s p h m r lt)) (λ (ge : size w ≤ p). beyond p ge) (cases_lt p (size w))))
        (λ (d : z ≢ y). take_retired_other w y s p z c.is_member d ∙ h.retired.none p x z us r e i)
        k

pub take_keeps : (w : World) (y s : ℕ) → Inv w → MayTake w y s → Inv (take_from w y s)
take_keeps w y s h m =
    let c : CanTake w y s = can_take w y s h m in
    let w' : World = take_from w y s in
    let sh : IsShaped w w'.members w'.links = take_shape w y s c in
    shaped_keeps w w'.members w'.links sh
    (record {
      many = length-set w.members y (taker w y s);
      packed = shaped_packed w w'.members w'.links sh
          (λ j l. at_set (λ i a. i < length w.links → AllPackets (IsPacket w (link_at w i)) a.packets) w.links s j (popped (link_at w s)) no_link c.is_link
          (λ l2. AllPackets-drop (IsPacket w (link_at w s)) (link_at w s).packets (h.packed.packets s l2)) (λ _ l2. h.packed.packets j l2) l);
      numbered = record {
        zero = λ x p. at_set (λ k a. knows w a.version p ≡ false → ((row_at a p).got ≡ 0) × ((row_at a p).forgot ≡ 0)) w.members y x (taker w y s) no_member c.is_member
            (λ e. take_zero w y s p h m e) (λ _ e. h.numbered.zero x p e);
        beyond = λ x p ge. let g : size w ≤ p = omega (arith, ge, length-set w.members y (taker w y s)) in
            at_set (λ k a. (row_at a p).retired ≡ 0) w.members y x (taker w y s) no_member c.is_member (ap (λ a. a.retired) (taker_beyond w y s p g)) (λ _. h.numbered.beyond x p g);
      };
      retired = take_retires w y s h m;
      waiting = record {
        first = λ z t e k. let d : z ≢ y = waits z e in others_stay t (λ is. d (sym (h.waiting.mine z t (old_phase z d e) (old_current z d k)) ∙ ap (λ j. (link_at w j).receiver) is ∙ c.receiver)) (h.waiting.first z t (old_phase z d e) (old_current z d k));
        mine = λ z t e k. let d : z ≢ y = waits z e in (sh.ends t).receiver ∙ h.waiting.mine z t (old_phase z d e) (old_current z d k);
        admission = λ z t e l to v. let d : z ≢ y = waits z e in
            others_stay t (λ is. d (sym (sym (sh.ends t).receiver ∙ to) ∙ ap (λ j. (link_at w j).receiver) is ∙ c.receiver))
            (h.waiting.admission z t (old_phase z d e) (omega (arith, sh.many)) (sym (sh.ends t).receiver ∙ to) (sym (sh.ends t).opened ∙ v ∙ sh.version z));
      };
      joining = waits_alike w w' (λ z e. set_alike w y z (taker w y s) c.is_member (ap is_waiting m.up) e) (λ t l. (sh.ends t).opened) h.current h.joining;
      current = shaped_current w w'.members w'.links sh (λ q. at_set (λ k a. a.current ≡ (member_at w k).current) w.members y q (taker w y s) no_member c.is_member refl (λ _. refl)) h.current;
      walks = λ p some l.
          never_rises_still (walk w p) (walk w' p)
          (take_walk w y s p c l (h.is_ring.distinct (newest w) (omega arith)) (h.is_ring.stands y (newest w) (runs_phase-Up w y m.up) (h.is_ring.held y) (omega arith)) (take_standing w y s p h m (h.origins p some l) l))
          (h.walks p some l);
    })
    h
  where
    waits : (z : ℕ) → (member_at (take_from w y s) z).phase ≡ Waiting → z ≢ y
    waits z e is =
        let up : (member_at (take_from w y s) z).phase ≡ Up = at_set (λ k a. k ≡ y → a.phase ≡ Up) w.members y z (taker w y s) no_member m.is_member (λ _. m.up) (λ d k. absurd (d k)) is in
        let bad : Up ≡ Waiting = sym up ∙ e in cc

    old_phase : (z : ℕ) → z ≢ y → (member_at (take_from w y s) z).phase ≡ Waiting → (member_at w z).phase ≡ Waiting
    old_phase z d e = sym (at_set (λ k a. k ≢ y → a.phase ≡ (member_at w k).phase) w.members y z (taker w y s) no_member m.is_member (λ k. absurd (k refl)) (λ _ _. refl) d) ∙ e

    old_current : (z : ℕ) {t : ℕ} → z ≢ y → (member_at (take_from w y s) z).current ≡ Some t → (member_at w z).current ≡ Some t
    old_current z d e = sym (at_set (λ k a. k ≢ y → a.current ≡ (member_at w k).current) w.members y z (taker w y s) no_member m.is_member (λ k. absurd (k refl)) (λ _ _. refl) d) ∙ e

    others_stay : (t : ℕ) → t ≢ s → is_empty (link_at w t).packets ≡ false → is_empty (link_at (take_from w y s) t).packets ≡ false
    others_stay t d e = at_set (λ i l. i ≢ s → is_empty (link_at w i).packets ≡ false → is_empty l.packets ≡ false) w.links s t (popped (link_at w s)) no_link (h.current.lt y s (runs_phase-Up w y m.up) m.current) (λ k. absurd (k refl)) (λ _ _ e2. e2) d e
