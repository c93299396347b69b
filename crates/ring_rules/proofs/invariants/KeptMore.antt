-- Stops, picks, ends that are taken, and new views keep the whole invariant.
use Rattle.std.proofs.Common.{None, subst, ◌≡◌, ◌≢◌, ℕ, ◌<◌, ◌≤◌, ◌+◌, Bool, true, false, cond, List, [], ◌∷◌, ◌++◌, length, refl, sym, ap, ◌∙◌, arith, nat_eq, Option, Some}
use Rattle.queue_mirror.specs.Mirror.{MirrorState}
use Rattle.std.specs.List.{filter}
use Rattle.std.proofs.lemmas.List.{length-set, length_push}
use Rattle.std.proofs.lemmas.List.Elements.{filter_agree}
use Rattle.ring_rules.specs.Refusal.{is_empty}
use Rattle.ring_rules.proofs.events.WhatRefuses.{IsSameWay, IsPickable}
use Rattle.ring_rules.specs.View.{ids}
use Rattle.group_view.specs.Ring.{rotated, is_in}
use Rattle.group_view.specs.View.{Group}
use Rattle.ring_rules.specs.Machine.{Phase, Waiting, Up, Stopped, Link, World, Member, no_link, no_member, numbers_at, member_at, link_at, row_at, ring, runs, runs_phase, is_kept, oldest, is_waiting}
use Rattle.ring_rules.proofs.walks.CountedWalk.{walk, running_from, counted}
use Rattle.ring_rules.specs.OpenLinks.{number, own_number, first_packet}
use Rattle.ring_rules.specs.Step.{copied_at, size, stopped, stop_at, with_member, with_link, with_current, with_view}
use Rattle.ring_rules.proofs.rings.Lists.{at_set}
use Rattle.group_view.proofs.Truth.{other_true}
use Rattle.group_view.proofs.Rings.{in_tail}
use Rattle.group_view.proofs.Neighbours.{filtered_in}
use Rattle.ring_rules.proofs.invariants.Good.{never_rises_still}
use Rattle.ring_rules.proofs.invariants.Standing.{knows}
use Rattle.ring_rules.proofs.walks.OwnerStops.{AllPackets, IsPacket, IsRetiredRight, stop_falls}
use Rattle.ring_rules.proofs.walks.Stop.{is_not, stop_runs, stop_running, stop_retired}
use Rattle.ring_rules.proofs.invariants.Shape.{SameEnds, IsShaped, member_shaped}
use Rattle.ring_rules.proofs.walks.Views.{ring_more, mark_follows, mark_walk, view_old, newest_view, kept_old, left_old, IsMarked}
use Rattle.ring_rules.proofs.invariants.Marked.{linked_more, history_more, mark_ages}
use Rattle.ring_rules.proofs.invariants.Ordered.{ordered_more, mark_order}
use Rattle.ring_rules.specs.declared.numbers.Numbers.{Numbers}
use Rattle.ring_rules.specs.Rows.{Row}
use Rattle.ring_rules.proofs.walks.Links.{IsOr, kept}
use Rattle.ring_rules.proofs.walks.Back.{Closes, closes_walk}
use Rattle.ring_rules.proofs.walks.Refresh.{settled, settled_walk}
use Rattle.ring_rules.proofs.invariants.Kept.{Inv, AllPackets-map, shaped_packed, shaped_current, shaped_keeps, set_alike, waits_alike}

-- ---- a stop

pub stop_shape : (w : World) (x : ℕ) → x < size w → IsShaped w (stop_at w x).members w.links
stop_shape w x lt = member_shaped w x (stopped (member_at w x)) lt (λ q r. other_true (nat_eq q x) (runs w q) (sym (stop_runs w x q lt) ∙ r)) refl refl

pub stop_retires : (w : World) (x : ℕ) → x < size w → IsRetiredRight w → IsRetiredRight (stop_at w x)
stop_retires w x lt h = record { none = λ p a b us r e i. stop_retired w x p b lt ∙ by_old p a b us (running_from w p) r refl (sym (stop_running w x p lt) ∙ e) i }
  where
    by_old : (p a b : ℕ) (us olds : List ℕ) → is_in p (ring w) ≡ true → running_from w p ≡ olds → filter (is_not x) (running_from w p) ≡ a ∷ us → is_in b us ≡ true → (row_at (member_at w b) p).retired ≡ 0
    by_old p a b us [] r e f i = let bad : [] ≡ a ∷ us = ap (filter (is_not x)) (sym e) ∙ f in cc
    by_old p a b us (o ∷ os) r e f i = h.none p o b os r e (by_test (is_not x o) refl (ap (filter (is_not x)) (sym e) ∙ f))
      where
        by_test : (t : Bool) → is_not x o ≡ t → cond t (o ∷ filter (is_not x) os) (filter (is_not x) os) ≡ a ∷ us → is_in b os ≡ true
        by_test true et k = let tail : filter (is_not x) os ≡ us = cc in filtered_in (is_not x) b os (ap (is_in b) tail ∙ i)
        by_test false et k = filtered_in (is_not x) b os (ap (is_in b) k ∙ in_tail b a us i)

pub stop_keeps : (w : World) (x : ℕ) → x < size w → runs w x ≡ true → Inv w → Inv (stop_at w x)
stop_keeps w x lt rx h =
    let w' : World = stop_at w x in
    let sh : IsShaped w w'.members w.links = stop_shape w x lt in
    shaped_keeps w w'.members w.links sh
    (record {
      many = length-set w.members x (stopped (member_at w x));
      packed = shaped_packed w w'.members w.links sh h.packed.packets;
      numbered = record { zero = λ z p. at_set (λ k a. knows w a.version p ≡ false → ((row_at a p).got ≡ 0) × ((row_at a p).forgot ≡ 0)) w.members x z (stopped (member_at w x)) no_member lt (h.numbered.zero x p) (λ _. h.numbered.zero z p); beyond = λ z p ge. stop_retired w x p z lt ∙ h.numbered.beyond z p (omega (arith, ge, length-set w.members x (stopped (member_at w x)))) };
      retired = stop_retires w x lt h.retired;
      waiting = record {
        first = λ z t e k. h.waiting.first z t (phase z e) (current z k);
        mine = λ z t e k. h.waiting.mine z t (phase z e) (current z k);
        admission = λ z t e l to v. h.waiting.admission z t (phase z e) l to (v ∙ sh.version z);
      };
      joining = waits_alike w w' (λ z e. set_alike w x z (stopped (member_at w x)) lt refl e) (λ s l. refl) h.current h.joining;
      current = shaped_current w w'.members w.links sh (λ q. at_set (λ k a. a.current ≡ (member_at w k).current) w.members x q (stopped (member_at w x)) no_member lt refl (λ _. refl)) h.current;
      walks = λ p some l.
          stop_falls w x p lt h.is_ring h.linked h.history h.ordered h.packed h.retired rx (h.origins p some l) (h.walks p some l);
    })
    h
  where
    phase : (z : ℕ) → (member_at (stop_at w x) z).phase ≡ Waiting → (member_at w z).phase ≡ Waiting
    phase z = at_set (λ k a. a.phase ≡ Waiting → (member_at w k).phase ≡ Waiting) w.members x z (stopped (member_at w x)) no_member lt (λ e. cc) (λ _ e. e)

    current : (z : ℕ) {t : ℕ} → (member_at (stop_at w x) z).current ≡ Some t → (member_at w z).current ≡ Some t
    current z e = sym (at_set (λ k a. a.current ≡ (member_at w k).current) w.members x z (stopped (member_at w x)) no_member lt refl (λ _. refl)) ∙ e

-- ---- a pick, or an end that is taken

pub settled_keeps : (w : World) (y : ℕ) (c : Option ℕ) (mi : MirrorState) (b : Bool) → y < size w → (member_at w y).phase ≡ Up → IsPickable w y c → Inv w → Inv (with_member w y (settled c mi b (member_at w y)))
settled_keeps w y c mi b lt up k h =
    let m : Member = settled c mi b (member_at w y) in
    let w' : World = with_member w y m in
    let rows : (q p : ℕ) → row_at (member_at w' q) p ≡ row_at (member_at w q) p = λ q p. at_set (λ i a. row_at a p ≡ row_at (member_at w i) p) w.members y q m no_member lt refl (λ _. refl) in
    let runs_same : (q : ℕ) → runs w' q ≡ runs w q = λ q. at_set (λ i a. runs_phase a.phase ≡ runs w i) w.members y q m no_member lt refl (λ _. refl) in
    let sh : IsShaped w w'.members w.links = member_shaped w y m lt (λ q r. sym (runs_same q) ∙ r) refl refl in
    shaped_keeps w w'.members w.links sh
    (record {
      many = length-set w.members y m;
      packed = shaped_packed w w'.members w.links sh h.packed.packets;
      numbered = record { zero = λ z p. at_set (λ i a. knows w a.version p ≡ false → ((row_at a p).got ≡ 0) × ((row_at a p).forgot ≡ 0)) w.members y z m no_member lt (h.numbered.zero y p) (λ _. h.numbered.zero z p); beyond = λ z p ge. ap (λ r. r.retired) (rows z p) ∙ h.numbered.beyond z p (omega (arith, ge, length-set w.members y m)) };
      retired = record { none = λ p a b2 us r e i. ap (λ r. r.retired) (rows b2 p) ∙ h.retired.none p a b2 us r (sym (filter_agree (runs w') (runs w) runs_same (rotated p (ring w))) ∙ e) i };
      waiting = record {
        first = λ z t e j. let d : z ≢ y = waits z e in h.waiting.first z t (phase z d e) (current z d j);
        mine = λ z t e j. let d : z ≢ y = waits z e in h.waiting.mine z t (phase z d e) (current z d j);
        admission = λ z t e l to v. h.waiting.admission z t (phase z (waits z e) e) l to (v ∙ sh.version z);
      };
      joining = waits_alike w w' (λ z e. set_alike w y z m lt (ap is_waiting up) e) (λ s l. refl) h.current h.joining;
      current = record {
        lt = λ q s r. at_set (λ i a. runs w i ≡ true → a.current ≡ Some s → s < length w.links) w.members y q m no_member lt (λ _. k.lt s) (λ _ r2. h.current.lt q s r2) (sh.runs_less q r);
        receiver = λ q s r. at_set (λ i a. runs w i ≡ true → a.current ≡ Some s → (link_at w s).receiver ≡ i) w.members y q m no_member lt (λ _. k.receiver s) (λ _ r2. h.current.receiver q s r2) (sh.runs_less q r);
        kept_yet = λ q s r. at_set (λ i a. runs w i ≡ true → a.current ≡ Some s → is_kept w (link_at w s) a.version ≡ true) w.members y q m no_member lt (λ _. k.kept_yet s) (λ _ r2. h.current.kept_yet q s r2) (sh.runs_less q r);
        opened = λ q s r. at_set (λ i a. runs w i ≡ true → a.current ≡ Some s → (link_at w s).opened ≤ a.version) w.members y q m no_member lt (λ _. k.opened s) (λ _ r2. h.current.opened q s r2) (sh.runs_less q r);
      };
      walks = λ p some l. never_rises_still (walk w p) (walk w' p) (settled_walk w y p c mi b lt up) (h.walks p some l);
    })
    h
  where
    waits : (z : ℕ) → (member_at (with_member w y (settled c mi b (member_at w y))) z).phase ≡ Waiting → z ≢ y
    waits z e is =
        let now : (member_at (with_member w y (settled c mi b (member_at w y))) z).phase ≡ Up = at_set (λ i a. i ≡ y → a.phase ≡ Up) w.members y z (settled c mi b (member_at w y)) no_member lt (λ _. up) (λ d j. absurd (d j)) is in
        let bad : Up ≡ Waiting = sym now ∙ e in cc

    phase : (z : ℕ) → z ≢ y → (member_at (with_member w y (settled c mi b (member_at w y))) z).phase ≡ Waiting → (member_at w z).phase ≡ Waiting
    phase z d e = sym (at_set (λ i a. i ≢ y → a.phase ≡ (member_at w i).phase) w.members y z (settled c mi b (member_at w y)) no_member lt (λ j. absurd (j refl)) (λ _ _. refl) d) ∙ e

    current : (z : ℕ) {t : ℕ} → z ≢ y → (member_at (with_member w y (settled c mi b (member_at w y))) z).current ≡ Some t → (member_at w z).current ≡ Some t
    current z d e = sym (at_set (λ i a. i ≢ y → a.current ≡ (member_at w i).current) w.members y z (settled c mi b (member_at w y)) no_member lt (λ j. absurd (j refl)) (λ _ _. refl) d) ∙ e

pub current_keeps : (w : World) (y : ℕ) (c : Option ℕ) → y < size w → (member_at w y).phase ≡ Up → IsPickable w y c → Inv w → Inv (with_member w y (with_current c (member_at w y)))
current_keeps w y c lt up k h = settled_keeps w y c (member_at w y).mirror (member_at w y).whole lt up k h

-- ---- a copy that is done

-- its own link y may take from
own_pickable : (w : World) (y : ℕ) → (member_at w y).phase ≡ Up → Inv w → IsPickable w y (member_at w y).current
own_pickable w y up h = record {
  lt = λ s e. h.current.lt y s (ap runs_phase up) e;
  receiver = λ s e. h.current.receiver y s (ap runs_phase up) e;
  kept_yet = λ s e. h.current.kept_yet y s (ap runs_phase up) e;
  opened = λ s e. h.current.opened y s (ap runs_phase up) e;
}

pub copied_keeps : (w : World) (y : ℕ) (m : MirrorState) → y < size w → (member_at w y).phase ≡ Up → Inv w → Inv (copied_at w y m)
copied_keeps w y m lt up h = settled_keeps w y (member_at w y).current m true lt up (own_pickable w y up h) h

-- ---- a mark or an erasure, before its member refreshes

pub mark_keeps : (w : World) (d : ℕ) (v' : Group) → IsMarked w d v' → runs w d ≡ false → Inv w → Inv (with_view w v')
mark_keeps w d v' marks rd h =
    let w' : World = with_view w v' in
    let some : 0 < length w.views = h.is_ring.some in
    let more : length (w.views ++ v' ∷ []) ≡ length w.views + 1 = length_push w.views v' in
    let same_ring : ring w' ≡ ring w = ap ids (newest_view w v' h.is_ring) ∙ marks.same_ids in
    record {
      is_ring = ring_more w v' (mark_follows w d v' marks rd h.is_ring) h.is_ring;
      linked = linked_more w v' h.is_ring h.linked;
      history = history_more w v' h.is_ring h.linked h.history (mark_ages w d v' marks);
      ordered = ordered_more w v' h.is_ring (mark_order w d v' marks h.ordered);
      packed = record {
        packets = λ s l. AllPackets-map (IsPacket w (link_at w s)) (IsPacket w' (link_at w s)) (link_at w s).packets
            (λ k q. record {
              from = q.from;
              upto = omega (arith, q.upto);
              kept = λ u a b. left_old w v' u (link_at w s).receiver (omega (arith, q.upto)) ∙ q.kept u a b;
              zero = λ p e. q.zero p (sym (ap (λ a. is_in p (ids a)) (view_old w v' k.version (omega (arith, q.upto)))) ∙ e);
            }) (h.packed.packets s l);
      };
      numbered = record { zero = λ x p e. h.numbered.zero x p (sym (ap (λ a. is_in p (ids a)) (view_old w v' (member_at w x).version (omega (arith, h.is_ring.held x)))) ∙ e); beyond = h.numbered.beyond };
      retired = record { none = λ p a b us r e i. h.retired.none p a b us (sym (ap (is_in p) same_ring) ∙ r) (sym (ap (λ c. filter (runs w) (rotated p c)) same_ring) ∙ e) i };
      waiting = record { first = h.waiting.first; mine = h.waiting.mine; admission = h.waiting.admission };
      joining = waits_alike w w' (λ z e. refl) (λ s l. refl) h.current h.joining;
      current = record {
        lt = h.current.lt;
        receiver = h.current.receiver;
        kept_yet = λ y s r e. kept_old w v' (link_at w s) (member_at w y).version (omega (arith, h.is_ring.held y)) ∙ h.current.kept_yet y s r e;
        opened = h.current.opened;
      };
      origins = λ p some l. ap (is_in p) same_ring ∙ h.origins p some l;
      walks = λ p some l. never_rises_still (walk w p) (walk w' p) (mark_walk w d p v' marks h.is_ring) (h.walks p some l);
    }

-- ---- a link that goes the same way

pub way_closes : (w : World) (s : ℕ) (l : Link) (p : ℕ) → IsSameWay (link_at w s) l → s < length w.links → Closes w (with_link w s l) p
way_closes w s l p h lt = record {
  many = length-set w.links s l;
  senders = λ j. at_set (λ i a. a.sender ≡ (link_at w i).sender) w.links s j l no_link lt h.sender (λ _. refl);
  is_ring = refl;
  runs_same = λ q. refl;
  counts = λ q j. at_set (λ i a. IsOr (counted w q a) (counted w q (link_at w i))) w.links s j l no_link lt (kept (counted_way w q (link_at w s) l h)) (λ _. kept refl);
  own_got = λ q. number_way (λ k. k.got) (λ r. r.got) w s l p q h lt;
  own_forgot = λ q. number_way (λ k. k.forgot) (λ r. r.forgot) w s l p q h lt;
  retires = λ q. refl;
}
  where
    counted_way : (w : World) (q : ℕ) (l l' : Link) → IsSameWay l l' → counted w q l' ≡ counted w q l
    counted_way w q l l' h = rw (h.receiver, h.sender, h.opened, h.packets) refl

    number_way : (g : Numbers → ℕ) (r : Row → ℕ) (w : World) (s : ℕ) (l : Link) (p q : ℕ) → IsSameWay (link_at w s) l → s < length w.links → number g r (with_link w s l) p q ≡ number g r w p q
    number_way g r w s l p q h lt = by_phase (member_at w q).phase
      where
        by_current : (c : Option ℕ) → first_packet (with_link w s l) c ≡ first_packet w c
        by_current None = refl
        by_current (Some t) = at_set (λ i a. oldest a ≡ oldest (link_at w i)) w.links s t l no_link lt (rw h.packets refl) (λ _. refl)

        by_phase : (f : Phase) → own_number g r (with_link w s l) p f (member_at w q) ≡ own_number g r w p f (member_at w q)
        by_phase Waiting = ap (λ k. g (numbers_at k p)) (by_current (member_at w q).current)
        by_phase Up = refl
        by_phase Stopped = refl

pub way_keeps : (w : World) (s : ℕ) (l : Link) → s < length w.links → IsSameWay (link_at w s) l → Inv w → Inv (with_link w s l)
way_keeps w s l lt k h =
    let w' : World = with_link w s l in
    let sh : IsShaped w w.members w'.links = record {
      many = length-set w.links s l;
      ends = λ j. at_set (λ i a. SameEnds (link_at w i) a) w.links s j l no_link lt (record { sender = k.sender; receiver = k.receiver; opened = k.opened }) (λ _. record { sender = refl; receiver = refl; opened = refl });
      runs_less = λ q r. r;
      version = λ q. refl;
      out = λ q. refl;
    } in
    let packets : (j : ℕ) → (link_at w' j).packets ≡ (link_at w j).packets = λ j. at_set (λ i a. a.packets ≡ (link_at w i).packets) w.links s j l no_link lt k.packets (λ _. refl) in
    shaped_keeps w w.members w'.links sh
    (record {
      many = refl;
      packed = shaped_packed w w.members w'.links sh (λ j jl. subst (AllPackets (IsPacket w (link_at w j))) (sym (packets j)) (h.packed.packets j jl));
      numbered = record { zero = h.numbered.zero; beyond = h.numbered.beyond };
      retired = record { none = h.retired.none };
      waiting = record {
        first = λ y t e c. ap is_empty (packets t) ∙ h.waiting.first y t e c;
        mine = λ y t e c. (sh.ends t).receiver ∙ h.waiting.mine y t e c;
        admission = λ y t e lt2 to v. ap is_empty (packets t) ∙ h.waiting.admission y t e (omega (arith, sh.many)) (sym (sh.ends t).receiver ∙ to) (sym (sh.ends t).opened ∙ v);
      };
      joining = waits_alike w w' (λ z e. refl) (λ t l2. (sh.ends t).opened) h.current h.joining;
      current = shaped_current w w.members w'.links sh (λ q. refl) h.current;
      walks = λ p some l2. never_rises_still (walk w p) (walk w' p) (closes_walk w w' p (way_closes w s l p k lt)) (h.walks p some l2);
    })
    h
