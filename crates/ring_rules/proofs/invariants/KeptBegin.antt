-- A waiting member's take keeps the whole invariant.
use Rattle.std.proofs.Common.{◌≡◌, ◌≢◌, ℕ, ◌<◌, ◌≤◌, Bool, true, false, length, refl, sym, ap, ◌∙◌, arith, ⊎_elim, Some}
use Rattle.std.proofs.lemmas.Bool.{cases_lt, false≢true}
use Rattle.std.proofs.lemmas.List.{length-set}
use Rattle.std.proofs.lemmas.List.FromFn.{length-map-range_with_len, get_or-map-range_with_len}
use Rattle.std.proofs.lemmas.List.Elements.{filter_agree}
use Rattle.group_view.specs.Ring.{rotated}
use Rattle.ring_rules.specs.Rows.{no_row}
use Rattle.ring_rules.specs.Refusal.{is_empty}
use Rattle.ring_rules.specs.Machine.{Waiting, Up, World, Member, no_member, no_link, no_packet, member_at, link_at, row_at, numbers_at, ring, left, runs, runs_phase, oldest}
use Rattle.ring_rules.specs.Step.{size, popped, begun_row, begun, begin_from}
use Rattle.ring_rules.proofs.events.WhatRefuses.{MayBegin}
use Rattle.ring_rules.proofs.rings.Lists.{at_set, get_or_beyond}
use Rattle.ring_rules.proofs.invariants.Good.{IsLinked, kept_true, never_rises_still}
use Rattle.ring_rules.proofs.invariants.Standing.{knows}
use Rattle.ring_rules.proofs.walks.OwnerStops.{AllPackets, IsPacket}
use Rattle.ring_rules.proofs.invariants.Shape.{IsShaped, taker_shaped, shaped_ring, shaped_history, shaped_ordered, shaped_linked}
use Rattle.ring_rules.proofs.walks.Begin.{CanBegin, begin_walk}
use Rattle.ring_rules.proofs.invariants.Kept.{Inv, AllPackets-first, AllPackets-drop, shaped_packed, shaped_current, set_alike, waits_alike}
use Rattle.ring_rules.proofs.walks.CountedWalk.{walk}

pub waiting_runs : (w : World) (y : ℕ) → (member_at w y).phase ≡ Waiting → runs w y ≡ true
waiting_runs w y e = ap runs_phase e

pub begin_runs : (w : World) (y s q : ℕ) → CanBegin w y s → runs (begin_from w y s) q ≡ runs w q
begin_runs w y s q c = at_set (λ k z. runs_phase z.phase ≡ runs w k) w.members y q (begun (size w) (member_at w y) (oldest (link_at w s))) no_member c.is_member (rw c.waits refl) (λ _. refl)

-- no two links to one member are of one version
pub one_version : (w : World) (i j : ℕ) → IsLinked w → i < length w.links → j < length w.links → i ≢ j → (link_at w i).receiver ≡ (link_at w j).receiver → (link_at w i).opened ≢ (link_at w j).opened
one_version w i j hl il jl d to same = ⊎_elim
    (λ (lt : i < j). earlier i j lt jl il to same)
    (λ (ge : j ≤ i). earlier j i (let n : i ≢ j = d in omega arith) il jl (sym to) (sym same))
    (cases_lt i j)
  where
    earlier : (a b : ℕ) → a < b → b < length w.links → a < length w.links → (link_at w a).receiver ≡ (link_at w b).receiver → (link_at w a).opened ≡ (link_at w b).opened → ⊥
    earlier a b lt bl al e v =
        false≢true (sym (hl.period a b lt bl e) ∙ kept_true w (link_at w a) (link_at w b).opened
        (λ u x z. let now : u ≡ (link_at w a).opened = omega arith in ap (λ k. left w k (link_at w a).receiver) now ∙ hl.from_left a al))

pub begin_can : (w : World) (y s : ℕ) → Inv w → MayBegin w y s → CanBegin w y s
begin_can w y s h m =
    let ry : runs w y ≡ true = waiting_runs w y m.waits in
    let sl : s < length w.links = h.current.lt y s ry m.current in
    let to : (link_at w s).receiver ≡ y = h.current.receiver y s ry m.current in
    record {
      is_member = m.is_member;
      waits = m.waits;
      current = m.current;
      is_link = sl;
      receiver = to;
      opened = h.joining.opened y s m.waits m.current;
      only_one = λ j d toj v. ⊎_elim
          (λ (jl : j < length w.links). one_version w j s h.linked jl sl d (toj ∙ sym to) (v ∙ sym (h.joining.opened y s m.waits m.current)))
          (λ (ge : length w.links ≤ j).
          -- no link at all: of version 0, and a view is at least a link's version
          beyond j ge d toj v) (cases_lt j (length w.links));
      waiting = h.waiting;
    }
  where
    beyond : (j : ℕ) → length w.links ≤ j → j ≢ s → (link_at w j).receiver ≡ y → (link_at w j).opened ≡ (member_at w y).version → ⊥
    beyond j ge d toj v =
        let zero_view : (member_at w y).version ≡ 0 = sym v ∙ ap (λ l. l.opened) (get_or_beyond w.links j no_link ge) in
        let late : 0 < (member_at w y).version = m.late in
        omega arith

pub begin_shape : (w : World) (y s : ℕ) → CanBegin w y s → IsShaped w (begin_from w y s).members (begin_from w y s).links
begin_shape w y s c = taker_shaped w y s (begun (size w) (member_at w y) (oldest (link_at w s))) c.is_member c.is_link (λ q r. sym (begin_runs w y s q c) ∙ r) refl refl

pub begin_row : (w : World) (y s p : ℕ) → p < size w → row_at (begun (size w) (member_at w y) (oldest (link_at w s))) p ≡ begun_row (row_at (member_at w y) p) (numbers_at (oldest (link_at w s)) p)
begin_row w y s p lt = get_or-map-range_with_len (λ p. begun_row (row_at (member_at w y) p) (numbers_at (oldest (link_at w s)) p)) 0 (size w) p p no_row lt (omega arith)

pub begin_none : (w : World) (y s p : ℕ) → size w ≤ p → row_at (begun (size w) (member_at w y) (oldest (link_at w s))) p ≡ no_row
begin_none w y s p ge = get_or_beyond (begun (size w) (member_at w y) (oldest (link_at w s))).rows p no_row (omega (arith, length-map-range_with_len (λ p. begun_row (row_at (member_at w y) p) (numbers_at (oldest (link_at w s)) p)) 0 (size w)))

pub begin_zero : (w : World) (y s p : ℕ) → Inv w → MayBegin w y s → CanBegin w y s → knows w (member_at w y).version p ≡ false → ((row_at (begun (size w) (member_at w y) (oldest (link_at w s))) p).got ≡ 0) × ((row_at (begun (size w) (member_at w y) (oldest (link_at w s))) p).forgot ≡ 0)
begin_zero w y s p h m c k = ⊎_elim
    (λ (lt : p < size w).
    let z : IsPacket w (link_at w s) (oldest (link_at w s)) = AllPackets-first (IsPacket w (link_at w s)) (link_at w s).packets no_packet m.has (h.packed.packets s c.is_link) in
    let older : knows w (oldest (link_at w s)).version p ≡ false = not_known (knows w (oldest (link_at w s)).version p) refl in
    (ap (λ a. a.got) (begin_row w y s p lt) ∙ (z.zero p older).0, ap (λ a. a.forgot) (begin_row w y s p lt) ∙ (z.zero p older).1))
    (λ (ge : size w ≤ p). (ap (λ a. a.got) (begin_none w y s p ge), ap (λ a. a.forgot) (begin_none w y s p ge)))
    (cases_lt p (size w))
  where
    not_known : (b : Bool) → knows w (oldest (link_at w s)).version p ≡ b → b ≡ false
    not_known false e = refl
    not_known true e = absurd (false≢true (sym k ∙ h.history.grows p (oldest (link_at w s)).version (member_at w y).version e m.version (h.is_ring.held y)))

-- its retired numbers are its old ones
pub begin_retired : (w : World) (y s p q : ℕ) → CanBegin w y s → (row_at (member_at w q) p).retired ≡ 0 → (row_at (member_at (begin_from w y s) q) p).retired ≡ 0
begin_retired w y s p q c e =
    at_set (λ k a. (row_at (member_at w k) p).retired ≡ 0 → (row_at a p).retired ≡ 0) w.members y q (begun (size w) (member_at w y) (oldest (link_at w s))) no_member c.is_member
    (λ e2. ⊎_elim (λ (lt : p < size w). ap (λ a. a.retired) (begin_row w y s p lt) ∙ e2) (λ (ge : size w ≤ p). ap (λ a. a.retired) (begin_none w y s p ge)) (cases_lt p (size w)))
    (λ _ e2. e2) e

-- who waits after it is another
pub begins_other : (w : World) (y s : ℕ) → y < size w → (z : ℕ) → (member_at (begin_from w y s) z).phase ≡ Waiting → z ≢ y
begins_other w y s lt z e is =
    let up : (member_at (begin_from w y s) z).phase ≡ Up = at_set (λ k a. k ≡ y → a.phase ≡ Up) w.members y z (begun (size w) (member_at w y) (oldest (link_at w s))) no_member lt (λ _. refl) (λ d k. absurd (d k)) is in
    let bad : Up ≡ Waiting = sym up ∙ e in cc

pub begin_keeps : (w : World) (y s : ℕ) → Inv w → MayBegin w y s → Inv (begin_from w y s)
begin_keeps w y s h m =
    let c : CanBegin w y s = begin_can w y s h m in
    let w' : World = begin_from w y s in
    let sh : IsShaped w w'.members w'.links = begin_shape w y s c in
    let many : size w' ≡ size w = length-set w.members y (begun (size w) (member_at w y) (oldest (link_at w s))) in
    record {
      is_ring = shaped_ring w w'.members w'.links sh h.is_ring;
      linked = shaped_linked w w'.members w'.links sh h.linked;
      history = shaped_history w w'.members w'.links sh h.history;
      ordered = shaped_ordered w w'.members w'.links h.ordered;
      packed = shaped_packed w w'.members w'.links sh
          (λ j l. at_set (λ i a. i < length w.links → AllPackets (IsPacket w (link_at w i)) a.packets) w.links s j (popped (link_at w s)) no_link c.is_link
          (λ l2. AllPackets-drop (IsPacket w (link_at w s)) (link_at w s).packets (h.packed.packets s l2)) (λ _ l2. h.packed.packets j l2) l);
      numbered = record {
        zero = λ x p. at_set (λ k a. knows w a.version p ≡ false → ((row_at a p).got ≡ 0) × ((row_at a p).forgot ≡ 0)) w.members y x (begun (size w) (member_at w y) (oldest (link_at w s))) no_member c.is_member
            (λ e. begin_zero w y s p h m c e) (λ _ e. h.numbered.zero x p e);
        beyond = λ x p ge. let g : size w ≤ p = omega arith in
            at_set (λ k a. (row_at a p).retired ≡ 0) w.members y x (begun (size w) (member_at w y) (oldest (link_at w s))) no_member c.is_member (ap (λ a. a.retired) (begin_none w y s p g)) (λ _. h.numbered.beyond x p g);
      };
      retired = record { none = λ p a b us r e i. begin_retired w y s p b c (h.retired.none p a b us r (sym (filter_agree (runs w') (runs w) (λ q. begin_runs w y s q c) (rotated p (ring w))) ∙ e) i) };
      waiting = record {
        first = λ z t e k. let d : z ≢ y = begins_other w y s m.is_member z e in others_stay t (λ is. d (sym (h.waiting.mine z t (old_phase z d e) (old_current z d k)) ∙ ap (λ j. (link_at w j).receiver) is ∙ c.receiver)) (h.waiting.first z t (old_phase z d e) (old_current z d k));
        mine = λ z t e k. let d : z ≢ y = begins_other w y s m.is_member z e in (sh.ends t).receiver ∙ h.waiting.mine z t (old_phase z d e) (old_current z d k);
        admission = λ z t e l to v. let d : z ≢ y = begins_other w y s m.is_member z e in
            others_stay t (λ is. d (sym (sym (sh.ends t).receiver ∙ to) ∙ ap (λ j. (link_at w j).receiver) is ∙ c.receiver))
            (h.waiting.admission z t (old_phase z d e) (omega (arith, sh.many)) (sym (sh.ends t).receiver ∙ to) (sym (sh.ends t).opened ∙ v ∙ sh.version z));
      };
      joining = waits_alike w w' (λ z e. set_alike w y z b c.is_member refl e) (λ t l. (sh.ends t).opened) h.current h.joining;
      current = shaped_current w w'.members w'.links sh (λ q. at_set (λ k a. a.current ≡ (member_at w k).current) w.members y q (begun (size w) (member_at w y) (oldest (link_at w s))) no_member c.is_member refl (λ _. refl)) h.current;
      origins = λ p some l. h.origins p some (omega arith);
      walks = λ p some l. let l2 : p < size w = omega arith in never_rises_still (walk w p) (walk w' p) (begin_walk w y s p c l2) (h.walks p some l2);
    }
  where
    b : Member
    b = begun (size w) (member_at w y) (oldest (link_at w s))

    old_phase : (z : ℕ) → z ≢ y → (member_at (begin_from w y s) z).phase ≡ Waiting → (member_at w z).phase ≡ Waiting
    old_phase z d e = sym (at_set (λ k a. k ≢ y → a.phase ≡ (member_at w k).phase) w.members y z b no_member m.is_member (λ k. absurd (k refl)) (λ _ _. refl) d) ∙ e

    old_current : (z : ℕ) {t : ℕ} → z ≢ y → (member_at (begin_from w y s) z).current ≡ Some t → (member_at w z).current ≡ Some t
    old_current z d e = sym (at_set (λ k a. k ≢ y → a.current ≡ (member_at w k).current) w.members y z b no_member m.is_member (λ k. absurd (k refl)) (λ _ _. refl) d) ∙ e

    others_stay : (t : ℕ) → t ≢ s → is_empty (link_at w t).packets ≡ false → is_empty (link_at (begin_from w y s) t).packets ≡ false
    others_stay t d e = at_set (λ i l. i ≢ s → is_empty (link_at w i).packets ≡ false → is_empty l.packets ≡ false) w.links s t (popped (link_at w s)) no_link (h.current.lt y s (waiting_runs w y m.waits) m.current) (λ k. absurd (k refl)) (λ _ _ e2. e2) d e
