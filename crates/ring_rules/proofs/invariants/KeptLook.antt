-- A refresh keeps the whole invariant.
use Rattle.std.proofs.Common.{◌≡◌, ◌≢◌, ℕ, ◌<◌, ◌≤◌, Bool, true, false, cond, length, refl, sym, ap, ◌∙◌, arith, Option, Some, None}
use Rattle.std.proofs.lemmas.Bool.{false≢true}
use Rattle.std.proofs.lemmas.List.{length-set}
use Rattle.std.proofs.lemmas.List.Elements.{filter_agree}
use Rattle.ring_rules.specs.Refusal.{is_empty}
use Rattle.ring_rules.proofs.events.WhatRefuses.{MayLook}
use Rattle.group_view.specs.Ring.{rotated}
use Rattle.ring_rules.specs.Machine.{Waiting, Up, World, Member, no_member, member_at, link_at, row_at, newest, ring, right, runs, runs_phase, is_kept, is_waiting}
use Rattle.ring_rules.proofs.walks.CountedWalk.{walk}
use Rattle.ring_rules.specs.Step.{size, look_at, moved_to, kept_current}
use Rattle.ring_rules.proofs.rings.Lists.{at_set}
use Rattle.ring_rules.proofs.invariants.Good.{never_rises_still, IsLinked}
use Rattle.ring_rules.proofs.invariants.Period.{IsHistory}
use Rattle.ring_rules.proofs.invariants.Standing.{knows}
use Rattle.ring_rules.proofs.walks.Views.{ring_less}
use Rattle.ring_rules.proofs.invariants.Linked.{HasLaterView, linked_look}
use Rattle.ring_rules.proofs.walks.Refresh.{look_walk}
use Rattle.ring_rules.proofs.invariants.Kept.{Holds, Inv, packets_stay, set_alike, waits_alike}

pub look_member : (w : World) (x v q : ℕ) (P : ℕ → Member → Type 0) → x < size w → P x (moved_to w x v) → (q ≢ x → P q (member_at w q)) → P q (member_at (look_at w x v) q)
look_member w x v q P lt here other = at_set P w.members x q (moved_to w x v) no_member lt here other

pub look_runs : (w : World) (x v q : ℕ) → x < size w → runs (look_at w x v) q ≡ runs w q
look_runs w x v q lt = look_member w x v q (λ k z. runs_phase z.phase ≡ runs w k) lt refl (λ _. refl)

-- who looks stays up
pub look_up : (w : World) (x v : ℕ) → x < size w → (member_at w x).phase ≡ Up → (member_at (look_at w x v) x).phase ≡ Up
look_up w x v lt up = look_member w x v x (λ k a. k ≡ x → a.phase ≡ Up) lt (λ _. up) (λ d e. absurd (d e)) refl

pub look_has_later : (w : World) (x v : ℕ) → MayLook w x v → HasLaterView w (look_at w x v).members x v
look_has_later w x v m = record {
  later = m.later;
  upto = m.upto;
  runs_less = λ q r. sym (look_runs w x v q m.is_member) ∙ r;
  its_view = look_member w x v x (λ k z. k ≡ x → z.version ≡ v) m.is_member (λ _. refl) (λ d e. absurd (d e)) refl;
  other_view = λ q d. look_member w x v q (λ k z. k ≢ x → z.version ≡ (member_at w k).version) m.is_member (λ k. absurd (k refl)) (λ _ _. refl) d;
}

-- what a later view doesn't know an earlier one doesn't
pub unknown_earlier : (w : World) (u v p : ℕ) → IsHistory w → u ≤ v → v ≤ newest w → knows w v p ≡ false → knows w u p ≡ false
unknown_earlier w u v p h le lt e = by_test (knows w u p) refl
  where
    by_test : (b : Bool) → knows w u p ≡ b → b ≡ false
    by_test false k = refl
    by_test true k = absurd (false≢true (sym e ∙ h.grows p u v k le lt))

pub kept_current-Some : (t : ℕ → Bool) (c : Option ℕ) (s : ℕ) → kept_current t c ≡ Some s → (c ≡ Some s) × (t s ≡ true)
kept_current-Some t None s e = let bad : None ≡ Some s = e in cc
kept_current-Some t (Some r) s e = by_test (t r) refl e
  where
    by_test : (b : Bool) → t r ≡ b → cond b (Some r) None ≡ Some s → (Some r ≡ Some s) × (t s ≡ true)
    by_test true k f = let same : r ≡ s = cc in (f, ap t (sym same) ∙ k)
    by_test false k f = let bad : None ≡ Some s = f in cc

-- all but the links, which a refresh may change
abbrev pub Rest : World → Type 0
Rest w = Holds (Unit {0}) w

-- with its links that is the whole invariant
pub whole : (w : World) → Rest w → IsLinked w → Inv w
whole w r linked = record { is_ring = r.is_ring; linked = linked; history = r.history; ordered = r.ordered; packed = r.packed; numbered = r.numbered; retired = r.retired; waiting = r.waiting; joining = r.joining; current = r.current; origins = r.origins; walks = r.walks }

pub look_rest : (w : World) (x v : ℕ) → MayLook w x v → Inv w → Rest (look_at w x v)
look_rest w x v m h =
    let w' : World = look_at w x v in
    let k : HasLaterView w w'.members x v = look_has_later w x v m in
    let many : size w' ≡ size w = length-set w.members x (moved_to w x v) in
    let views : (q : ℕ) → (member_at w' q).version ≤ newest w = λ q. look_member w x v q (λ i z. z.version ≤ newest w) m.is_member m.upto (λ _. h.is_ring.held q) in
    let later : (q : ℕ) → (member_at w q).version ≤ (member_at w' q).version = λ q. look_member w x v q (λ i z. (member_at w i).version ≤ z.version) m.is_member m.later (λ _. omega arith) in
    let rows : (q p : ℕ) → row_at (member_at w' q) p ≡ row_at (member_at w q) p = λ q p. look_member w x v q (λ i z. row_at z p ≡ row_at (member_at w i) p) m.is_member refl (λ _. refl) in
    record {
      is_ring = ring_less w w' refl k.runs_less (λ q r. later q) views h.is_ring;
      linked = tt;
      history = record { grows = h.history.grows; dies = h.history.dies; known = h.history.known };
      ordered = record { part = h.ordered.part; order = h.ordered.order };
      packed = record { packets = λ s l. packets_stay w w'.members w.links (link_at w s) (link_at w s).packets (h.packed.packets s l) };
      numbered = record {
        zero = λ q p. look_member w x v q (λ i z. knows w z.version p ≡ false → ((row_at z p).got ≡ 0) × ((row_at z p).forgot ≡ 0)) m.is_member
            (λ e. h.numbered.zero x p (unknown_earlier w (member_at w x).version v p h.history m.later m.upto e)) (λ _. h.numbered.zero q p);
        beyond = λ q p ge. ap (λ r. r.retired) (rows q p) ∙ h.numbered.beyond q p (omega arith);
      };
      retired = record { none = λ p a b us r e i. ap (λ r. r.retired) (rows b p) ∙ h.retired.none p a b us r (sym (filter_agree (runs w') (runs w) (λ q. look_runs w x v q m.is_member) (rotated p (ring w))) ∙ e) i };
      waiting = record {
        first = λ z t. look_member w x v z (λ i a. a.phase ≡ Waiting → a.current ≡ Some t → is_empty (link_at w t).packets ≡ false) m.is_member (λ e. absurd (apart e)) (λ _. h.waiting.first z t);
        mine = λ z t. look_member w x v z (λ i a. a.phase ≡ Waiting → a.current ≡ Some t → (link_at w t).receiver ≡ i) m.is_member (λ e. absurd (apart e)) (λ _. h.waiting.mine z t);
        admission = λ z t. look_member w x v z (λ i a. a.phase ≡ Waiting → t < length w.links → (link_at w t).receiver ≡ i → (link_at w t).opened ≡ a.version → is_empty (link_at w t).packets ≡ false) m.is_member (λ e. absurd (apart e)) (λ _. h.waiting.admission z t);
      };
      joining = waits_alike w w' (λ z e. set_alike w x z (moved_to w x v) m.is_member (ap is_waiting m.up) e) (λ s l. refl) h.current h.joining;
      current = record {
        lt = λ q s r. look_member w x v q (λ i a. runs w i ≡ true → a.current ≡ Some s → s < length w.links) m.is_member
            (λ r2 e. h.current.lt x s r2 (kept_current-Some (λ s. is_kept w (link_at w s) v) (member_at w x).current s e).0) (λ _ r2. h.current.lt q s r2) (k.runs_less q r);
        receiver = λ q s r. look_member w x v q (λ i a. runs w i ≡ true → a.current ≡ Some s → (link_at w s).receiver ≡ i) m.is_member
            (λ r2 e. h.current.receiver x s r2 (kept_current-Some (λ s. is_kept w (link_at w s) v) (member_at w x).current s e).0) (λ _ r2. h.current.receiver q s r2) (k.runs_less q r);
        kept_yet = λ q s r. look_member w x v q (λ i a. runs w i ≡ true → a.current ≡ Some s → is_kept w (link_at w s) a.version ≡ true) m.is_member
            (λ r2 e. (kept_current-Some (λ s. is_kept w (link_at w s) v) (member_at w x).current s e).1) (λ _ r2. h.current.kept_yet q s r2) (k.runs_less q r);
        opened = λ q s r. look_member w x v q (λ i a. runs w i ≡ true → a.current ≡ Some s → (link_at w s).opened ≤ a.version) m.is_member
            (λ r2 e. omega (arith, m.later, h.current.opened x s r2 (kept_current-Some (λ s. is_kept w (link_at w s) v) (member_at w x).current s e).0)) (λ _ r2. h.current.opened q s r2) (k.runs_less q r);
      };
      origins = λ p some l. h.origins p some (omega arith);
      walks = λ p some l. let l2 : p < size w = omega arith in never_rises_still (walk w p) (walk w' p) (look_walk w x v p m.is_member m.up m.later) (h.walks p some l2);
    }
  where
    apart : (member_at w x).phase ≡ Waiting → ⊥
    apart e = let bad : Up ≡ Waiting = sym m.up ∙ e in cc

-- a refresh that keeps the out link
pub look_keeps : (w : World) (x v : ℕ) → MayLook w x v → ((o : ℕ) → (member_at w x).out ≡ Some o → (link_at w o).receiver ≡ right w v x) → Inv w → Inv (look_at w x v)
look_keeps w x v m stays h =
    whole (look_at w x v) (look_rest w x v m h)
    (linked_look w (look_at w x v).members x v h.is_ring h.linked h.history (look_has_later w x v m) (λ q. look_member w x v q (λ i z. z.out ≡ (member_at w i).out) m.is_member refl (λ _. refl)) (λ o _ e. stays o e))
