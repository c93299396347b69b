-- A refresh that opens a link keeps the whole invariant.
use Rattle.std.proofs.Common.{◌≡◌, ◌≢◌, ℕ, ◌<◌, ◌+◌, true, false, [], ◌∷◌, ◌++◌, length, refl, sym, ap, subst, ◌∙◌, arith, nat_eq, Some}
use Rattle.std.specs.Prelude.{◌&&◌}
use Rattle.std.proofs.lemmas.List.{length-set, length_push}
use Rattle.std.proofs.lemmas.List.Elements.{filter_agree}
use Rattle.ring_rules.specs.Refusal.{is_empty}
use Rattle.ring_rules.proofs.events.WhatRefuses.{MayLook}
use Rattle.ring_rules.specs.View.{ids, is_live}
use Rattle.group_view.specs.Ring.{rotated, others, is_in}
use Rattle.ring_rules.specs.Machine.{Phase, Waiting, Up, Stopped, World, Member, Link, no_member, no_link, member_at, link_at, view_in, row_at, newest, ring, left, right, runs, runs_phase, is_kept, is_waiting, no_sending}
use Rattle.ring_rules.specs.Rows.{Row}
use Rattle.ring_rules.specs.declared.numbers.Numbers.{Numbers}
use Rattle.ring_rules.specs.OpenLinks.{own_number}
use Rattle.ring_rules.proofs.walks.CountedWalk.{walk}
use Rattle.ring_rules.specs.Step.{size, look_at, moved_to, next_packet, opened_link, open_to}
use Rattle.group_view.proofs.Rings.{others_inside}
use Rattle.ring_rules.proofs.rings.Lists.{at_set, at_push}
use Rattle.ring_rules.proofs.rings.Weakens.{then}
use Rattle.ring_rules.proofs.invariants.Good.{never_rises_still}
use Rattle.ring_rules.proofs.invariants.Standing.{knows}
use Rattle.ring_rules.proofs.walks.OwnerStops.{AllPackets, IsPacket}
use Rattle.ring_rules.proofs.walks.Views.{ring_less, right_in_view}
use Rattle.ring_rules.proofs.invariants.Ordered.{first_inside}
use Rattle.ring_rules.proofs.invariants.Linked.{linked_open, link_old}
use Rattle.ring_rules.proofs.walks.Refresh.{blind}
use Rattle.ring_rules.proofs.walks.Back.{closes_walk}
use Rattle.ring_rules.proofs.walks.Open.{open_walk, within_links, with_opened}
use Rattle.ring_rules.proofs.walks.Put.{runs_phase-Up}
use Rattle.ring_rules.proofs.invariants.Kept.{Inv, packets_stay, set_alike, waits_alike}
use Rattle.ring_rules.proofs.invariants.KeptLook.{Rest, look_rest, look_member, look_runs, look_has_later, whole}
use Rattle.ring_rules.proofs.walks.Packets.{reads_got, reads_forgot, line_of_packet}

-- what is known of x and its right neighbour z
pub record MayOpen (w : World) (x z : ℕ) : Type 0 where
  pub is_member : x < size w
  pub up : (member_at w x).phase ≡ Up
  pub newest_left : left w (newest w) z ≡ x
  pub left_now : left w (member_at w x).version z ≡ x
  pub inside : knows w (member_at w x).version z ≡ true
  pub fresh : (is_waiting (member_at w z).phase && nat_eq (member_at w x).version (member_at w z).version) ≡ false

abbrev pub out_member : World → ℕ → Member
out_member w x = record (member_at w x) { out = Some (length w.links) }

-- its numbers are those of the member, whatever its out link
pub out_number : (g : Numbers → ℕ) (r : Row → ℕ) (u w : World) (x p : ℕ) → own_number g r u p (out_member w x).phase (out_member w x) ≡ own_number g r u p (member_at w x).phase (member_at w x)
out_number g r u w x p = by_phase (member_at w x).phase
  where
    by_phase : (f : Phase) → own_number g r u p f (out_member w x) ≡ own_number g r u p f (member_at w x)
    by_phase Waiting = refl
    by_phase Up = refl
    by_phase Stopped = refl

pub open_rest : (w : World) (x z : ℕ) → MayOpen w x z → Rest w → Rest (open_to w x z)
open_rest w x z m r =
    let w' : World = open_to w x z in
    let l : Link = opened_link w x z in
    let y : Member = out_member w x in
    let many : size w' ≡ size w = length-set w.members x y in
    let more : length (w.links ++ l ∷ []) ≡ length w.links + 1 = length_push w.links l in
    let runs_same : (q : ℕ) → runs w' q ≡ runs w q = λ q. at_set (λ i a. runs_phase a.phase ≡ runs w i) w.members x q y no_member m.is_member refl (λ _. refl) in
    let view_same : (q : ℕ) → (member_at w' q).version ≡ (member_at w q).version = λ q. at_set (λ i a. a.version ≡ (member_at w i).version) w.members x q y no_member m.is_member refl (λ _. refl) in
    let rows : (q p : ℕ) → row_at (member_at w' q) p ≡ row_at (member_at w q) p = λ q p. at_set (λ i a. row_at a p ≡ row_at (member_at w i) p) w.members x q y no_member m.is_member refl (λ _. refl) in
    let phase : (q : ℕ) → (member_at w' q).phase ≡ (member_at w q).phase = λ q. at_set (λ i a. a.phase ≡ (member_at w i).phase) w.members x q y no_member m.is_member refl (λ _. refl) in
    let current : (q : ℕ) → (member_at w' q).current ≡ (member_at w q).current = λ q. at_set (λ i a. a.current ≡ (member_at w i).current) w.members x q y no_member m.is_member refl (λ _. refl) in
    let old : (s : ℕ) → s < length w.links → link_at w' s ≡ link_at w s = λ s lt. link_old w w'.members l s lt in
    record {
      linked = tt;
      is_ring = ring_less w w' refl (λ q e. sym (runs_same q) ∙ e) (λ q e. omega (arith, view_same q)) (λ q. omega (arith, view_same q, r.is_ring.held q)) r.is_ring;
      history = record {
        grows = r.history.grows;
        dies = r.history.dies;
        known = λ s lt. at_push (λ i k. is_in k.receiver (ids (view_in w k.opened)) ≡ true) w.links s l no_link (omega arith) m.inside (λ o. r.history.known s o);
      };
      ordered = record { part = r.ordered.part; order = r.ordered.order };
      packed = record { packets = λ s lt. at_push (λ i k. AllPackets (IsPacket w' k) k.packets) w.links s l no_link (omega arith) (new_packet, tt) (λ o. packets_stay w w'.members w'.links (link_at w s) (link_at w s).packets (r.packed.packets s o)) };
      numbered = record {
        zero = λ q p e.
            let e2 : knows w (member_at w q).version p ≡ false = ap (λ v. knows w v p) (sym (view_same q)) ∙ e in
            (ap (λ a. a.got) (rows q p) ∙ (r.numbered.zero q p e2).0, ap (λ a. a.forgot) (rows q p) ∙ (r.numbered.zero q p e2).1);
        beyond = λ q p ge. ap (λ k. k.retired) (rows q p) ∙ r.numbered.beyond q p (omega arith);
      };
      retired = record { none = λ p a b us inside e i. ap (λ k. k.retired) (rows b p) ∙ r.retired.none p a b us inside (sym (filter_agree (runs w') (runs w) runs_same (rotated p (ring w))) ∙ e) i };
      waiting = record {
        first = λ q t e c.
            let was : is_empty (link_at w t).packets ≡ false = r.waiting.first q t (sym (phase q) ∙ e) (sym (current q) ∙ c) in
            ap (λ k. is_empty k.packets) (old t (within_links w t was)) ∙ was;
        mine = λ q t e c.
            let was : is_empty (link_at w t).packets ≡ false = r.waiting.first q t (sym (phase q) ∙ e) (sym (current q) ∙ c) in
            ap (λ k. k.receiver) (old t (within_links w t was)) ∙ r.waiting.mine q t (sym (phase q) ∙ e) (sym (current q) ∙ c);
        admission = λ q t e lt. at_push (λ i k. k.receiver ≡ q → k.opened ≡ (member_at w' q).version → is_empty k.packets ≡ false) w.links t l no_link (omega arith)
            (λ _ _. refl) (λ o to v. r.waiting.admission q t (sym (phase q) ∙ e) o to (v ∙ view_same q));
      };
      joining = waits_alike w w' (λ q e. set_alike w x q y m.is_member (ap is_waiting m.up) e) (λ s lt. ap (λ k. k.opened) (old s lt)) r.current r.joining;
      current = record {
        lt = λ q s e c. omega (arith, r.current.lt q s (sym (runs_same q) ∙ e) (sym (current q) ∙ c));
        receiver = λ q s e c. ap (λ k. k.receiver) (old s (r.current.lt q s (sym (runs_same q) ∙ e) (sym (current q) ∙ c))) ∙ r.current.receiver q s (sym (runs_same q) ∙ e) (sym (current q) ∙ c);
        kept_yet = λ q s e c. ap (λ k. is_kept w k (member_at w' q).version) (old s (r.current.lt q s (sym (runs_same q) ∙ e) (sym (current q) ∙ c))) ∙ ap (is_kept w (link_at w s)) (view_same q) ∙ r.current.kept_yet q s (sym (runs_same q) ∙ e) (sym (current q) ∙ c);
        opened = λ q s e c. omega (arith, ap (λ k. k.opened) (old s (r.current.lt q s (sym (runs_same q) ∙ e) (sym (current q) ∙ c))), view_same q, r.current.opened q s (sym (runs_same q) ∙ e) (sym (current q) ∙ c));
      };
      origins = λ p some lt. r.origins p some (omega arith);
      walks = λ p some lt. let l2 : p < size w = omega arith in
          never_rises_still (walk w p) (walk w' p)
          (then (walk w p) (walk (with_opened w l) p) (walk w' p)
          (open_walk w x z p r.is_ring r.waiting m.up m.newest_left m.fresh)
          (closes_walk (with_opened w l) w' p (blind (with_opened w l) x p y m.is_member refl refl refl (λ g k. out_number g k (with_opened w l) w x p))))
          (r.walks p some l2);
    }
  where
    new_packet : IsPacket (open_to w x z) (opened_link w x z) (next_packet (member_at w x) no_sending)
    new_packet = record {
      from = omega arith;
      upto = r.is_ring.held x;
      kept = λ u a b. let now : u ≡ (member_at w x).version = omega arith in ap (λ t. left w t z) now ∙ m.left_now;
      zero = λ p e.
          (line_of_packet (λ k. k.got) (λ r. r.got) (member_at w x) no_sending p reads_got ∙ (r.numbered.zero x p e).0, line_of_packet (λ k. k.forgot) (λ r. r.forgot) (member_at w x) no_sending p reads_forgot ∙ (r.numbered.zero x p e).1);
    }

-- a refresh whose out link doesn't go to the right neighbour, or that has none
pub open_keeps : (w : World) (x v : ℕ) → MayLook w x v → ((o : ℕ) → (member_at w x).out ≡ Some o → (link_at w o).receiver ≢ right w v x) → (is_waiting (member_at (look_at w x v) (right w v x)).phase && nat_eq (member_at (look_at w x v) x).version (member_at (look_at w x v) (right w v x)).version) ≡ false → Inv w → Inv (open_to (look_at w x v) x (right w v x))
open_keeps w x v m moves fresh h =
    let w1 : World = look_at w x v in
    let z : ℕ = right w v x in
    let rx : runs w x ≡ true = runs_phase-Up w x m.up in
    let its_view : (member_at w1 x).version ≡ v = (look_has_later w x v m).its_view in
    let many : size w1 ≡ size w = length-set w.members x (moved_to w x v) in
    let lt : x < size w1 = let l2 : x < size w = m.is_member in omega arith in
    let may : MayOpen w1 x z = record {
      is_member = lt;
      up = look_member w x v x (λ k a. k ≡ x → a.phase ≡ Up) m.is_member (λ _. m.up) (λ d e. absurd (d e)) refl;
      newest_left = h.is_ring.front x v (newest w) rx m.later m.upto (omega arith);
      left_now = ap (λ t. left w t z) its_view ∙ h.is_ring.front x v v rx m.later (omega arith) m.upto;
      inside = ap (λ t. knows w t z) its_view ∙ subst (λ q. knows w v q ≡ true) (sym (right_in_view w v x (h.is_ring.stands x v rx m.later m.upto)))
          (first_inside (is_live (view_in w v)) x (others x (ids (view_in w v))) (ids (view_in w v)) (h.is_ring.stands x v rx m.later m.upto) (λ q i. others_inside x q (ids (view_in w v)) i));
      fresh = fresh;
    } in
    let members : (P : ℕ → Member → Type 0) (q : ℕ) → P x (out_member w1 x) → (q ≢ x → P q (member_at w1 q)) → P q (member_at (open_to w1 x z) q) = λ P q a b. at_set P w1.members x q (out_member w1 x) no_member lt a b in
    whole (open_to w1 x z) (open_rest w1 x z may (look_rest w x v m h))
    (linked_open w (open_to w1 x z).members x v (opened_link w1 x z) h.is_ring h.linked h.history (record {
      looks = record {
        later = m.later;
        upto = m.upto;
        runs_less = λ q e. sym (look_runs w x v q m.is_member) ∙ sym (members (λ i a. runs_phase a.phase ≡ runs w1 i) q refl (λ _. refl)) ∙ e;
        its_view = members (λ i a. i ≡ x → a.version ≡ v) x (λ _. its_view) (λ d e. absurd (d e)) refl;
        other_view = λ q d. members (λ i a. i ≢ x → a.version ≡ (member_at w i).version) q (λ k. absurd (k refl)) (λ _ d2. (look_has_later w x v m).other_view q d2) d;
      };
      x_runs = rx;
      moves = moves;
      sender = refl;
      receiver = refl;
      opened = its_view;
      its_out = members (λ i a. i ≡ x → a.out ≡ Some (length w.links)) x (λ _. refl) (λ d e. absurd (d e)) refl;
      other_out = λ q d. members (λ i a. i ≢ x → a.out ≡ (member_at w i).out) q (λ k. absurd (k refl)) (λ _ d2. look_member w x v q (λ i a. i ≢ x → a.out ≡ (member_at w i).out) m.is_member (λ k. absurd (k refl)) (λ _ _. refl) d2) d;
    }))
