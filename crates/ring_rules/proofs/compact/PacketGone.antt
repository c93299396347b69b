-- The oldest packet of an up member's link goes, and nobody is written.
use Rattle.std.proofs.Common.{◌≡◌, ◌≢◌, ℕ, ◌<◌, Bool, true, false, length, drop, Option, Some, None, refl, sym, ap, ◌∙◌, arith, nat_eq}
use Rattle.std.specs.Prelude.{◌&&◌}
use Rattle.std.proofs.lemmas.List.{length-set, get_or-set_other}
use Rattle.ring_rules.specs.declared.numbers.Numbers.{Numbers}
use Rattle.ring_rules.specs.Rows.{Row}
use Rattle.ring_rules.specs.Refusal.{is_empty}
use Rattle.ring_rules.specs.Machine.{Phase, Waiting, Up, Stopped, Link, World, no_link, numbers_at, member_at, link_at, is_kept, is_waiting, oldest}
use Rattle.ring_rules.proofs.walks.CountedWalk.{when, past_first, counted, walk}
use Rattle.group_view.proofs.Rings.{nat_eq-is}
use Rattle.ring_rules.specs.OpenLinks.{first_packet, own_number, number}
use Rattle.ring_rules.specs.Step.{with_link, popped}
use Rattle.ring_rules.proofs.rings.Writes.{at_set}
use Rattle.ring_rules.proofs.invariants.Good.{never_rises_still}
use Rattle.ring_rules.proofs.walks.OwnerStops.{AllPackets, IsPacket}
use Rattle.ring_rules.proofs.invariants.Shape.{SameEnds, IsShaped}
use Rattle.ring_rules.proofs.walks.Links.{IsOr, kept, less}
use Rattle.ring_rules.proofs.walks.Back.{Closes, closes_walk}
use Rattle.ring_rules.proofs.invariants.Kept.{Inv, AllPackets-drop, shaped_packed, shaped_current, shaped_keeps, waits_alike}
use Rattle.ring_rules.proofs.invariants.FromLeft.{IsGood}
use Rattle.ring_rules.proofs.invariants.Happens.{same_views}

module _ (w : World) (x s : ℕ) (up : (member_at w x).phase ≡ Up) (lt : s < length w.links) (to : (link_at w s).receiver ≡ x) (h : Inv w) where
  abbrev w' : World
  w' = with_link w s (popped (link_at w s))

  -- no waiting member takes from it
  elsewhere : (y t : ℕ) → (member_at w y).phase ≡ Waiting → (link_at w t).receiver ≡ y → t ≢ s
  elsewhere y t e r is =
      let same : y ≡ x = sym r ∙ ap (λ j. (link_at w j).receiver) is ∙ to in
      let bad : Waiting ≡ Up = sym e ∙ ap (λ q. (member_at w q).phase) same ∙ up in cc

  -- so its link is as it was
  as_it_was : (t : ℕ) → t ≢ s → link_at w' t ≡ link_at w t
  as_it_was t ne = get_or-set_other w.links s t (popped (link_at w s)) no_link ne

  -- what counts of it is less by that packet
  counts_less : (q : ℕ) → IsOr (counted w q (popped (link_at w s))) (counted w q (link_at w s))
  counts_less q = by_receiver (nat_eq (link_at w s).receiver q) refl
    where
      by_kept : (b : Bool) → IsOr (when b (drop 1 (link_at w s).packets)) (when b (link_at w s).packets)
      by_kept true = less refl
      by_kept false = kept refl

      by_receiver : (b : Bool) → nat_eq (link_at w s).receiver q ≡ b
          → IsOr (when (b && is_kept w (link_at w s) (member_at w q).version) (past_first (is_waiting (member_at w q).phase && nat_eq (link_at w s).opened (member_at w q).version) (drop 1 (link_at w s).packets)))
          (when (b && is_kept w (link_at w s) (member_at w q).version) (past_first (is_waiting (member_at w q).phase && nat_eq (link_at w s).opened (member_at w q).version) (link_at w s).packets))
      by_receiver false e = kept refl
      by_receiver true e =
          let is : x ≡ q = sym to ∙ nat_eq-is (link_at w s).receiver q e in
          let phase : (member_at w q).phase ≡ Up = ap (λ k. (member_at w k).phase) (sym is) ∙ up in
          rw phase (by_kept (is_kept w (link_at w s) (member_at w q).version))

  -- each member's own number stays
  own_stays : (g : Numbers → ℕ) (r : Row → ℕ) (p q : ℕ) → number g r w' p q ≡ number g r w p q
  own_stays g r p q = by_phase (member_at w q).phase refl
    where
      by_current : (c : Option ℕ) → (member_at w q).phase ≡ Waiting → (member_at w q).current ≡ c → g (numbers_at (first_packet w' c) p) ≡ g (numbers_at (first_packet w c) p)
      by_current None e k = refl
      by_current (Some t) e k = ap (λ (a : Link). g (numbers_at (oldest a) p)) (as_it_was t (elsewhere q t e (h.waiting.mine q t e k)))

      by_phase : (f : Phase) → (member_at w q).phase ≡ f → own_number g r w' p f (member_at w q) ≡ own_number g r w p f (member_at w q)
      by_phase Waiting e = by_current (member_at w q).current e refl
      by_phase Up e = refl
      by_phase Stopped e = refl

  pop_closes : (p : ℕ) → Closes w w' p
  pop_closes p = record {
    many = length-set w.links s (popped (link_at w s));
    senders = λ j. at_set (λ i a. a.sender ≡ (link_at w i).sender) w.links s j (popped (link_at w s)) no_link lt refl (λ _. refl);
    is_ring = refl;
    runs_same = λ q. refl;
    counts = λ q j. at_set (λ i a. IsOr (counted w q a) (counted w q (link_at w i))) w.links s j (popped (link_at w s)) no_link lt (counts_less q) (λ _. kept refl);
    own_got = own_stays (λ k. k.got) (λ r. r.got) p;
    own_forgot = own_stays (λ k. k.forgot) (λ r. r.forgot) p;
    retires = λ q. refl;
  }

  pop_shape : IsShaped w w.members w'.links
  pop_shape = record {
    many = length-set w.links s (popped (link_at w s));
    ends = λ j. at_set (λ i a. SameEnds (link_at w i) a) w.links s j (popped (link_at w s)) no_link lt (record { sender = refl; receiver = refl; opened = refl }) (λ _. record { sender = refl; receiver = refl; opened = refl });
    runs_less = λ q r. r;
    version = λ q. refl;
    out = λ q. refl;
  }

  pop_keeps : Inv w'
  pop_keeps = shaped_keeps w w.members w'.links pop_shape (record {
    many = refl;
    packed = shaped_packed w w.members w'.links pop_shape
        (λ j jl. at_set (λ i a. i < length w.links → AllPackets (IsPacket w (link_at w i)) a.packets) w.links s j (popped (link_at w s)) no_link lt
        (λ l2. AllPackets-drop (IsPacket w (link_at w s)) (link_at w s).packets (h.packed.packets s l2)) (λ _ l2. h.packed.packets j l2) jl);
    numbered = record { zero = h.numbered.zero; beyond = h.numbered.beyond };
    retired = record { none = h.retired.none };
    waiting = record {
      first = λ y t e c. ap (λ (a : Link). is_empty a.packets) (as_it_was t (elsewhere y t e (h.waiting.mine y t e c))) ∙ h.waiting.first y t e c;
      mine = λ y t e c. (pop_shape.ends t).receiver ∙ h.waiting.mine y t e c;
      admission = λ y t e lt2 r v.
          let old : (link_at w t).receiver ≡ y = sym (pop_shape.ends t).receiver ∙ r in
          ap (λ (a : Link). is_empty a.packets) (as_it_was t (elsewhere y t e old)) ∙ h.waiting.admission y t e (omega (arith, pop_shape.many)) old (sym (pop_shape.ends t).opened ∙ v);
    };
    joining = waits_alike w w' (λ z e. refl) (λ t l2. (pop_shape.ends t).opened) h.current h.joining;
    current = shaped_current w w.members w'.links pop_shape (λ q. refl) h.current;
    walks = λ p some l2. never_rises_still (walk w p) (walk w' p) (closes_walk w w' p (pop_closes p)) (h.walks p some l2);
  }) h

-- a good state stays good
pub pop_good : (w : World) (x s : ℕ) → (member_at w x).phase ≡ Up → s < length w.links → (link_at w s).receiver ≡ x → IsGood w → IsGood (with_link w s (popped (link_at w s)))
pop_good w x s up lt to g = record { inv = pop_keeps w x s up lt to g.inv; views = same_views w w.members (with_link w s (popped (link_at w s))).links g.views; next_id = g.next_id }
