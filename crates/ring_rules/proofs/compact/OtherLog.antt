-- A good state stays good with another log of an up member.
use Rattle.std.proofs.Common.{◌≡◌, ℕ, ◌<◌, false, List, refl, sym, ap, ◌∙◌, arith}
use Rattle.std.proofs.lemmas.List.{length-set}
use Rattle.std.proofs.lemmas.List.Elements.{filter_agree}
use Rattle.queue_core.specs.declared.message.Message.{Message}
use Rattle.group_view.specs.Ring.{rotated}
use Rattle.ring_rules.specs.Machine.{Up, Member, World, no_member, row_at, member_at, ring, runs, runs_phase, is_waiting}
use Rattle.ring_rules.proofs.walks.CountedWalk.{walk}
use Rattle.ring_rules.specs.Step.{size, with_member}
use Rattle.ring_rules.proofs.rings.Writes.{at_set}
use Rattle.ring_rules.proofs.invariants.Good.{never_rises_still}
use Rattle.ring_rules.proofs.invariants.Standing.{knows}
use Rattle.ring_rules.proofs.invariants.Shape.{IsShaped, member_shaped}
use Rattle.ring_rules.proofs.walks.Back.{closes_walk}
use Rattle.ring_rules.proofs.walks.Refresh.{blind}
use Rattle.ring_rules.proofs.invariants.Kept.{Inv, shaped_packed, shaped_current, shaped_keeps, set_alike, waits_alike}
use Rattle.ring_rules.proofs.invariants.FromLeft.{IsGood}
use Rattle.ring_rules.proofs.invariants.Happens.{same_views}

-- a member has another log
abbrev pub with_log : List Message → Member → Member
with_log l y = record y { log = l }

log_keeps : (w : World) (y : ℕ) (l : List Message) → y < size w → (member_at w y).phase ≡ Up → Inv w → Inv (with_member w y (with_log l (member_at w y)))
log_keeps w y l lt up h =
    let m : Member = with_log l (member_at w y) in
    let w' : World = with_member w y m in
    let many : size w' ≡ size w = length-set w.members y m in
    let rows : (q p : ℕ) → row_at (member_at w' q) p ≡ row_at (member_at w q) p = λ q p. at_set (λ i a. row_at a p ≡ row_at (member_at w i) p) w.members y q m no_member lt refl (λ _. refl) in
    let runs_same : (q : ℕ) → runs w' q ≡ runs w q = λ q. at_set (λ i a. runs_phase a.phase ≡ runs w i) w.members y q m no_member lt refl (λ _. refl) in
    let phase : (q : ℕ) → (member_at w' q).phase ≡ (member_at w q).phase = λ q. at_set (λ i a. a.phase ≡ (member_at w i).phase) w.members y q m no_member lt refl (λ _. refl) in
    let current : (q : ℕ) → (member_at w' q).current ≡ (member_at w q).current = λ q. at_set (λ i a. a.current ≡ (member_at w i).current) w.members y q m no_member lt refl (λ _. refl) in
    let sh : IsShaped w w'.members w.links = member_shaped w y m lt (λ q r. sym (runs_same q) ∙ r) refl refl in
    shaped_keeps w w'.members w.links sh (record {
      many = many;
      packed = shaped_packed w w'.members w.links sh h.packed.packets;
      numbered = record { zero = λ z p. at_set (λ i a. knows w a.version p ≡ false → ((row_at a p).got ≡ 0) × ((row_at a p).forgot ≡ 0)) w.members y z m no_member lt (h.numbered.zero y p) (λ _. h.numbered.zero z p); beyond = λ z p ge. ap (λ r. r.retired) (rows z p) ∙ h.numbered.beyond z p (omega arith) };
      retired = record { none = λ p a b us r e i. ap (λ r. r.retired) (rows b p) ∙ h.retired.none p a b us r (sym (filter_agree (runs w') (runs w) runs_same (rotated p (ring w))) ∙ e) i };
      waiting = record {
        first = λ z t e j. h.waiting.first z t (sym (phase z) ∙ e) (sym (current z) ∙ j);
        mine = λ z t e j. h.waiting.mine z t (sym (phase z) ∙ e) (sym (current z) ∙ j);
        admission = λ z t e l2 to v. h.waiting.admission z t (sym (phase z) ∙ e) l2 to (v ∙ sh.version z);
      };
      joining = waits_alike w w' (λ z e. set_alike w y z m lt (ap is_waiting up) e) (λ s l2. refl) h.current h.joining;
      current = shaped_current w w'.members w.links sh current h.current;
      walks = λ p some l2. never_rises_still (walk w p) (walk w' p) (closes_walk w w' p (blind w y p m lt refl refl refl (λ g r. rw up refl))) (h.walks p some l2);
    }) h

-- and so it stays good
pub log_good : (w : World) (y : ℕ) (l : List Message) → y < size w → (member_at w y).phase ≡ Up → IsGood w → IsGood (with_member w y (with_log l (member_at w y)))
log_good w y l lt up h = record {
  inv = log_keeps w y l lt up h.inv;
  next_id = h.next_id ∙ sym (length-set w.members y (with_log l (member_at w y)));
  views = same_views w (with_member w y (with_log l (member_at w y))).members w.links h.views;
}
