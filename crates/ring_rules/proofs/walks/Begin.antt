-- A waiting member's take changes no number of the walk.
use Rattle.std.proofs.Common.{◌≡◌, ◌≢◌, ℕ, ◌<◌, Bool, true, false, length, refl, sym, ap, subst, ◌∙◌, arith, nat_eq, Option, Some, None}
use Rattle.std.specs.Prelude.{◌&&◌}
use Rattle.std.proofs.lemmas.List.{length-set}
use Rattle.std.proofs.lemmas.List.FromFn.{get_or-map-range_with_len}
use Rattle.ring_rules.specs.declared.numbers.Numbers.{Numbers}
use Rattle.ring_rules.specs.Rows.{Row, no_row}
use Rattle.ring_rules.specs.Machine.{Phase, Waiting, Up, Stopped, Member, World, no_link, no_member, row_at, numbers_at, member_at, link_at, runs, is_kept, is_waiting, runs_phase, oldest}
use Rattle.ring_rules.specs.Step.{size, popped, begun_row, begun, begin_from}
use Rattle.ring_rules.proofs.rings.Lists.{at_set}
use Rattle.ring_rules.proofs.rings.Weakens.{Weakens}
use Rattle.ring_rules.proofs.walks.Links.{kept}
use Rattle.ring_rules.proofs.rings.Rounds.{nat_eq-is, nat_eq-same, nat_eq-not}
use Rattle.ring_rules.proofs.walks.Back.{Closes, closes_walk}
use Rattle.ring_rules.proofs.invariants.Good.{IsWaitingRight}
use Rattle.ring_rules.proofs.walks.Put.{counted_other}
use Rattle.ring_rules.proofs.walks.CountedWalk.{when, past_first, counted_by, walk, counted}
use Rattle.ring_rules.specs.OpenLinks.{own_number, number, first_packet}

pub record CanBegin (w : World) (y s : ℕ) : Type 0 where
  pub is_member : y < size w
  pub waits : (member_at w y).phase ≡ Waiting
  pub current : (member_at w y).current ≡ Some s
  pub is_link : s < length w.links
  pub receiver : (link_at w s).receiver ≡ y
  pub opened : (link_at w s).opened ≡ (member_at w y).version
  -- no other link to it is of that version
  pub only_one : (j : ℕ) → j ≢ s → (link_at w j).receiver ≡ y → (link_at w j).opened ≢ (member_at w y).version
  pub waiting : IsWaitingRight w

-- the link itself
pub begin_counts_at : (w : World) (y s : ℕ) → CanBegin w y s → counted_by (is_kept w) y (begun (size w) (member_at w y) (oldest (link_at w s))) (popped (link_at w s)) ≡ counted w y (link_at w s)
begin_counts_at w y s h =
    let t : nat_eq (link_at w s).opened (member_at w y).version ≡ true = subst (λ v. nat_eq (link_at w s).opened v ≡ true) h.opened (nat_eq-same (link_at w s).opened) in
    rw (h.waits, t) refl

-- another link
pub begin_counts_else : (w : World) (y s j : ℕ) → CanBegin w y s → j ≢ s → counted_by (is_kept w) y (begun (size w) (member_at w y) (oldest (link_at w s))) (link_at w j) ≡ counted w y (link_at w j)
begin_counts_else w y s j h d = by_case (nat_eq (link_at w j).receiver y) refl
  where
    by_case : (b : Bool) → nat_eq (link_at w j).receiver y ≡ b → when (b && is_kept w (link_at w j) (member_at w y).version) (link_at w j).packets ≡ when (b && is_kept w (link_at w j) (member_at w y).version) (past_first (is_waiting (member_at w y).phase && nat_eq (link_at w j).opened (member_at w y).version) (link_at w j).packets)
    by_case true e =
        let t : nat_eq (link_at w j).opened (member_at w y).version ≡ false = nat_eq-not _ _ (h.only_one j d (nat_eq-is _ _ e)) in
        rw (h.waits, t) refl
    by_case false e = refl

pub begin_own : (g : Numbers → ℕ) (r : Row → ℕ) (w : World) (y s p : ℕ) → ((a : Row) (k : Numbers) → r (begun_row a k) ≡ g k) → CanBegin w y s → p < size w → r (row_at (begun (size w) (member_at w y) (oldest (link_at w s))) p) ≡ number g r w p y
begin_own g r w y s p gr h pl =
    ap r (get_or-map-range_with_len (λ p. begun_row (row_at (member_at w y) p) (numbers_at (oldest (link_at w s)) p)) 0 (size w) p p no_row pl (omega arith))
    ∙ gr (row_at (member_at w y) p) (numbers_at (oldest (link_at w s)) p)
    ∙ sym (ap (λ f. own_number g r w p f (member_at w y)) h.waits ∙ ap (λ c. g (numbers_at (first_packet w c) p)) h.current)

pub begin_number_other : (g : Numbers → ℕ) (r : Row → ℕ) (w : World) (y s p q : ℕ) → CanBegin w y s → q ≢ y → own_number g r (begin_from w y s) p (member_at w q).phase (member_at w q) ≡ number g r w p q
begin_number_other g r w y s p q h differs = by_phase (member_at w q).phase refl
  where
    by_current : (c : Option ℕ) → ((t : ℕ) → c ≡ Some t → t ≢ s) → first_packet (begin_from w y s) c ≡ first_packet w c
    by_current None e = refl
    by_current (Some t) e =
        at_set (λ j l. j ≢ s → oldest l ≡ oldest (link_at w j)) w.links s t (popped (link_at w s)) no_link h.is_link (λ n. absurd (n refl)) (λ _ _. refl) (e t refl)

    by_phase : (f : Phase) → (member_at w q).phase ≡ f → own_number g r (begin_from w y s) p f (member_at w q) ≡ own_number g r w p f (member_at w q)
    by_phase Waiting e = ap (λ j. g (numbers_at j p)) (by_current (member_at w q).current (λ t c is. differs (sym (h.waiting.mine q t e c) ∙ ap (λ j. (link_at w j).receiver) is ∙ h.receiver)))
    by_phase Up e = refl
    by_phase Stopped e = refl

pub begin_closes : (w : World) (y s p : ℕ) → CanBegin w y s → p < size w → Closes w (begin_from w y s) p
begin_closes w y s p h pl =
    let b : Member = begun (size w) (member_at w y) (oldest (link_at w s)) in
    record {
      many = length-set w.links s (popped (link_at w s));
      senders = λ j. at_set (λ i l. l.sender ≡ (link_at w i).sender) w.links s j (popped (link_at w s)) no_link h.is_link refl (λ _. refl);
      is_ring = refl;
      runs_same = λ q. at_set (λ k z. runs_phase z.phase ≡ runs w k) w.members y q b no_member h.is_member (rw h.waits refl) (λ _. refl);
      counts = λ q j. kept (at_set (λ i l. counted (begin_from w y s) q l ≡ counted w q (link_at w i)) w.links s j (popped (link_at w s)) no_link h.is_link
          (at_set (λ k z. counted_by (is_kept w) k z (popped (link_at w s)) ≡ counted w k (link_at w s)) w.members y q b no_member h.is_member
          (begin_counts_at w y s h)
          (λ d. counted_other w q (popped (link_at w s)) (λ e. d (sym e ∙ h.receiver)) ∙ sym (counted_other w q (link_at w s) (λ e. d (sym e ∙ h.receiver)))))
          (λ dj. at_set (λ k z. counted_by (is_kept w) k z (link_at w j) ≡ counted w k (link_at w j)) w.members y q b no_member h.is_member (begin_counts_else w y s j h dj) (λ _. refl)));
      own_got = λ q. at_set (λ k z. own_number (λ k. k.got) (λ r. r.got) (begin_from w y s) p z.phase z ≡ number (λ k. k.got) (λ r. r.got) w p k) w.members y q b no_member h.is_member
          (begin_own (λ k. k.got) (λ r. r.got) w y s p (λ a k. refl) h pl) (λ d. begin_number_other (λ k. k.got) (λ r. r.got) w y s p q h d);
      own_forgot = λ q. at_set (λ k z. own_number (λ k. k.forgot) (λ r. r.forgot) (begin_from w y s) p z.phase z ≡ number (λ k. k.forgot) (λ r. r.forgot) w p k) w.members y q b no_member h.is_member
          (begin_own (λ k. k.forgot) (λ r. r.forgot) w y s p (λ a k. refl) h pl) (λ d. begin_number_other (λ k. k.forgot) (λ r. r.forgot) w y s p q h d);
      retires = λ q. at_set (λ k z. (row_at z p).retired ≡ (row_at (member_at w k) p).retired) w.members y q b no_member h.is_member
          (ap (λ a. a.retired) (get_or-map-range_with_len (λ p. begun_row (row_at (member_at w y) p) (numbers_at (oldest (link_at w s)) p)) 0 (size w) p p no_row pl (omega arith))) (λ _. refl);
    }

pub begin_walk : (w : World) (y s p : ℕ) → CanBegin w y s → p < size w → Weakens (walk w p) (walk (begin_from w y s) p)
begin_walk w y s p h pl = closes_walk w (begin_from w y s) p (begin_closes w y s p h pl)
