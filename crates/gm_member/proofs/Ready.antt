-- What a member has ready for an answer stays so from call to call.
use Rattle.std.proofs.Common.{◌≡◌, ℕ, Bool, true, false, Option, Some, None, refl, sym, ap, subst, arith}
use Rattle.std.proofs.lemmas.Bool.{false≢true}
use Rattle.std.specs.Prelude.{IsSome, MatchOption, ⊤, vec_len, vec_capacity}
use Rattle.ring_rules.specs.Machine.{runs_phase}
use Rattle.ordered_link.specs.declared.ends.LinkOut.{Ghosts}
use Rattle.activity.specs.declared.packet.Load.{Load}
use Rattle.gm_member.specs.declared.member.Member.{Member}
use Rattle.gm_member.specs.declared.spare.Spare.{Spare}
use Rattle.gm_member.specs.declared.links.OutLink.{OutLink}
use Rattle.gm_member.specs.Held.{at_some}
use Rattle.gm_member.specs.View.{all_kept, has_ended, last_sent_on}
use Rattle.activity.specs.Diff.{IsNotAbove}
use Rattle.gm_member.specs.Ends.{EndIsOpen}
use Rattle.gm_member.specs.Spares.{IsSpareFor}
use Rattle.gm_member.specs.Calls.{SameSelf, KeepsOuts}
use Rattle.gm_member.specs.Within.{IsWithin}
use Rattle.gm_member.specs.Shown.{When, OutIsReady, OutIsBack, IsReadyToMove, SpareIsReady, SpareIsSound, KeepsSpare}
use Rattle.gm_member.proofs.Within.{within_above}

-- what holds of that which is there
if_there : {A : Type 0} (N : Type 0) (P Q : A → Type 0) (o : Option A) → ((a : A) → P a → Q a) → MatchOption o N P → MatchOption o N Q
if_there N P Q None f p = p
if_there N P Q (Some a) f p = f a p

-- what holds of that which is there holds where something is
there_is : {A : Type 0} (P : A → Type 0) (o : Option A) → MatchOption o ⊥ P → MatchOption o ⊤ P
there_is P None p = tt
there_is P (Some a) p = p

module _ {O : Type 0} where
  -- an end that is there and is none that has ended is open
  end_open : (ended : O → Bool) (end : Option O) → at_some end false ended ≡ false → IsSome end → EndIsOpen ended end
  end_open ended None e p = absurd (false≢true p)
  end_open ended (Some o) e p = e

  -- so is the end of the link on which a member sends
  out_open : (ended : O → Bool) (out : Option (OutLink O)) → has_ended ended out ≡ false → MatchOption out ⊤ (λ l. IsSome l.end) → MatchOption out ⊤ (λ l. EndIsOpen ended l.end)
  out_open ended None e p = tt
  out_open ended (Some l) e p = end_open ended l.end e p

-- what follows where a test passes
when_both : (b : Bool) {P Q R : Type 0} → (P → Q → R) → (b ≡ true → P) → When b Q → When b R
when_both true f p q = f (p refl) q
when_both false f p q = tt

module _ {O I : Type 0} {g : Ghosts O Load} where
  -- a member that is the same, and sends as it did, keeps what makes its link ready
  pub keeps_same : (m n : Member O I g) → SameSelf m n → KeepsOuts m n → n.spare ≡ m.spare → KeepsSpare m n
  keeps_same m n same outs spare = (spare, same.1, ap all_kept same.2, omega (arith, ap vec_len outs.1), omega (arith, ap vec_capacity outs.1))

  -- the link that is there is ready
  pub ready_there : (are_fresh : ℕ → O → I → Type 0) (free : O → ℕ) (ended : O → Bool) (m : Member O I g) (s : Spare O I g) → m.spare ≡ Some s → SpareIsReady are_fresh free ended m → IsReadyToMove are_fresh free ended m s
  ready_there are_fresh free ended m s e = subst (λ o. MatchOption o ⊥ (IsReadyToMove are_fresh free ended m)) e

  -- whoever has one ready has it sound
  pub ready_sound : (are_fresh : ℕ → O → I → Type 0) (free : O → ℕ) (ended : O → Bool) (m : Member O I g) → SpareIsReady are_fresh free ended m → SpareIsSound are_fresh free ended m
  ready_sound are_fresh free ended m = there_is _ m.spare

  -- a link that was ready is ready
  still_moves : (are_fresh : ℕ → O → I → Type 0) (free : O → ℕ) (ended : O → Bool) (m n : Member O I g) (s : Spare O I g) → KeepsSpare m n → IsReadyToMove are_fresh free ended m s → IsReadyToMove are_fresh free ended n s
  still_moves are_fresh free ended m n s k r = record {
    spare =
        subst (λ c. IsSpareFor are_fresh free ended c.initial (all_kept n.tables) s) (sym k.1)
        (subst (λ known. IsSpareFor are_fresh free ended m.credit.initial known s) (sym k.2) r.spare);
    room = omega (arith, k.3, k.4, r.room);
  }

  -- it still has one
  pub keeps_ready : (are_fresh : ℕ → O → I → Type 0) (free : O → ℕ) (ended : O → Bool) (m n : Member O I g) → KeepsSpare m n → SpareIsReady are_fresh free ended m → SpareIsReady are_fresh free ended n
  keeps_ready are_fresh free ended m n k p =
      subst (λ o. MatchOption o ⊥ (IsReadyToMove are_fresh free ended n)) (sym k.0) (if_there ⊥ _ _ m.spare (λ s. still_moves are_fresh free ended m n s k) p)

  -- the end on which a running member sends hasn't ended, where it isn't lent
  pub is_ready : (m : Member O I g) → OutIsBack m → OutIsReady g.ended m
  is_ready m = when_both (runs_phase m.phase) (out_open g.ended m.out) m.unended

  -- what a member has sent on a link is in its tables
  pub sent_there : (m : Member O I g) (l : OutLink O) → m.out ≡ Some l → IsNotAbove l.sent m.tables
  sent_there m l e = within_above l.sent m.tables (subst (λ o. IsWithin (last_sent_on o) m.tables) e m.sent)
