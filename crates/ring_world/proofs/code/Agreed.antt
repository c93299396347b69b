-- The number on which all agree of an erased origin can be read at any running member.
use Rattle.ring_rules.proofs.walks.Ended.{runs_lt}
use Rattle.std.proofs.Common.{◌≡◌, ℕ, zero, suc, ◌<◌, ◌≤◌, Bool, true, false, cond, Option, Some, None, refl, sym, subst, ◌∙◌, ⊎_elim, arith}
use Rattle.std.proofs.Math.Nat.{ℕ_set}
use Rattle.std.proofs.Math.Logic.{∥∥₁_elim}
use Rattle.std.proofs.lemmas.Bool.{false≢true, cases_lt}
use Rattle.ring_rules.specs.Machine.{World, runs}
use Rattle.ring_rules.specs.OpenLinks.{number}
use Rattle.ring_rules.specs.Step.{size}
use Rattle.ring_rules.specs.Lawful.{AgreesOn, IsAgreed}
use Rattle.ring_world.specs.Reached.{WorldSeen, IsReachedIn}

-- a running member with an id below n
abbrev someone : World → ℕ → Option ℕ
someone w zero = None
someone w (suc n) = cond (runs w n) (Some n) (someone w n)

someone_runs : (w : World) (n q : ℕ) → someone w n ≡ Some q → runs w q ≡ true
someone_runs w zero q e = cc
someone_runs w (suc n) q e = by_runs (runs w n) refl e (λ f. someone_runs w n q f)
  where
    by_runs : (b : Bool) → runs w n ≡ b → cond b (Some n) (someone w n) ≡ Some q → (someone w n ≡ Some q → runs w q ≡ true) → runs w q ≡ true
    by_runs true k f below = let same : n ≡ q = cc in subst (λ j. runs w j ≡ true) same k
    by_runs false k f below = below f

nobody_runs : (w : World) (n q : ℕ) → someone w n ≡ None → q < n → runs w q ≡ false
nobody_runs w zero q e lt = absurd (omega arith)
nobody_runs w (suc n) q e lt = by_runs (runs w n) refl e (λ f less. nobody_runs w n q f less)
  where
    by_runs : (b : Bool) → runs w n ≡ b → cond b (Some n) (someone w n) ≡ None → (someone w n ≡ None → q < n → runs w q ≡ false) → runs w q ≡ false
    by_runs true k f below = cc
    by_runs false k f below = ⊎_elim
        (λ (less : q < n). below f less)
        (λ (ge : n ≤ q). let same : n ≡ q = omega arith in subst (λ j. runs w j ≡ false) same k)
        (cases_lt q n)

-- what it got of the origin
abbrev told_of : World → ℕ → Option ℕ → ℕ
told_of w p None = 0
told_of w p (Some q) = number (λ k. k.got) (λ r. r.got) w p q

abbrev told : World → ℕ → ℕ
told w p = told_of w p (someone w (size w))

all_told : (w : World) (p : ℕ) → IsAgreed w p → AgreesOn w p (told w p)
all_told w p a = by_someone (someone w (size w)) refl
  where
    nobody : (q : ℕ) → someone w (size w) ≡ None → runs w q ≡ true → ⊥
    nobody q e r = false≢true (sym (nobody_runs w (size w) q e (runs_lt w q r)) ∙ r)

    by_someone : (o : Option ℕ) → someone w (size w) ≡ o → AgreesOn w p (told_of w p o)
    by_someone None e = record { got = λ q r. absurd (nobody q e r); forgot = λ q r. absurd (nobody q e r); packets = λ q s i r. absurd (nobody q e r) }
    by_someone (Some q) e = subst (AgreesOn w p) (sym (a.agrees.got q (someone_runs w (size w) q e))) a.agrees

-- what is known of some run is known
pub agreed_from : (seen : WorldSeen) (n : ℕ) (v : World) (p : ℕ) → ∥ IsReachedIn seen n ∥₁ → (IsReachedIn seen n → IsAgreed v p) → IsAgreed v p
agreed_from seen n v p r f = record {
  on = told v p;
  agrees = record {
    got = λ q a. ∥∥₁_elim r (ℕ_set _ _) (λ h. (all_told v p (f h)).got q a);
    forgot = λ q a. ∥∥₁_elim r (ℕ_set _ _) (λ h. (all_told v p (f h)).forgot q a);
    packets = λ q s i a b c d. (∥∥₁_elim r (ℕ_set _ _) (λ h. ((all_told v p (f h)).packets q s i a b c d).0), ∥∥₁_elim r (ℕ_set _ _) (λ h. ((all_told v p (f h)).packets q s i a b c d).1));
  };
}
