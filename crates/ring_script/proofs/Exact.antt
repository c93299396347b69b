-- A text is right or has a first fault, never both, and one first fault alone.
use Rattle.std.proofs.Common.{◌≡◌, ◌⊎◌, ℕ, zero, suc, ◌+◌, ◌<◌, List, [], ◌∷◌, Option, Some, None, length, refl, sym, ap, subst, ◌∙◌, ⊎_elim, inl, inr, arith}
use Rattle.std.proofs.lemmas.Bool.{cases_order}
use Rattle.ring_script.specs.declared.fault.Kind.{Kind}
use Rattle.ring_script.specs.declared.fault.Kind.TheVariants.{NoMembers}
use Rattle.ring_script.specs.Words.{lines_of}
use Rattle.ring_script.specs.Fault.{code_of}
use Rattle.ring_script.specs.Line.{Grammar}
use Rattle.ring_script.specs.Reading.{used_of, fault_at, AreRight, IsFaultAt, AreMissed, IsFirstFault, HasFault, IsRight, JudgesEachText}
use Rattle.ring_script.proofs.Lines.{right_more}

-- ---- right or wrong

-- a fault stands among the first lines
pub record IsWrongBefore (grammar : Grammar) (lines : List (List ℕ)) (end : ℕ) : Type 0 where
  pub place : ℕ
  pub there : place < end
  pub kind : Kind
  pub right : AreRight grammar lines place
  pub wrong : fault_at grammar lines place ≡ Some kind

at_line : (grammar : Grammar) (lines : List (List ℕ)) (n : ℕ) (o : Option Kind) → fault_at grammar lines n ≡ o → AreRight grammar lines n → AreRight grammar lines (n + 1) ⊎ IsWrongBefore grammar lines (n + 1)
at_line grammar lines n None e right = inl (right_more grammar lines n right e)
at_line grammar lines n (Some kind) e right = inr (record { place = n; there = omega arith; kind = kind; right = right; wrong = e })

judged : (grammar : Grammar) (lines : List (List ℕ)) (n : ℕ) → AreRight grammar lines n ⊎ IsWrongBefore grammar lines n
judged grammar lines zero = inl (λ place l. absurd (omega arith))
judged grammar lines (suc n) =
    let further : n + 1 ≡ suc n = omega arith in
    subst (λ k. AreRight grammar lines k ⊎ IsWrongBefore grammar lines k) further
    (⊎_elim (λ (right : AreRight grammar lines n). at_line grammar lines n (fault_at grammar lines n) refl right)
    (λ (wrong : IsWrongBefore grammar lines n). inr (record { place = wrong.place; there = omega (arith, wrong.there); kind = wrong.kind; right = wrong.right; wrong = wrong.wrong }))
    (judged grammar lines n))

missed_by : (grammar : Grammar) (bytes : List ℕ) (used : List (ℕ × List ℕ)) → used_of (lines_of bytes) ≡ used → AreRight grammar (lines_of bytes) (length (lines_of bytes)) → IsRight grammar bytes ⊎ HasFault grammar bytes
missed_by grammar bytes [] e right =
    inr (length (lines_of bytes) + 1, code_of NoMembers, record { kind = NoMembers; is = refl; stands = inr (record { is = refl; right = right; nothing = e; members = refl }) })
missed_by grammar bytes (line ∷ used) e right = inl (record { lines = right; some = subst (λ xs. 0 < length xs) (sym e) (omega arith) })

pub right_or_wrong : (grammar : Grammar) (bytes : List ℕ) → IsRight grammar bytes ⊎ HasFault grammar bytes
right_or_wrong grammar bytes =
    ⊎_elim (λ (right : AreRight grammar (lines_of bytes) (length (lines_of bytes))). missed_by grammar bytes (used_of (lines_of bytes)) refl right)
    (λ (wrong : IsWrongBefore grammar (lines_of bytes) (length (lines_of bytes))). inr (
      wrong.place + 1,
      code_of wrong.kind,
      record { kind = wrong.kind; is = refl; stands = inl (record { place = wrong.place; is = refl; there = wrong.there; right = wrong.right; wrong = wrong.wrong }) },
    ))
    (judged grammar (lines_of bytes) (length (lines_of bytes)))

-- ---- never both

right_at : (grammar : Grammar) (lines : List (List ℕ)) (end place : ℕ) (kind : Kind) → AreRight grammar lines end → place < end → fault_at grammar lines place ≡ Some kind → ⊥
right_at grammar lines end place kind right l wrong = let both = sym (right place l) ∙ wrong in cc

pub right_has_no_fault : (grammar : Grammar) (bytes : List ℕ) (line code : ℕ) → IsRight grammar bytes → IsFirstFault grammar bytes line code → ⊥
right_has_no_fault grammar bytes line code right fault =
    ⊎_elim (λ (at : IsFaultAt grammar (lines_of bytes) line fault.kind). right_at grammar (lines_of bytes) (length (lines_of bytes)) at.place fault.kind right.lines at.there at.wrong)
    (λ (missed : AreMissed grammar (lines_of bytes) line fault.kind). absurd (let none = ap length missed.nothing in let some = right.some in omega arith))
    fault.stands

-- ---- one alone

same_place : (grammar : Grammar) (lines : List (List ℕ)) (n m : ℕ) (a b : Kind) → IsFaultAt grammar lines n a → IsFaultAt grammar lines m b → (n ≡ m) × (a ≡ b)
same_place grammar lines n m a b f g =
    ⊎_elim (λ (same : f.place ≡ g.place).
    let kinds : Some a ≡ Some b = sym f.wrong ∙ ap (fault_at grammar lines) same ∙ g.wrong in
    (f.is ∙ ap (λ k. k + 1) same ∙ sym g.is, cc))
    (λ (other : (f.place < g.place) ⊎ (g.place < f.place)). absurd (⊎_elim
    (λ (l : f.place < g.place). right_at grammar lines g.place f.place a g.right l f.wrong)
    (λ (l : g.place < f.place). right_at grammar lines f.place g.place b f.right l g.wrong) other))
    (cases_order f.place g.place)

pub first_fault_is_one : (grammar : Grammar) (bytes : List ℕ) (line code line' code' : ℕ) → IsFirstFault grammar bytes line code → IsFirstFault grammar bytes line' code' → (line ≡ line') × (code ≡ code')
first_fault_is_one grammar bytes line code line' code' f g =
    let lines = lines_of bytes in
    let kinds : (line ≡ line') × (f.kind ≡ g.kind) =
    ⊎_elim (λ (at : IsFaultAt grammar lines line f.kind).
    ⊎_elim (λ (at' : IsFaultAt grammar lines line' g.kind). same_place grammar lines line line' f.kind g.kind at at')
    (λ (missed' : AreMissed grammar lines line' g.kind). absurd (right_at grammar lines (length lines) at.place f.kind missed'.right at.there at.wrong))
    g.stands)
    (λ (missed : AreMissed grammar lines line f.kind).
    ⊎_elim (λ (at' : IsFaultAt grammar lines line' g.kind). absurd (right_at grammar lines (length lines) at'.place g.kind missed.right at'.there at'.wrong))
    (λ (missed' : AreMissed grammar lines line' g.kind). (missed.is ∙ sym missed'.is, missed.members ∙ sym missed'.members))
    g.stands)
    f.stands in
    (kinds.0, f.is ∙ ap code_of kinds.1 ∙ sym g.is)

-- so each text is judged
pub judges_each : (grammar : Grammar) → JudgesEachText grammar
judges_each grammar = record { either = right_or_wrong grammar; never_both = right_has_no_fault grammar; one_fault = first_fault_is_one grammar }
