-- Where a test finds an element of a list.
use Rattle.std.proofs.Common.{◌≡◌, ℕ, zero, suc, ◌+◌, ◌<◌, ◌≤◌, Bool, true, false, cond, nat_lt, not, List, [], ◌∷◌, ◌++◌, length, get_or, Option, Some, None, IsSome, refl, sym, ap, subst, ◌∙◌, ⊎_elim, arith}
use Rattle.std.specs.List.{position, prefix_len}
use Rattle.std.proofs.lemmas.Bool.{false≢true, cases_lt}
use Rattle.std.proofs.lemmas.Bool.Decides.{nat_tests}
use Rattle.std.proofs.lemmas.List.{length_push, get_or_append_left, get_or_push}
use Rattle.std.proofs.lemmas.List.Quantifiers.{position-Some}

prefix_at_most : {X : Type 0} (p : X → Bool) (xs : List X) (k : ℕ) (d : X) → k < length xs → p (get_or xs k d) ≡ false → prefix_len p xs ≤ k
prefix_at_most p [] k d l e = absurd (omega arith)
prefix_at_most p (x ∷ xs) zero d l e = rw e (omega arith)
prefix_at_most p (x ∷ xs) (suc k) d l e =
    (elim (p x) as (λ b. cond b (1 + prefix_len p xs) 0 ≤ suc k) [ true ↦ omega (arith, prefix_at_most p xs k d (omega arith) e) | false ↦ omega arith ])

some_below : (a n : ℕ) (b : Bool) → nat_lt a n ≡ b → a < n → IsSome (cond b (Some a) None)
some_below a n true e l = refl
some_below a n false e l = absurd (grind (arith, nat_tests))

-- where an element passes, one is found
pub position_there : {X : Type 0} (p : X → Bool) (xs : List X) (k : ℕ) (d : X) → k < length xs → p (get_or xs k d) ≡ true → IsSome (position p xs)
position_there p xs k d l e =
    let most : prefix_len (λ x. not (p x)) xs ≤ k = prefix_at_most (λ x. not (p x)) xs k d l (ap not e) in
    some_below (prefix_len (λ x. not (p x)) xs) (length xs) _ refl (omega arith)

-- where none is found, none passes
pub passes_nowhere : {X : Type 0} (p : X → Bool) (xs : List X) (k : ℕ) (d : X) → position p xs ≡ None → k < length xs → p (get_or xs k d) ≡ false
passes_nowhere p xs k d none l = by_test (p (get_or xs k d)) refl
  where
    by_test : (b : Bool) → p (get_or xs k d) ≡ b → p (get_or xs k d) ≡ false
    by_test false e = e
    by_test true e = absurd (false≢true (subst IsSome none (position_there p xs k d l e)))

-- the first that passes is found
pub position_is : {X : Type 0} (p : X → Bool) (xs : List X) (i : ℕ) (d : X) → i < length xs → p (get_or xs i d) ≡ true → ((k : ℕ) → k < i → p (get_or xs k d) ≡ false) → position p xs ≡ Some i
position_is p xs i d l e none = by_found (position p xs) refl
  where
    by_found : (o : Option ℕ) → position p xs ≡ o → position p xs ≡ Some i
    by_found None f = absurd (false≢true (sym (passes_nowhere p xs i d f l) ∙ e))
    by_found (Some j) f =
        let at = position-Some p xs j d f in
        f ∙ ap Some (⊎_elim
        (λ (before : j < i). absurd (false≢true (sym (none j before) ∙ at.1)))
        (λ (behind : i ≤ j). ⊎_elim (λ (after : i < j). absurd (false≢true (sym (at.2 i after) ∙ e))) (λ (le : j ≤ i). omega (arith, behind, le)) (cases_lt i j))
        (cases_lt j i))

-- where none passes, none is found
pub position_none : {X : Type 0} (p : X → Bool) (xs : List X) (d : X) → ((k : ℕ) → k < length xs → p (get_or xs k d) ≡ false) → position p xs ≡ None
position_none p xs d none = by_found (position p xs) refl
  where
    by_found : (o : Option ℕ) → position p xs ≡ o → position p xs ≡ None
    by_found None f = f
    by_found (Some j) f = let at = position-Some p xs j d f in absurd (false≢true (sym (none j at.0) ∙ at.1))

-- one more element behind a list: the first that passes stays so
pub position_before : {X : Type 0} (p : X → Bool) (xs : List X) (y : X) (i : ℕ) → position p xs ≡ Some i → position p (xs ++ y ∷ []) ≡ Some i
position_before p xs y i e =
    let at = position-Some p xs i y e in
    position_is p (xs ++ y ∷ []) i y (omega (arith, at.0, length_push xs y))
    (ap p (get_or_append_left xs (y ∷ []) y i at.0) ∙ at.1)
    (λ k lt. ap p (get_or_append_left xs (y ∷ []) y k (omega (arith, lt, at.0))) ∙ at.2 k lt)

-- where there was none it is the new one, if that passes
pub position_behind : {X : Type 0} (p : X → Bool) (xs : List X) (y : X) → position p xs ≡ None → p y ≡ true → position p (xs ++ y ∷ []) ≡ Some (length xs)
position_behind p xs y none e =
    position_is p (xs ++ y ∷ []) (length xs) y (omega (arith, length_push xs y))
    (ap p (get_or_push xs y y (length xs) refl) ∙ e)
    (λ k lt. ap p (get_or_append_left xs (y ∷ []) y k lt) ∙ passes_nowhere p xs k y none lt)

-- and else there is none
pub position_still : {X : Type 0} (p : X → Bool) (xs : List X) (y : X) → position p xs ≡ None → p y ≡ false → position p (xs ++ y ∷ []) ≡ None
position_still p xs y none e = position_none p (xs ++ y ∷ []) y (λ k l.
    ⊎_elim
    (λ (lt : k < length xs). ap p (get_or_append_left xs (y ∷ []) y k lt) ∙ passes_nowhere p xs k y none lt)
    (λ (ge : length xs ≤ k). ap p (get_or_push xs y y k (omega (arith, ge, l, length_push xs y))) ∙ e)
    (cases_lt k (length xs)))
