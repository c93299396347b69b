-- Nothing live stands between a member and its left neighbour.
use Rattle.std.proofs.Common.{◌≡◌, ℕ, Bool, true, false, cond, List, [], ◌∷◌, refl, sym, ap, ◌∙◌, nat_eq}
use Rattle.std.specs.List.{filter}
use Rattle.std.proofs.lemmas.Bool.{false≢true}
use Rattle.group_view.specs.Ring.{before, is_in}
use Rattle.ring_rules.proofs.walks.CountedWalk.{stopped_prefix}
use Rattle.group_view.proofs.Rings.{sym_test, nat_eq-is}

-- where none up to y runs, these are the stopped ones, and y is the first that runs
pub prefix_before : (r : ℕ → Bool) (y : ℕ) (xs : List ℕ) → filter r (before y xs) ≡ [] → is_in y xs ≡ true → r y ≡ true → stopped_prefix r xs ≡ before y xs
prefix_before r y [] h i ry = refl
prefix_before r y (x ∷ xs) h i ry = by_case (nat_eq x y) refl (r x) refl h i (λ a b. prefix_before r y xs a b ry)
  where
    by_case : (a : Bool) → nat_eq x y ≡ a → (b : Bool) → r x ≡ b → filter r (cond a [] (x ∷ before y xs)) ≡ [] → is_in y (x ∷ xs) ≡ true → (filter r (before y xs) ≡ [] → is_in y xs ≡ true → stopped_prefix r xs ≡ before y xs) → cond b [] (x ∷ stopped_prefix r xs) ≡ cond a [] (x ∷ before y xs)
    by_case true ea true eb k j ih = refl
    by_case true ea false eb k j ih = absurd (false≢true (sym eb ∙ ap r (nat_eq-is x y ea) ∙ ry))
    by_case false ea true eb k j ih = let bad : x ∷ filter r (before y xs) ≡ [] = rw eb at k in cc
    by_case false ea false eb k j ih = ap (λ us. x ∷ us) (ih (rw eb at k) (rw (sym_test x y false ea) at j))
