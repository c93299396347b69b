-- Lists of which all numbers are one, or none is less than one.
use Rattle.std.proofs.Common.{◌≡◌, ℕ, ◌≤◌, Bool, true, false, cond, List, [], ◌∷◌, ◌++◌, refl, ◌∙◌, nat_eq, arith}
use Rattle.std.specs.Prelude.{⊤}
use Rattle.std.proofs.lemmas.Bool.{false≢true}
use Rattle.group_view.specs.Ring.{is_in}
use Rattle.ring_rules.proofs.rings.Rounds.{nat_eq-is}
use Rattle.ring_rules.proofs.rings.Weakens.{FallsTo, FallsTo-ends, Weakens}
use Rattle.ring_rules.proofs.rings.Falling.{falls_below, in_head}
use Rattle.ring_rules.specs.OpenLinks.{FallsFrom, NeverRises}
use Rattle.group_view.proofs.Rings.{in_second}

-- all are c
abbrev pub AllAre : ℕ → List ℕ → Type 0
AllAre c [] = ⊤
AllAre c (x ∷ xs) = (x ≡ c) × AllAre c xs

-- none is less than c
abbrev pub AllFrom : ℕ → List ℕ → Type 0
AllFrom c [] = ⊤
AllFrom c (x ∷ xs) = (c ≤ x) × AllFrom c xs

all_are_falls : (a c : ℕ) (xs : List ℕ) → a ≡ c → AllAre c xs → FallsTo a xs c
all_are_falls a c [] e h = omega (arith, e)
all_are_falls a c (x ∷ xs) e h = (omega (arith, e, h.0), all_are_falls x c xs h.0 h.1)

falls_all_are : (a c : ℕ) (xs : List ℕ) → a ≡ c → FallsTo a xs c → AllAre c xs
falls_all_are a c [] e h = tt
falls_all_are a c (x ∷ xs) e h =
    let low : c ≤ x = FallsTo-ends x xs c h.1 in
    let is : x ≡ c = omega (arith, e, h.0, low) in
    (is, falls_all_are x c xs is h.1)

-- what falls wherever such a list does is such a list
pub all_are_kept : (c : ℕ) (xs ys : List ℕ) → Weakens xs ys → AllAre c xs → AllAre c ys
all_are_kept c xs ys k h = falls_all_are c c ys refl (k c c (all_are_falls c c xs refl h))

pub all_are_at : (c a : ℕ) (xs : List ℕ) → AllAre c xs → is_in a xs ≡ true → a ≡ c
all_are_at c a [] h i = absurd (false≢true i)
all_are_at c a (x ∷ xs) h i = by_case (nat_eq a x) refl i (λ k. all_are_at c a xs h.1 k)
  where
    by_case : (b : Bool) → nat_eq a x ≡ b → cond b true (is_in a xs) ≡ true → (is_in a xs ≡ true → a ≡ c) → a ≡ c
    by_case true e k ih = nat_eq-is a x e ∙ h.0
    by_case false e k ih = ih k

all_from_falls : (a c : ℕ) (xs : List ℕ) → FallsFrom a xs → c ≤ a → AllFrom c xs → FallsTo a xs c
all_from_falls a c [] f l h = l
all_from_falls a c (x ∷ xs) f l h = (f.0, all_from_falls x c xs f.1 h.0 h.1)

falls_all_from : (a c : ℕ) (xs : List ℕ) → FallsTo a xs c → AllFrom c xs
falls_all_from a c [] h = tt
falls_all_from a c (x ∷ xs) h = (FallsTo-ends x xs c h.1, falls_all_from x c xs h.1)

-- likewise of a list that never rises
pub all_from_kept : (c : ℕ) (xs ys : List ℕ) → NeverRises xs → Weakens xs ys → AllFrom c xs → AllFrom c ys
all_from_kept c [] ys n k h = falls_all_from c c ys (k c c (omega arith))
all_from_kept c (x ∷ xs) ys n k h = falls_all_from x c ys (k x c (omega arith, all_from_falls x c xs n h.0 h.1))

pub all_from_at : (c a : ℕ) (xs : List ℕ) → AllFrom c xs → is_in a xs ≡ true → c ≤ a
all_from_at c a [] h i = absurd (false≢true i)
all_from_at c a (x ∷ xs) h i = by_case (nat_eq a x) refl i (λ k. all_from_at c a xs h.1 k)
  where
    by_case : (b : Bool) → nat_eq a x ≡ b → cond b true (is_in a xs) ≡ true → (is_in a xs ≡ true → c ≤ a) → c ≤ a
    by_case true e k ih = omega (arith, nat_eq-is a x e, h.0)
    by_case false e k ih = ih k

-- what is told of each element holds of all
pub all_from_each : (c : ℕ) (xs : List ℕ) → ((a : ℕ) → is_in a xs ≡ true → c ≤ a) → AllFrom c xs
all_from_each c [] h = tt
all_from_each c (x ∷ xs) h = (h x (in_head x xs), all_from_each c xs (λ a i. h a (in_second a (x ∷ []) xs i)))

-- between a number and itself
squeezed_from : (a c : ℕ) (xs : List ℕ) → FallsFrom a (xs ++ c ∷ []) → a ≤ c → AllAre c xs
squeezed_from a c [] f l = tt
squeezed_from a c (x ∷ xs) f l =
    let low : c ≤ x = falls_below x c (xs ++ c ∷ []) f.1 (in_second c xs (c ∷ []) (in_head c [])) in
    let is : x ≡ c = omega (arith, f.0, l, low) in
    (is, squeezed_from x c xs f.1 (omega (arith, is)))

pub squeezed : (c : ℕ) (xs : List ℕ) → NeverRises (c ∷ (xs ++ c ∷ [])) → AllAre c (c ∷ xs)
squeezed c xs f = (refl, squeezed_from c c xs f (omega arith))
