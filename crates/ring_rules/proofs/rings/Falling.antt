-- What stands earlier in a list that never rises isn't less than what stands later.
use Rattle.std.proofs.Common.{◌≡◌, ℕ, ◌≤◌, Bool, true, false, cond, nat_eq, List, [], ◌∷◌, ◌++◌, refl, sym, subst, arith}
use Rattle.std.specs.List.{flat_map}
use Rattle.std.proofs.lemmas.Bool.{false≢true}
use Rattle.group_view.specs.Ring.{is_in}
use Rattle.group_view.proofs.Rings.{nat_eq-is, in_first, in_second, in_tail}
pub use Rattle.group_view.proofs.Rings.{in_head}
use Rattle.ring_rules.specs.OpenLinks.{FallsFrom, NeverRises}
use Rattle.ring_rules.proofs.walks.CountedWalk.{block, round}

-- ---- parts of a list that never rises

-- a list that falls from somewhere never rises
pub falls_rest : (a : ℕ) (xs : List ℕ) → FallsFrom a xs → NeverRises xs
falls_rest a [] h = tt
falls_rest a (x ∷ xs) h = h.1

-- nor does its second part
pub rises_second : (xs ys : List ℕ) → NeverRises (xs ++ ys) → NeverRises ys
rises_second [] ys h = h
rises_second (x ∷ xs) ys h = rises_second xs ys (falls_rest x (xs ++ ys) h)

-- its first part falls from there too
pub falls_first : (a : ℕ) (xs ys : List ℕ) → FallsFrom a (xs ++ ys) → FallsFrom a xs
falls_first a [] ys h = tt
falls_first a (x ∷ xs) ys h = (h.0, falls_first x xs ys h.1)

-- and never rises
pub rises_first : (xs ys : List ℕ) → NeverRises (xs ++ ys) → NeverRises xs
rises_first [] ys h = tt
rises_first (x ∷ xs) ys h = falls_first x xs ys h

-- none of its numbers is greater than where it falls from
pub falls_below : (a z : ℕ) (xs : List ℕ) → FallsFrom a xs → is_in z xs ≡ true → z ≤ a
falls_below a z [] h i = absurd (false≢true i)
falls_below a z (x ∷ xs) h i = by_case (nat_eq z x) refl i (falls_below x z xs h.1)
  where
    by_case : (b : Bool) → nat_eq z x ≡ b → cond b true (is_in z xs) ≡ true → (is_in z xs ≡ true → z ≤ x) → z ≤ a
    by_case true e k ih = omega (arith, nat_eq-is z x e, h.0)
    by_case false e k ih = omega (arith, ih k, h.0)

-- a number of the first part isn't less than one of the second
pub falls_across : (u z : ℕ) (xs ys : List ℕ) → NeverRises (xs ++ ys) → is_in u xs ≡ true → is_in z ys ≡ true → z ≤ u
falls_across u z [] ys h i j = absurd (false≢true i)
falls_across u z (x ∷ xs) ys h i j = by_case (nat_eq u x) refl i (λ k. falls_across u z xs ys (falls_rest x (xs ++ ys) h) k j)
  where
    by_case : (b : Bool) → nat_eq u x ≡ b → cond b true (is_in u xs) ≡ true → (is_in u xs ≡ true → z ≤ u) → z ≤ u
    by_case true e k ih = omega (arith, nat_eq-is u x e, falls_below x z (xs ++ ys) h (in_second z xs ys j))
    by_case false e k ih = ih k

-- ---- rounds

-- what stands in the block of a member stands among the blocks
pub in_blocks : (m : ℕ → List ℕ) (f : ℕ → ℕ) (y z : ℕ) (ys : List ℕ) → is_in y ys ≡ true → is_in z (block m f y) ≡ true → is_in z (flat_map (block m f) ys) ≡ true
in_blocks m f y z [] i k = absurd (false≢true i)
in_blocks m f y z (q ∷ ys) i k = by_case (nat_eq y q) refl i (λ j. in_blocks m f y z ys j k)
  where
    by_case : (b : Bool) → nat_eq y q ≡ b → cond b true (is_in y ys) ≡ true → (is_in y ys ≡ true → is_in z (flat_map (block m f) ys) ≡ true) → is_in z (block m f q ++ flat_map (block m f) ys) ≡ true
    by_case true e j ih = in_first z (block m f q) (flat_map (block m f) ys) (subst (λ a. is_in z (block m f a) ≡ true) (nat_eq-is y q e) k)
    by_case false e j ih = in_second z (block m f q) (flat_map (block m f) ys) (ih j)

-- in the block of a member, what is counted isn't less than its own number
pub blocks_fall : (m : ℕ → List ℕ) (f : ℕ → ℕ) (y u : ℕ) (ys : List ℕ) → NeverRises (flat_map (block m f) ys) → is_in y ys ≡ true → is_in u (m y) ≡ true → f y ≤ u
blocks_fall m f y u [] h i k = absurd (false≢true i)
blocks_fall m f y u (q ∷ ys) h i k = by_case (nat_eq y q) refl i (λ j. blocks_fall m f y u ys (rises_second (block m f q) (flat_map (block m f) ys) h) j k)
  where
    by_case : (b : Bool) → nat_eq y q ≡ b → cond b true (is_in y ys) ≡ true → (is_in y ys ≡ true → f y ≤ u) → f y ≤ u
    by_case true e j ih =
        falls_across u (f y) (m y) (f y ∷ [])
        (subst (λ a. NeverRises (block m f a)) (sym (nat_eq-is y q e)) (rises_first (block m f q) (flat_map (block m f) ys) h)) k (in_head (f y) [])
    by_case false e j ih = ih j

-- a round has the own number of the owner, and of each other member
pub owner_in_round : (e m l : ℕ → List ℕ) (f : ℕ → ℕ) (y : ℕ) (ys : List ℕ) → is_in (f y) (round e f m l (y ∷ ys)) ≡ true
owner_in_round e m l f y ys = in_second (f y) (e y) (f y ∷ (flat_map (block m f) ys ++ l y)) (in_head (f y) (flat_map (block m f) ys ++ l y))

-- of each other member
pub other_in_round : (e m l : ℕ → List ℕ) (f : ℕ → ℕ) (y q : ℕ) (ys : List ℕ) → is_in q ys ≡ true → is_in (f q) (round e f m l (y ∷ ys)) ≡ true
other_in_round e m l f y q ys i =
    in_second (f q) (e y) (f y ∷ (flat_map (block m f) ys ++ l y))
    (in_tail (f q) (f y) (flat_map (block m f) ys ++ l y)
    (in_first (f q) (flat_map (block m f) ys) (l y)
    (in_blocks m f q (f q) ys i (in_second (f q) (m q) (f q ∷ []) (in_head (f q) [])))))

-- of any of them
pub each_in_round : (e m l : ℕ → List ℕ) (f : ℕ → ℕ) (q : ℕ) (ys : List ℕ) → is_in q ys ≡ true → is_in (f q) (round e f m l ys) ≡ true
each_in_round e m l f q [] i = absurd (false≢true i)
each_in_round e m l f q (y ∷ ys) i = by_case (nat_eq q y) refl i
  where
    by_case : (b : Bool) → nat_eq q y ≡ b → cond b true (is_in q ys) ≡ true → is_in (f q) (round e f m l (y ∷ ys)) ≡ true
    by_case true t k = subst (λ a. is_in (f a) (round e f m l (y ∷ ys)) ≡ true) (sym (nat_eq-is q y t)) (owner_in_round e m l f y ys)
    by_case false t k = other_in_round e m l f y q ys k

-- and the late packets of the owner
pub late_in_round : (e m l : ℕ → List ℕ) (f : ℕ → ℕ) (y z : ℕ) (ys : List ℕ) → is_in z (l y) ≡ true → is_in z (round e f m l (y ∷ ys)) ≡ true
late_in_round e m l f y z ys i =
    in_second z (e y) (f y ∷ (flat_map (block m f) ys ++ l y))
    (in_tail z (f y) (flat_map (block m f) ys ++ l y) (in_second z (flat_map (block m f) ys) (l y) i))

-- in a round, what is counted of another member than the owner isn't less than its own number
pub round_falls : (e m l : ℕ → List ℕ) (f : ℕ → ℕ) (q y u : ℕ) (ys : List ℕ) → NeverRises (round e f m l (q ∷ ys)) → is_in y ys ≡ true → is_in u (m y) ≡ true → f y ≤ u
round_falls e m l f q y u ys h i k =
    blocks_fall m f y u ys
    (rises_first (flat_map (block m f) ys) (l q) (falls_rest (f q) (flat_map (block m f) ys ++ l q) (rises_second (e q) (f q ∷ (flat_map (block m f) ys ++ l q)) h))) i k

-- and what is early of the owner isn't either
pub early_falls : (e m l : ℕ → List ℕ) (f : ℕ → ℕ) (y u : ℕ) (ys : List ℕ) → NeverRises (round e f m l (y ∷ ys)) → is_in u (e y) ≡ true → f y ≤ u
early_falls e m l f y u ys h k = falls_across u (f y) (e y) (f y ∷ (flat_map (block m f) ys ++ l y)) h k (in_head (f y) (flat_map (block m f) ys ++ l y))
