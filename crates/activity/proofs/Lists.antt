-- One step of a loop over a list.
use Rattle.std.proofs.Common.{Some, slice_get, ◌≡◌, ℕ, ◌+◌, ◌-◌, ◌<◌, ◌≤◌, Bool, true, false, cond, nat_le, append_assoc, append-nil, length-append, List, [], ◌∷◌, ◌++◌, length, get_or, take, drop, suc, refl, sym, ap, ◌∙◌, add-one, arith}
use Rattle.std.proofs.Math.Seq.{drop-cons, drop-nil}
use Rattle.std.proofs.lemmas.List.{take_more}
use Rattle.std.proofs.lemmas.Bool.{leb-true}
use Rattle.std.proofs.lemmas.Option.{slice_get-get_or}
use Rattle.std.proofs.lemmas.Bool.Decides.{nat_tests}

module _ {A : Type 0} (xs : List A) (i : ℕ) (x : A) (within : i < length xs) (at : x ≡ get_or xs i x) where
  -- the item, and those behind it
  pub drop_next : drop i xs ≡ x ∷ drop (i + 1) xs
  drop_next = drop-cons xs i x within ∙ ap (λ y. y ∷ drop (suc i) xs) (sym at) ∙ ap (λ n. x ∷ drop n xs) (sym (add-one i))

  -- those before it, and the item
  pub take_next : take (i + 1) xs ≡ take i xs ++ x ∷ []
  take_next = take_more xs i x within ∙ ap (λ y. take i xs ++ y ∷ []) (sym at)

-- ---- a loop that passes over the first n items

module _ {A : Type 0} (n place : ℕ) (kept new : List A) (x : A) (rest : List A) (joins : new ≡ kept ++ cond (nat_le n place) (x ∷ []) []) where
  -- the items that are kept, and those that will be
  pub pass_kept : (t : List A) → kept ++ drop (n - place) (x ∷ rest) ≡ t → new ++ drop (n - (place + 1)) rest ≡ t
  pass_kept t h = by (nat_le n place) refl joins
    where
      by : (b : Bool) → nat_le n place ≡ b → new ≡ kept ++ cond b (x ∷ []) [] → new ++ drop (n - (place + 1)) rest ≡ t
      by true at e =
          let le : n ≤ place = leb-true n place at in
          let now : n - place ≡ 0 = omega arith in
          let later : n - (place + 1) ≡ 0 = omega arith in
          ap (λ k. new ++ drop k rest) later ∙ ap (λ xs. xs ++ rest) e ∙ append_assoc kept (x ∷ []) rest ∙ sym (ap (λ k. kept ++ drop k (x ∷ rest)) now) ∙ h
      by false at e =
          let lt : place < n = grind (arith, nat_tests) in
          let now : n - place ≡ suc (n - (place + 1)) = omega arith in
          ap (λ xs. xs ++ drop (n - (place + 1)) rest) (e ∙ append-nil kept) ∙ sym (ap (λ k. kept ++ drop k (x ∷ rest)) now) ∙ h

  -- there is room for those to come
  pub pass_room : (spare spare' : ℕ) → length (x ∷ rest) - (n - place) ≤ spare → spare ≤ spare' + cond (nat_le n place) 1 0 → length rest - (n - (place + 1)) ≤ spare'
  pass_room spare spare' h g = by (nat_le n place) refl g
    where
      by : (b : Bool) → nat_le n place ≡ b → spare ≤ spare' + cond b 1 0 → length rest - (n - (place + 1)) ≤ spare'
      by true at e = let le : n ≤ place = leb-true n place at in omega arith
      by false at e = let lt : place < n = grind (arith, nat_tests) in omega arith

  -- and their number stays
  pub pass_few : (m : ℕ) → length kept + (length (x ∷ rest) - (n - place)) ≤ m → length new + (length rest - (n - (place + 1))) ≤ m
  pass_few m h = by (nat_le n place) refl joins
    where
      by : (b : Bool) → nat_le n place ≡ b → new ≡ kept ++ cond b (x ∷ []) [] → length new + (length rest - (n - (place + 1))) ≤ m
      by true at e = let le : n ≤ place = leb-true n place at in let l : length new ≡ length kept + 1 = ap length e ∙ length-append kept (x ∷ []) in omega arith
      by false at e = let lt : place < n = grind (arith, nat_tests) in let l : length new ≡ length kept = ap length (e ∙ append-nil kept) in omega arith

-- nothing is left
pub drop_empty : {A : Type 0} (xs : List A) (n : ℕ) → xs ++ drop n [] ≡ xs
drop_empty xs n = ap (λ ys. xs ++ ys) (drop-nil n) ∙ append-nil xs

-- the item at a place, and those up to it
pub item_at : {A : Type 0} (xs : List A) (i : ℕ) → i < length xs → (x : A) × (slice_get xs i ≡ Some x) × (take (i + 1) xs ≡ take i xs ++ x ∷ [])
item_at [] i h = absurd (omega arith)
item_at (x ∷ xs) i h = (get_or (x ∷ xs) i x, slice_get-get_or (x ∷ xs) i x h, take_more (x ∷ xs) i x h)
