-- The items of a queue are found one after another.
use Rattle.std.proofs.Common.{◌≡◌, ℕ, zero, suc, ◌+◌, ◌<◌, ◌≤◌, true, false, cond, List, [], ◌∷◌, ◌++◌, length, map, take, get_or, Some, refl, sym, ap, subst, ◌∙◌, ⊎_elim, arith}
use Rattle.std.specs.Prelude.{nat_le, nat_lt, slice_get}
use Rattle.std.proofs.lemmas.Bool.{cases_lt, le-leb, lt-leb, ltb-true, and_parts}
use Rattle.std.proofs.lemmas.List.{take_more, map-append}
use Rattle.std.proofs.lemmas.Option.{same_Some, slice_get-get_or}
use Rattle.queue_core.specs.Queue.{Item, is_above, rises}
use Rattle.queue_core.specs.Shown.{first_from}
use Rattle.queue_core.proofs.Places.{places_rise}

-- The items before a place stand below a position, and those from there on at it or above.
pub record Parts (a : ℕ) (xs : List Item) (n : ℕ) : Type 0 where
  pub below : (k : ℕ) (d : Item) → k < n → (get_or xs k d).at < a
  pub above : (k : ℕ) (d : Item) → n ≤ k → k < length xs → a ≤ (get_or xs k d).at

pub parts_none : (xs : List Item) → Parts 0 xs 0
parts_none xs = record { below = λ k d l. absurd (omega (arith, l)); above = λ k d _ l. omega arith }

le_is : (m n : ℕ) → m ≤ n → nat_le m n ≡ true
le_is m n l = le-leb m n l

lt_is : (m n : ℕ) → m < n → nat_le n m ≡ false
lt_is m n l = lt-leb n m l

-- the first item from that position on stands there
pub first_part : (a : ℕ) (xs : List Item) (n : ℕ) → n ≤ length xs → Parts a xs n → first_from a xs ≡ slice_get xs n
first_part a [] zero l p = refl
first_part a [] (suc n) l p = absurd (omega (arith, l))
first_part a (x ∷ xs) zero l p = ap (λ b. cond b (Some x) (first_from a xs)) (le_is a x.at (p.above 0 x (omega arith) (omega arith)))
first_part a (x ∷ xs) (suc n) l p =
    ap (λ b. cond b (Some x) (first_from a xs)) (lt_is x.at a (p.below 0 x (omega arith)))
    ∙ first_part a xs n (omega (arith, l)) (record {
      below = λ k d m. p.below (suc k) d (omega (arith, m));
      above = λ k d m w. p.above (suc k) d (omega (arith, m)) (omega (arith, w));
    })

-- and the next one behind it
pub parts_next : (a : ℕ) (xs : List Item) (n : ℕ) (i : Item) (b : ℕ) → rises xs ≡ true → n < length xs → i ≡ get_or xs n i → i.at < b → b ≤ i.at + 1 → Parts a xs n → Parts b xs (n + 1)
parts_next a xs n i b r l is low high p = record {
  below = λ k d m. ⊎_elim
      (λ (e : k < n). (let up : (get_or xs k d).at < (get_or xs n d).at = places_rise xs r k n d e l in
      let same : (get_or xs n d).at ≡ i.at = here d in omega (arith, up, same, low)))
      (λ (e : n ≤ k). (let at : n ≡ k = omega (arith, e, m) in
      let same : (get_or xs k d).at ≡ i.at = subst (λ j. (get_or xs j d).at ≡ i.at) at (here d) in omega (arith, same, low)))
      (cases_lt k n);
  above = λ k d m w. (let up : (get_or xs n d).at < (get_or xs k d).at = places_rise xs r n k d (omega (arith, m)) w in
      let same : (get_or xs n d).at ≡ i.at = here d in omega (arith, up, same, high));
}
  where
    here : (d : Item) → (get_or xs n d).at ≡ i.at
    here d = ap (λ (o : Item). o.at) (same_Some (get_or xs n d) i (sym (slice_get-get_or xs n d l) ∙ slice_get-get_or xs n i l ∙ ap Some (sym is)))

pub all_below : (a : ℕ) (xs : List Item) → is_above a xs ≡ true → (k : ℕ) (d : Item) → k < length xs → (get_or xs k d).at < a
all_below a [] h k d l = absurd (omega (arith, l))
all_below a (x ∷ xs) h zero d l = ltb-true x.at a (and_parts (nat_lt x.at a) (is_above a xs) h).0
all_below a (x ∷ xs) h (suc k) d l = all_below a xs (and_parts (nat_lt x.at a) (is_above a xs) h).1 k d (omega (arith, l))

-- one more is copied
pub copied_next : {X : Type 0} (f : X → Item) (all : List X) (x : X) (xs : List Item) (n : ℕ) (i : Item) → n < length xs → i ≡ get_or xs n i → f x ≡ i → map f all ≡ take n xs → map f (all ++ x ∷ []) ≡ take (n + 1) xs
copied_next f all x xs n i l is same e =
    map-append f all (x ∷ [])
    ∙ ap (λ ys. ys ++ f x ∷ []) e
    ∙ ap (λ j. take n xs ++ j ∷ []) (same ∙ is)
    ∙ sym (take_more xs n i l)
