-- What each live member of a ring has where its left neighbour has it, all live ones have once one has it.
use Rattle.std.proofs.Common.{◌≡◌, ◌≢◌, ℕ, zero, suc, ◌<◌, Bool, true, false, cond, nat_eq, List, [], ◌∷◌, ◌++◌, length, refl, sym, ap, subst, ◌∙◌, ⊎_elim, arith}
use Rattle.std.specs.List.{filter}
use Rattle.std.proofs.lemmas.Bool.{false≢true, cases_eq}
use Rattle.std.proofs.lemmas.List.Elements.{filter-append}
use Rattle.group_view.specs.Ring.{is_in, AreDistinct, before, after, others, last_or, left_in}
use Rattle.group_view.proofs.Rings.{nat_eq-not, sym_test, split_at, before_in, in_before, others-rotated, is_in-rotated, rotated_is, distinct_first, distinct_others}
use Rattle.group_view.proofs.Neighbours.{IsLast, none, one, is_last, last_or-append}

-- fewer stand before an element than in the list
length_before : (z : ℕ) (xs : List ℕ) → is_in z xs ≡ true → length (before z xs) < length xs
length_before z [] h = absurd (false≢true h)
length_before z (x ∷ xs) h = by_case (nat_eq x z) refl (λ k. length_before z xs k)
  where
    by_case : (b : Bool) → nat_eq x z ≡ b → (is_in z xs ≡ true → length (before z xs) < length xs) → length (cond b [] (x ∷ before z xs)) < length (x ∷ xs)
    by_case true e ih = omega arith
    by_case false e ih = omega (arith, ih (rw (sym_test x z false e) at h))

-- seen from a live p, the left neighbour of another is the last live one before it, and p where none is
left_before : (live : ℕ → Bool) (p y : ℕ) (xs : List ℕ) → AreDistinct xs → is_in p xs ≡ true → live p ≡ true → is_in y xs ≡ true → y ≢ p → left_in live y xs ≡ last_or p (filter live (before y (others p xs)))
left_before live p y xs d ip lp iy ne =
    let t : List ℕ = others p xs in
    let apart : nat_eq p y ≡ false = nat_eq-not p y (λ e. ne (sym e)) in
    let is : others y xs ≡ after y t ++ p ∷ before y t = sym (others-rotated y p xs d iy) ∙ ap (others y) (rotated_is p xs ip) ∙ rw apart refl in
    ap (λ us. last_or y (filter live us)) is
    ∙ ap (last_or y) (filter-append live (after y t) (p ∷ before y t))
    ∙ rw lp (last_or-append y (filter live (after y t)) (p ∷ filter live (before y t)))

module _ (live : ℕ → Bool) (p : ℕ) (xs : List ℕ) (d : AreDistinct xs) (ip : is_in p xs ≡ true) (lp : live p ≡ true) (P : ℕ → Type 0) (begins : P p) (goes_on : (y : ℕ) → is_in y xs ≡ true → live y ≡ true → y ≢ p → P (left_in live y xs) → P y) where
  -- who stands among the others, and is another
  among : (y : ℕ) → is_in y xs ≡ true → y ≢ p → is_in y (others p xs) ≡ true
  among y iy ne =
      let differs : nat_eq y p ≡ false = nat_eq-not y p ne in
      sym (rw differs refl) ∙ ap (is_in y) (sym (rotated_is p xs ip)) ∙ is_in-rotated y p xs ∙ iy

  -- one step to the left, with what is known of all that stand nearer
  step : (n y : ℕ) → length (before y (others p xs)) < suc n → is_in y xs ≡ true → live y ≡ true → y ≢ p → ((x : ℕ) → length (before x (others p xs)) < n → is_in x xs ≡ true → live x ≡ true → P x) → P y
  step n y few iy ly ne ih =
      let it : is_in y t ≡ true = among y iy ne in
      let split : t ≡ before y t ++ y ∷ after y t = split_at y t it in
      let dt : AreDistinct (before y t) = distinct_first (before y t) (y ∷ after y t) (subst AreDistinct split (distinct_others p xs d ip)) in
      goes_on y iy ly ne (by_last split (is_last live p x (before y t) dt (sym (left_before live p y xs d ip lp iy ne))))
    where
      t : List ℕ
      t = others p xs

      x : ℕ
      x = left_in live y xs

      later : (b : Bool) → is_in x t ≡ true → cond b true (is_in x t) ≡ true
      later true k = refl
      later false k = k

      by_last : t ≡ before y t ++ y ∷ after y t → IsLast live p x (before y t) → P x
      by_last split (none n2 is) = subst P (sym is) begins
      by_last split (one i lx n2) =
          let ix : is_in x t ≡ true = in_before x y t i in
          let inside : is_in x xs ≡ true = sym (is_in-rotated x p xs) ∙ ap (is_in x) (rotated_is p xs ip) ∙ later (nat_eq x p) ix in
          let fewer : length (before x (before y t)) < length (before y t) = length_before x (before y t) i in
          let part : before x t ≡ before x (before y t) = ap (before x) split ∙ before_in x (before y t) (y ∷ after y t) i in
          ih x (omega (arith, ap length part)) inside lx

  -- by how many stand before it
  go : (n y : ℕ) → length (before y (others p xs)) < n → is_in y xs ≡ true → live y ≡ true → P y
  go zero y few iy ly = absurd (omega arith)
  go (suc n) y few iy ly = ⊎_elim (λ (e : y ≡ p). subst P (sym e) begins) (λ (ne : y ≢ p). step n y few iy ly ne (λ x l ix lx. go n x l ix lx)) (cases_eq y p)

  -- so each live one has it
  pub round : (y : ℕ) → is_in y xs ≡ true → live y ≡ true → P y
  round y iy ly = go (suc (length (before y (others p xs)))) y (omega arith) iy ly

-- so what is the same at each live one and its left neighbour, but at p, is the same at all
pub round_same : (live : ℕ → Bool) (p : ℕ) (xs : List ℕ) (f : ℕ → ℕ) → AreDistinct xs → is_in p xs ≡ true → live p ≡ true → ((y : ℕ) → is_in y xs ≡ true → live y ≡ true → y ≢ p → f y ≡ f (left_in live y xs)) → (y : ℕ) → is_in y xs ≡ true → live y ≡ true → f y ≡ f p
round_same live p xs f d ip lp same y iy ly = round live p xs d ip lp (λ k. f k ≡ f p) refl (λ k ik lk ne e. same k ik lk ne ∙ e) y iy ly
