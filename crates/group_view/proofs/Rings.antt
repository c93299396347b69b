-- Rings as lists: who is in them, what stands before and after, and where they are cut.
use Rattle.std.proofs.Common.{◌≡◌, ◌≢◌, ℕ, Bool, true, false, cond, List, [], ◌∷◌, ◌++◌, refl, sym, ap, subst, ◌∙◌, append_assoc, arith, nat_eq}
use Rattle.std.proofs.lemmas.Bool.Decides.{nat_tests}
use Rattle.std.proofs.lemmas.Bool.{false≢true, eq-eqb}
pub use Rattle.std.proofs.lemmas.Bool.{eqb-true as nat_eq-is, ne_eqb as nat_eq-not}
use Rattle.group_view.specs.Ring.{is_in, AreDistinct, before, from, after, rotated, others}
use Rattle.group_view.proofs.Truth.{later_true, first_false, later_false}

-- ---- tests of ids

pub nat_eq-same : (a : ℕ) → nat_eq a a ≡ true
nat_eq-same a = eq-eqb a a refl

pub sym_test : (a b : ℕ) (t : Bool) → nat_eq a b ≡ t → nat_eq b a ≡ t
sym_test a b true e = subst (λ c. nat_eq c a ≡ true) (nat_eq-is a b e) (nat_eq-same a)
sym_test a b false e = grind (arith, nat_tests)

-- ---- who is in a list

pub is_in-append : (z : ℕ) (xs ys : List ℕ) → is_in z (xs ++ ys) ≡ cond (is_in z xs) true (is_in z ys)
is_in-append z [] ys = refl
is_in-append z (x ∷ xs) ys = by_case (nat_eq z x) (is_in-append z xs ys)
  where
    by_case : (b : Bool) → is_in z (xs ++ ys) ≡ cond (is_in z xs) true (is_in z ys) → cond b true (is_in z (xs ++ ys)) ≡ cond (cond b true (is_in z xs)) true (is_in z ys)
    by_case true h = refl
    by_case false h = h

pub not_in_first : (z : ℕ) (xs ys : List ℕ) → is_in z (xs ++ ys) ≡ false → is_in z xs ≡ false
not_in_first z xs ys h = first_false (is_in z xs) (is_in z ys) (sym (is_in-append z xs ys) ∙ h)

pub not_in_second : (z : ℕ) (xs ys : List ℕ) → is_in z (xs ++ ys) ≡ false → is_in z ys ≡ false
not_in_second z xs ys h = later_false (is_in z xs) (is_in z ys) (sym (is_in-append z xs ys) ∙ h)

pub not_in_append : (z : ℕ) (xs ys : List ℕ) → is_in z xs ≡ false → is_in z ys ≡ false → is_in z (xs ++ ys) ≡ false
not_in_append z xs ys hx hy = is_in-append z xs ys ∙ rw (hx, hy) refl

-- what stands in a list stands in it with more behind it
pub in_first : (z : ℕ) (xs ys : List ℕ) → is_in z xs ≡ true → is_in z (xs ++ ys) ≡ true
in_first z xs ys h = is_in-append z xs ys ∙ ap (λ b. cond b true (is_in z ys)) h

-- and with more before it
pub in_second : (z : ℕ) (xs ys : List ℕ) → is_in z ys ≡ true → is_in z (xs ++ ys) ≡ true
in_second z xs ys h = is_in-append z xs ys ∙ later_true (is_in z xs) h

-- the first of a list stands in it
pub in_head : (z : ℕ) (xs : List ℕ) → is_in z (z ∷ xs) ≡ true
in_head z xs = ap (λ b. cond b true (is_in z xs)) (nat_eq-same z)

-- and what stands behind it
pub in_tail : (z x : ℕ) (xs : List ℕ) → is_in z xs ≡ true → is_in z (x ∷ xs) ≡ true
in_tail z x xs h = later_true (nat_eq z x) h

-- what doesn't stand in a list isn't its first
pub head_differs : (z x : ℕ) (xs : List ℕ) → is_in z (x ∷ xs) ≡ false → x ≢ z
head_differs z x xs h same = false≢true (sym h ∙ ap (λ q. is_in z (q ∷ xs)) same ∙ in_head z xs)

-- and doesn't stand behind it
pub tail_lacks : (z x : ℕ) (xs : List ℕ) → is_in z (x ∷ xs) ≡ false → is_in z xs ≡ false
tail_lacks z x xs h = later_false (nat_eq z x) (is_in z xs) h

pub distinct_second : (xs ys : List ℕ) → AreDistinct (xs ++ ys) → AreDistinct ys
distinct_second [] ys h = h
distinct_second (x ∷ xs) ys h = distinct_second xs ys h.1

-- an element of one part isn't in the other
pub distinct_parts : (z : ℕ) (xs ys : List ℕ) → AreDistinct (xs ++ ys) → is_in z xs ≡ true → is_in z ys ≡ false
distinct_parts z [] ys d h = absurd (false≢true h)
distinct_parts z (x ∷ xs) ys d h = by_case (nat_eq z x) refl h (λ k. distinct_parts z xs ys d.1 k)
  where
    by_case : (b : Bool) → nat_eq z x ≡ b → cond b true (is_in z xs) ≡ true → (is_in z xs ≡ true → is_in z ys ≡ false) → is_in z ys ≡ false
    by_case true e k ih = subst (λ q. is_in q ys ≡ false) (sym (nat_eq-is z x e)) (not_in_second x xs ys d.0)
    by_case false e k ih = ih k

-- an element of a list isn't one that stands nowhere in it
pub not_equal_in : (a b : ℕ) (xs : List ℕ) → is_in a xs ≡ true → is_in b xs ≡ false → nat_eq a b ≡ false
not_equal_in a b xs ha hb = by_test (nat_eq a b) refl
  where
    by_test : (t : Bool) → nat_eq a b ≡ t → t ≡ false
    by_test true e = absurd (false≢true (sym hb ∙ ap (λ q. is_in q xs) (sym (nat_eq-is a b e)) ∙ ha))
    by_test false e = refl

-- ---- before and after

pub before_in : (z : ℕ) (xs ys : List ℕ) → is_in z xs ≡ true → before z (xs ++ ys) ≡ before z xs
before_in z [] ys h = absurd (false≢true h)
before_in z (x ∷ xs) ys h = by_case (nat_eq x z) refl (λ k. before_in z xs ys k)
  where
    by_case : (b : Bool) → nat_eq x z ≡ b → (is_in z xs ≡ true → before z (xs ++ ys) ≡ before z xs) → cond b [] (x ∷ before z (xs ++ ys)) ≡ cond b [] (x ∷ before z xs)
    by_case true e ih = refl
    by_case false e ih = ap (λ qs. x ∷ qs) (ih (rw (sym_test x z false e) at h))

pub before_out : (z : ℕ) (xs ys : List ℕ) → is_in z xs ≡ false → before z (xs ++ ys) ≡ xs ++ before z ys
before_out z [] ys h = refl
before_out z (x ∷ xs) ys h = by_case (nat_eq x z) refl (λ k. before_out z xs ys k)
  where
    by_case : (b : Bool) → nat_eq x z ≡ b → (is_in z xs ≡ false → before z (xs ++ ys) ≡ xs ++ before z ys) → cond b [] (x ∷ before z (xs ++ ys)) ≡ x ∷ (xs ++ before z ys)
    by_case true e ih = absurd (false≢true (sym (rw (sym_test x z true e) at h)))
    by_case false e ih = ap (λ qs. x ∷ qs) (ih (rw (sym_test x z false e) at h))

pub after_in : (z : ℕ) (xs ys : List ℕ) → is_in z xs ≡ true → after z (xs ++ ys) ≡ after z xs ++ ys
after_in z [] ys h = absurd (false≢true h)
after_in z (x ∷ xs) ys h = by_case (nat_eq x z) refl (λ k. after_in z xs ys k)
  where
    by_case : (b : Bool) → nat_eq x z ≡ b → (is_in z xs ≡ true → after z (xs ++ ys) ≡ after z xs ++ ys) → cond b (xs ++ ys) (after z (xs ++ ys)) ≡ cond b xs (after z xs) ++ ys
    by_case true e ih = refl
    by_case false e ih = ih (rw (sym_test x z false e) at h)

pub after_out : (z : ℕ) (xs ys : List ℕ) → is_in z xs ≡ false → after z (xs ++ ys) ≡ after z ys
after_out z [] ys h = refl
after_out z (x ∷ xs) ys h = by_case (nat_eq x z) refl (λ k. after_out z xs ys k)
  where
    by_case : (b : Bool) → nat_eq x z ≡ b → (is_in z xs ≡ false → after z (xs ++ ys) ≡ after z ys) → cond b (xs ++ ys) (after z (xs ++ ys)) ≡ after z ys
    by_case true e ih = absurd (false≢true (sym (rw (sym_test x z true e) at h)))
    by_case false e ih = ih (rw (sym_test x z false e) at h)

pub before-from : (p : ℕ) (xs : List ℕ) → before p xs ++ from p xs ≡ xs
before-from p [] = refl
before-from p (x ∷ xs) = by_case (nat_eq x p) (before-from p xs)
  where
    by_case : (b : Bool) → before p xs ++ from p xs ≡ xs → cond b [] (x ∷ before p xs) ++ cond b (x ∷ xs) (from p xs) ≡ x ∷ xs
    by_case true h = refl
    by_case false h = ap (λ qs. x ∷ qs) h

-- a list is what stands before an element, the element, and what stands after
pub split_at : (z : ℕ) (xs : List ℕ) → is_in z xs ≡ true → xs ≡ before z xs ++ z ∷ after z xs
split_at z [] h = absurd (false≢true h)
split_at z (x ∷ xs) h = by_case (nat_eq x z) refl (λ k. split_at z xs k)
  where
    by_case : (b : Bool) → nat_eq x z ≡ b → (is_in z xs ≡ true → xs ≡ before z xs ++ z ∷ after z xs) → x ∷ xs ≡ cond b [] (x ∷ before z xs) ++ z ∷ cond b xs (after z xs)
    by_case true e ih = ap (λ q. q ∷ xs) (nat_eq-is x z e)
    by_case false e ih = ap (λ qs. x ∷ qs) (ih (rw (sym_test x z false e) at h))

pub not_in_before : (z : ℕ) (xs : List ℕ) → is_in z (before z xs) ≡ false
not_in_before z [] = refl
not_in_before z (x ∷ xs) = by_case (nat_eq x z) refl (not_in_before z xs)
  where
    by_case : (b : Bool) → nat_eq x z ≡ b → is_in z (before z xs) ≡ false → is_in z (cond b [] (x ∷ before z xs)) ≡ false
    by_case true e ih = refl
    by_case false e ih = rw (sym_test x z false e) ih

pub not_in_after : (z : ℕ) (xs : List ℕ) → AreDistinct xs → is_in z (after z xs) ≡ false
not_in_after z [] d = refl
not_in_after z (x ∷ xs) d = by_case (nat_eq x z) refl (not_in_after z xs d.1)
  where
    by_case : (b : Bool) → nat_eq x z ≡ b → is_in z (after z xs) ≡ false → is_in z (cond b xs (after z xs)) ≡ false
    by_case true e ih = subst (λ q. is_in q xs ≡ false) (nat_eq-is x z e) d.0
    by_case false e ih = ih

pub before_absent : (y : ℕ) (xs : List ℕ) → is_in y xs ≡ false → before y xs ≡ xs
before_absent y [] h = refl
before_absent y (x ∷ xs) h = by_case (nat_eq x y) refl (λ k. before_absent y xs k)
  where
    by_case : (b : Bool) → nat_eq x y ≡ b → (is_in y xs ≡ false → before y xs ≡ xs) → cond b [] (x ∷ before y xs) ≡ x ∷ xs
    by_case true e ih = absurd (false≢true (sym (rw (sym_test x y true e) at h)))
    by_case false e ih = ap (λ us. x ∷ us) (ih (rw (sym_test x y false e) at h))

pub in_before : (p y : ℕ) (xs : List ℕ) → is_in p (before y xs) ≡ true → is_in p xs ≡ true
in_before p y [] h = h
in_before p y (x ∷ xs) h = by_case (nat_eq x y) h (nat_eq p x) refl (λ k. in_before p y xs k)
  where
    by_case : (a : Bool) → is_in p (cond a [] (x ∷ before y xs)) ≡ true → (b : Bool) → nat_eq p x ≡ b → (is_in p (before y xs) ≡ true → is_in p xs ≡ true) → cond b true (is_in p xs) ≡ true
    by_case true k b e ih = absurd (false≢true k)
    by_case false k true e ih = refl
    by_case false k false e ih = ih (rw e at k)

pub after_inside : (s q : ℕ) (xs : List ℕ) → is_in q (after s xs) ≡ true → is_in q xs ≡ true
after_inside s q [] h = h
after_inside s q (x ∷ xs) h = by_case (nat_eq x s) h (λ k. after_inside s q xs k)
  where
    by_case : (b : Bool) → is_in q (cond b xs (after s xs)) ≡ true → (is_in q (after s xs) ≡ true → is_in q xs ≡ true) → is_in q (x ∷ xs) ≡ true
    by_case true k ih = in_tail q x xs k
    by_case false k ih = in_tail q x xs (ih k)

pub from_inside : (p q : ℕ) (xs : List ℕ) → is_in q (from p xs) ≡ true → is_in q xs ≡ true
from_inside p q [] h = h
from_inside p q (x ∷ xs) h = by_case (nat_eq x p) h (λ k. from_inside p q xs k)
  where
    by_case : (b : Bool) → is_in q (cond b (x ∷ xs) (from p xs)) ≡ true → (is_in q (from p xs) ≡ true → is_in q xs ≡ true) → is_in q (x ∷ xs) ≡ true
    by_case true k ih = k
    by_case false k ih = in_tail q x xs (ih k)

pub others_inside : (s q : ℕ) (xs : List ℕ) → is_in q (others s xs) ≡ true → is_in q xs ≡ true
others_inside s q xs h = by_first (is_in q (after s xs)) refl (sym (is_in-append q (after s xs) (before s xs)) ∙ h)
  where
    by_first : (b : Bool) → is_in q (after s xs) ≡ b → cond b true (is_in q (before s xs)) ≡ true → is_in q xs ≡ true
    by_first true e k = after_inside s q xs e
    by_first false e k = in_before q s xs k

pub not_after : (y s : ℕ) (us : List ℕ) → is_in y us ≡ false → is_in y (after s us) ≡ false
not_after y s [] h = refl
not_after y s (u ∷ us) h = by_case (nat_eq u s) (nat_eq y u) h (λ k. not_after y s us k)
  where
    by_case : (a b : Bool) → cond b true (is_in y us) ≡ false → (is_in y us ≡ false → is_in y (after s us) ≡ false) → is_in y (cond a us (after s us)) ≡ false
    by_case a true k ih = absurd (false≢true (sym k))
    by_case true false k ih = k
    by_case false false k ih = ih k

-- ---- where the ring is cut

pub others-swap : (z : ℕ) (us vs : List ℕ) (a b : Bool) → is_in z us ≡ a → is_in z vs ≡ b → AreDistinct (vs ++ us) → is_in z (vs ++ us) ≡ true → others z (us ++ vs) ≡ others z (vs ++ us)
others-swap z us vs true true ia ib d h = absurd (false≢true (sym (distinct_parts z vs us d ib) ∙ ia))
others-swap z us vs true false ia ib d h = rw (after_in z us vs ia, before_in z us vs ia, after_out z vs us ib, before_out z vs us ib) (append_assoc (after z us) vs (before z us))
others-swap z us vs false true ia ib d h = rw (after_out z us vs ia, before_out z us vs ia, after_in z vs us ib, before_in z vs us ib) (sym (append_assoc (after z vs) us (before z vs)))
others-swap z us vs false false ia ib d h = absurd (false≢true (sym (is_in-append z vs us ∙ rw (ib, ia) refl) ∙ h))

-- the others of z don't depend on where the ring is cut
pub others-rotated : (z p : ℕ) (xs : List ℕ) → AreDistinct xs → is_in z xs ≡ true → others z (rotated p xs) ≡ others z xs
others-rotated z p xs d h =
    let e : before p xs ++ from p xs ≡ xs = before-from p xs in
    others-swap z (from p xs) (before p xs) (is_in z (from p xs)) (is_in z (before p xs)) refl refl (subst AreDistinct (sym e) d) (subst (λ ys. is_in z ys ≡ true) (sym e) h)
    ∙ ap (others z) e

pub not_in_others : (z : ℕ) (xs : List ℕ) → AreDistinct xs → is_in z (others z xs) ≡ false
not_in_others z xs d = not_in_append z (after z xs) (before z xs) (not_in_after z xs d) (not_in_before z xs)

pub is_in-rotated : (z p : ℕ) (xs : List ℕ) → is_in z (rotated p xs) ≡ is_in z xs
is_in-rotated z p xs =
    is_in-append z (from p xs) (before p xs) ∙ swap (is_in z (from p xs)) (is_in z (before p xs)) ∙ sym (is_in-append z (before p xs) (from p xs)) ∙ ap (is_in z) (before-from p xs)
  where
    swap : (a b : Bool) → cond a true b ≡ cond b true a
    swap true true = refl
    swap true false = refl
    swap false true = refl
    swap false false = refl

-- ---- from an element on

pub from_is : (x : ℕ) (xs : List ℕ) → is_in x xs ≡ true → from x xs ≡ x ∷ after x xs
from_is x [] h = absurd (false≢true h)
from_is x (q ∷ qs) h = by_case (nat_eq q x) refl (λ k. from_is x qs k)
  where
    by_case : (b : Bool) → nat_eq q x ≡ b → (is_in x qs ≡ true → from x qs ≡ x ∷ after x qs) → cond b (q ∷ qs) (from x qs) ≡ x ∷ cond b qs (after x qs)
    by_case true e ih = ap (λ k. k ∷ qs) (nat_eq-is q x e)
    by_case false e ih = ih (rw (sym_test q x false e) at h)

pub rotated_is : (x : ℕ) (xs : List ℕ) → is_in x xs ≡ true → rotated x xs ≡ x ∷ others x xs
rotated_is x xs h = ap (λ us. us ++ before x xs) (from_is x xs h)

-- ---- lists in which no id stands twice

pub distinct_join : (us vs : List ℕ) → AreDistinct us → AreDistinct vs → ((q : ℕ) → is_in q us ≡ true → is_in q vs ≡ false) → AreDistinct (us ++ vs)
distinct_join [] vs hu hv h = hv
distinct_join (u ∷ us) vs hu hv h =
    (not_in_append u us vs hu.0 (h u (in_head u us)), distinct_join us vs hu.1 hv (λ q i. h q (in_tail q u us i)))

pub distinct_first : (us vs : List ℕ) → AreDistinct (us ++ vs) → AreDistinct us
distinct_first [] vs h = tt
distinct_first (u ∷ us) vs h = (not_in_first u us vs h.0, distinct_first us vs h.1)

pub distinct_others : (y : ℕ) (xs : List ℕ) → AreDistinct xs → is_in y xs ≡ true → AreDistinct (others y xs)
distinct_others y xs d h =
    let e : before y xs ++ from y xs ≡ xs = before-from y xs in
    let d2 : AreDistinct (before y xs ++ (y ∷ after y xs)) = subst (λ us. AreDistinct (before y xs ++ us)) (from_is y xs h) (subst AreDistinct (sym e) d) in
    distinct_join (after y xs) (before y xs) (distinct_second (before y xs) (y ∷ after y xs) d2).1 (distinct_first (before y xs) (y ∷ after y xs) d2)
    (λ q i. by_test q (is_in q (before y xs)) refl i (λ k. distinct_parts q (before y xs) (y ∷ after y xs) d2 k))
  where
    by_test : (q : ℕ) (b : Bool) → is_in q (before y xs) ≡ b → is_in q (after y xs) ≡ true → (is_in q (before y xs) ≡ true → is_in q (y ∷ after y xs) ≡ false) → b ≡ false
    by_test q false e i k = refl
    by_test q true e i k = absurd (false≢true (sym (tail_lacks q y (after y xs) (k e)) ∙ i))
