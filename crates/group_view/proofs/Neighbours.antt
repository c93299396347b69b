-- The nearest that passes, to the left and to the right.
use Rattle.std.proofs.Common.{◌≡◌, ℕ, Bool, true, false, cond, List, [], ◌∷◌, ◌++◌, refl, sym, ap, subst, ◌∙◌, nat_eq}
use Rattle.std.specs.List.{filter}
use Rattle.std.proofs.lemmas.List.{append-nil}
use Rattle.std.proofs.lemmas.List.Elements.{filter-append}
use Rattle.std.proofs.lemmas.Bool.{false≢true}
use Rattle.group_view.specs.Ring.{is_in, AreDistinct, before, after, others, last_or, first_or, left_in, right_in}
use Rattle.group_view.proofs.Rings.{nat_eq-is, nat_eq-same, sym_test, not_equal_in, split_at, before_absent, before_out, not_after, others_inside, others-rotated, not_in_others, is_in-rotated, rotated_is, distinct_others, in_head, in_tail}

-- ---- filters

pub not_in_filter : (r : ℕ → Bool) (z : ℕ) (xs : List ℕ) → is_in z xs ≡ false → is_in z (filter r xs) ≡ false
not_in_filter r z [] h = refl
not_in_filter r z (x ∷ xs) h = by_case (r x) (nat_eq z x) refl h (λ k. not_in_filter r z xs k)
  where
    by_case : (a t : Bool) → nat_eq z x ≡ t → cond t true (is_in z xs) ≡ false → (is_in z xs ≡ false → is_in z (filter r xs) ≡ false) → is_in z (cond a (x ∷ filter r xs) (filter r xs)) ≡ false
    by_case a true e k ih = absurd (false≢true (sym k))
    by_case true false e k ih = rw e (ih k)
    by_case false false e k ih = ih k

pub filter_empty_at : (t : ℕ → Bool) (q : ℕ) (xs : List ℕ) → filter t xs ≡ [] → is_in q xs ≡ true → t q ≡ false
filter_empty_at t q [] h i = absurd (false≢true i)
filter_empty_at t q (x ∷ xs) h i = by_case (t x) refl h (nat_eq q x) refl i (λ a b. filter_empty_at t q xs a b)
  where
    by_case : (a : Bool) → t x ≡ a → cond a (x ∷ filter t xs) (filter t xs) ≡ [] → (b : Bool) → nat_eq q x ≡ b → cond b true (is_in q xs) ≡ true → (filter t xs ≡ [] → is_in q xs ≡ true → t q ≡ false) → t q ≡ false
    by_case true ta k b eb j ih = cc
    by_case false ta k true eb j ih = ap t (nat_eq-is q x eb) ∙ ta
    by_case false ta k false eb j ih = ih k j

pub in-filter : (t : ℕ → Bool) (q : ℕ) (xs : List ℕ) → is_in q xs ≡ true → t q ≡ true → is_in q (filter t xs) ≡ true
in-filter t q [] h k = h
in-filter t q (x ∷ xs) h k = by_case (t x) refl (nat_eq q x) refl h (λ j. in-filter t q xs j k)
  where
    by_case : (a : Bool) → t x ≡ a → (b : Bool) → nat_eq q x ≡ b → cond b true (is_in q xs) ≡ true → (is_in q xs ≡ true → is_in q (filter t xs) ≡ true) → is_in q (cond a (x ∷ filter t xs) (filter t xs)) ≡ true
    by_case true ta true eb j ih = rw eb refl
    by_case true ta false eb j ih = rw eb (ih j)
    by_case false ta true eb j ih = absurd (false≢true (sym ta ∙ ap t (sym (nat_eq-is q x eb)) ∙ k))
    by_case false ta false eb j ih = ih j

pub filtered_in : (t : ℕ → Bool) (q : ℕ) (xs : List ℕ) → is_in q (filter t xs) ≡ true → is_in q xs ≡ true
filtered_in t q [] h = h
filtered_in t q (x ∷ xs) h = by_case (t x) (nat_eq q x) refl h (λ j. filtered_in t q xs j)
  where
    by_case : (a b : Bool) → nat_eq q x ≡ b → is_in q (cond a (x ∷ filter t xs) (filter t xs)) ≡ true → (is_in q (filter t xs) ≡ true → is_in q xs ≡ true) → cond b true (is_in q xs) ≡ true
    by_case a true eb j ih = refl
    by_case true false eb j ih = ih (rw eb at j)
    by_case false false eb j ih = ih j

-- who is among those that pass does pass
pub passes_in : (t : ℕ → Bool) (q : ℕ) (xs : List ℕ) → is_in q (filter t xs) ≡ true → t q ≡ true
passes_in t q [] h = absurd (false≢true h)
passes_in t q (x ∷ xs) h = by_case (t x) refl (nat_eq q x) refl h (λ k. passes_in t q xs k)
  where
    by_case : (a : Bool) → t x ≡ a → (b : Bool) → nat_eq q x ≡ b → is_in q (cond a (x ∷ filter t xs) (filter t xs)) ≡ true → (is_in q (filter t xs) ≡ true → t q ≡ true) → t q ≡ true
    by_case true ta true eb k ih = ap t (nat_eq-is q x eb) ∙ ta
    by_case true ta false eb k ih = ih (rw eb at k)
    by_case false ta b eb k ih = ih k

-- so does the first of them
pub first_passes : (t : ℕ → Bool) (u : ℕ) (us xs : List ℕ) → filter t xs ≡ u ∷ us → t u ≡ true
first_passes t u us xs e = passes_in t u xs (ap (is_in u) e ∙ in_head u us)

-- a test that no element passes keeps none
pub filter_none : (t : ℕ → Bool) (xs : List ℕ) → ((q : ℕ) → is_in q xs ≡ true → t q ≡ false) → filter t xs ≡ []
filter_none t [] h = refl
filter_none t (x ∷ xs) h = rw (h x (in_head x xs)) (filter_none t xs (λ q i. h q (in_tail q x xs i)))

-- tests that agree at each element keep the same
pub filter_agree_in : (t u : ℕ → Bool) (xs : List ℕ) → ((q : ℕ) → is_in q xs ≡ true → t q ≡ u q) → filter t xs ≡ filter u xs
filter_agree_in t u [] h = refl
filter_agree_in t u (x ∷ xs) h =
    ap (λ b. cond b (x ∷ filter t xs) (filter t xs)) (h x (in_head x xs))
    ∙ ap (λ us. cond (u x) (x ∷ us) us) (filter_agree_in t u xs (λ q i. h q (in_tail q x xs i)))

pub before-filter : (t : ℕ → Bool) (z : ℕ) (xs : List ℕ) → t z ≡ true → before z (filter t xs) ≡ filter t (before z xs)
before-filter t z [] h = refl
before-filter t z (x ∷ xs) h = by_case (t x) refl (nat_eq x z) refl (before-filter t z xs h)
  where
    by_case : (a : Bool) → t x ≡ a → (b : Bool) → nat_eq x z ≡ b → before z (filter t xs) ≡ filter t (before z xs) → before z (cond a (x ∷ filter t xs) (filter t xs)) ≡ filter t (cond b [] (x ∷ before z xs))
    by_case true ta true eb ih = rw eb refl
    by_case true ta false eb ih = rw (eb, ta) (ap (λ us. x ∷ us) ih)
    by_case false ta true eb ih = absurd (false≢true (sym ta ∙ ap t (nat_eq-is x z eb) ∙ h))
    by_case false ta false eb ih = rw ta ih

pub after-filter : (t : ℕ → Bool) (z : ℕ) (xs : List ℕ) → t z ≡ true → after z (filter t xs) ≡ filter t (after z xs)
after-filter t z [] h = refl
after-filter t z (x ∷ xs) h = by_case (t x) refl (nat_eq x z) refl (after-filter t z xs h)
  where
    by_case : (a : Bool) → t x ≡ a → (b : Bool) → nat_eq x z ≡ b → after z (filter t xs) ≡ filter t (after z xs) → after z (cond a (x ∷ filter t xs) (filter t xs)) ≡ filter t (cond b xs (after z xs))
    by_case true ta true eb ih = rw eb refl
    by_case true ta false eb ih = rw eb ih
    by_case false ta true eb ih = absurd (false≢true (sym ta ∙ ap t (nat_eq-is x z eb) ∙ h))
    by_case false ta false eb ih = ih

-- ---- the last and the first that pass

-- the last of those that pass one test is the last of those that pass a stronger one, where it passes that
pub last_stronger : (weak strong : ℕ → Bool) (d d' x : ℕ) (us : List ℕ) → ((q : ℕ) → strong q ≡ true → weak q ≡ true) → strong x ≡ true → (d ≡ x → d' ≡ x) → last_or d (filter weak us) ≡ x → last_or d' (filter strong us) ≡ x
last_stronger weak strong d d' x [] h sx k e = k e
last_stronger weak strong d d' x (u ∷ us) h sx k e = by_case (weak u) (strong u) refl refl e (λ d2 d2' k2 e2. last_stronger weak strong d2 d2' x us h sx k2 e2)
  where
    by_case : (a b : Bool) → weak u ≡ a → strong u ≡ b → last_or d (cond a (u ∷ filter weak us) (filter weak us)) ≡ x → ((d2 d2' : ℕ) → (d2 ≡ x → d2' ≡ x) → last_or d2 (filter weak us) ≡ x → last_or d2' (filter strong us) ≡ x) → last_or d' (cond b (u ∷ filter strong us) (filter strong us)) ≡ x
    by_case true true ea eb l ih = ih u u (λ z. z) l
    by_case true false ea eb l ih = ih u d' (λ z. absurd (false≢true (sym eb ∙ ap strong z ∙ sx))) l
    by_case false true ea eb l ih = absurd (false≢true (sym ea ∙ h u eb))
    by_case false false ea eb l ih = ih d d' k l

pub last_or-append : (d : ℕ) (us vs : List ℕ) → last_or d (us ++ vs) ≡ last_or (last_or d us) vs
last_or-append d [] vs = refl
last_or-append d (u ∷ us) vs = last_or-append u us vs

-- the first that passes: none before it does
pub record FirstPass (t : ℕ → Bool) (u : ℕ) (xs : List ℕ) : Type 0 where
  pub inside : is_in u xs ≡ true
  pub none : filter t (before u xs) ≡ []

pub first_pass : (t : ℕ → Bool) (u : ℕ) (us xs : List ℕ) → filter t xs ≡ u ∷ us → FirstPass t u xs
first_pass t u us [] e = cc
first_pass t u us (q ∷ qs) e = by_case (t q) refl e (λ k. first_pass t u us qs k)
  where
    skip : (b : Bool) → nat_eq q u ≡ b → t q ≡ false → FirstPass t u qs → FirstPass t u (q ∷ qs)
    skip true eb apart h = record { inside = rw (sym_test q u true eb) refl; none = rw eb refl }
    skip false eb apart h = record { inside = rw (sym_test q u false eb) h.inside; none = rw (eb, apart) h.none }

    by_case : (b : Bool) → t q ≡ b → cond b (q ∷ filter t qs) (filter t qs) ≡ u ∷ us → (filter t qs ≡ u ∷ us → FirstPass t u qs) → FirstPass t u (q ∷ qs)
    by_case true eb k ih =
        let is : q ≡ u = cc in
        let same : nat_eq q u ≡ true = subst (λ z. nat_eq q z ≡ true) is (nat_eq-same q) in
        record { inside = rw (sym_test q u true same) refl; none = rw same refl }
    by_case false eb k ih = skip (nat_eq q u) refl eb (ih k)

-- the last that passes is the default, or stands in the list, passes, and none after it does
pub data IsLast (t : ℕ → Bool) (d s : ℕ) (xs : List ℕ) : Type 0 where
  none : filter t xs ≡ [] → s ≡ d → IsLast t d s xs
  one : is_in s xs ≡ true → t s ≡ true → filter t (after s xs) ≡ [] → IsLast t d s xs

pub is_last : (t : ℕ → Bool) (d s : ℕ) (xs : List ℕ) → AreDistinct xs → last_or d (filter t xs) ≡ s → IsLast t d s xs
is_last t d s [] dx e = none refl (sym e)
is_last t d s (x ∷ xs) dx e = by_live (t x) refl e (λ d2 e2. is_last t d2 s xs dx.1 e2)
  where
    deeper : (b : Bool) → nat_eq x s ≡ b → is_in s xs ≡ true → t s ≡ true → filter t (after s xs) ≡ [] → IsLast t d s (x ∷ xs)
    deeper true eb i ts n = absurd (false≢true (sym (subst (λ q. is_in q xs ≡ false) (nat_eq-is x s eb) dx.0) ∙ i))
    deeper false eb i ts n = one (rw (sym_test x s false eb) i) ts (rw eb n)

    first : t x ≡ true → IsLast t x s xs → IsLast t d s (x ∷ xs)
    first tx (none n e2) =
        let same : nat_eq x s ≡ true = subst (λ q. nat_eq x q ≡ true) (sym e2) (nat_eq-same x) in
        one (rw (sym_test x s true same) refl) (ap t e2 ∙ tx) (rw same n)
    first tx (one i ts n) = deeper (nat_eq x s) refl i ts n

    second : t x ≡ false → IsLast t d s xs → IsLast t d s (x ∷ xs)
    second tx (none n e2) = none (rw tx n) e2
    second tx (one i ts n) = deeper (nat_eq x s) refl i ts n

    by_live : (b : Bool) → t x ≡ b → last_or d (cond b (x ∷ filter t xs) (filter t xs)) ≡ s → ((d2 : ℕ) → last_or d2 (filter t xs) ≡ s → IsLast t d2 s xs) → IsLast t d s (x ∷ xs)
    by_live true tx k ih = first tx (ih x k)
    by_live false tx k ih = second tx (ih d k)

-- ---- nothing that passes stands between

pub left_gap : (live : ℕ → Bool) (s y : ℕ) (xs : List ℕ) → AreDistinct xs → AreDistinct (others y xs) → is_in y xs ≡ true → left_in live y xs ≡ s → filter live (before y (others s xs)) ≡ []
left_gap live s y xs d dt hy e = by_last (is_last live y s (others y xs) dt e)
  where
    t : List ℕ
    t = others y xs

    by_last : IsLast live y s (others y xs) → filter live (before y (others s xs)) ≡ []
    by_last (none n is) = ap (λ q. filter live (before y (others q xs))) is ∙ ap (filter live) (before_absent y t (not_in_others y xs d)) ∙ n
    by_last (one i ls n) =
        let apart : nat_eq s y ≡ false = not_equal_in s y t i (not_in_others y xs d) in
        let inside : is_in s xs ≡ true = sym (is_in-rotated s y xs) ∙ ap (is_in s) (rotated_is y xs hy) ∙ rw apart i in
        let is : others s xs ≡ after s t ++ y ∷ before s t = sym (others-rotated s y xs d inside) ∙ ap (others s) (rotated_is y xs hy) ∙ rw (sym_test s y false apart) refl in
        ap (λ us. filter live (before y us)) is
        ∙ ap (filter live) (before_out y (after s t) (y ∷ before s t) (not_after y s t (not_in_others y xs d)) ∙ rw (nat_eq-same y) (append-nil (after s t)))
        ∙ n

-- the left neighbour: y itself, or live and in the ring
pub data IsLeft (live : ℕ → Bool) (s y : ℕ) (xs : List ℕ) : Type 0 where
  itself : s ≡ y → IsLeft live s y xs
  other : live s ≡ true → is_in s xs ≡ true → IsLeft live s y xs

pub left_is_left : (live : ℕ → Bool) (s y : ℕ) (xs : List ℕ) → AreDistinct (others y xs) → is_in y xs ≡ true → left_in live y xs ≡ s → IsLeft live s y xs
left_is_left live s y xs dt hy e = by_last (is_last live y s (others y xs) dt e)
  where
    by_last : IsLast live y s (others y xs) → IsLeft live s y xs
    by_last (none n is) = itself is
    by_last (one i ls n) = by_test (nat_eq s y) refl
      where
        by_test : (b : Bool) → nat_eq s y ≡ b → IsLeft live s y xs
        by_test true eb = itself (nat_eq-is s y eb)
        by_test false eb = other ls (sym (is_in-rotated s y xs) ∙ ap (is_in s) (rotated_is y xs hy) ∙ rw eb i)

-- ---- one neighbour's other neighbour

pub left_of_right : (live : ℕ → Bool) (x : ℕ) (xs : List ℕ) → AreDistinct xs → is_in x xs ≡ true → live x ≡ true → left_in live (right_in live x xs) xs ≡ x
left_of_right live x xs d h lx = by_list (filter live (others x xs)) refl
  where
    by_list : (us : List ℕ) → filter live (others x xs) ≡ us → left_in live (first_or x us) xs ≡ x
    by_list [] e = ap (last_or x) e
    by_list (u ∷ us) e =
        let f : FirstPass live u (others x xs) = first_pass live u us (others x xs) e in
        let out : is_in x (others x xs) ≡ false = not_in_others x xs d in
        let differs : nat_eq x u ≡ false = sym_test u x false (not_equal_in u x (others x xs) f.inside out) in
        let inside : is_in u xs ≡ true = sym (is_in-rotated u x xs) ∙ ap (is_in u) (rotated_is x xs h) ∙ rw (sym_test x u false differs) f.inside in
        ap (λ vs. last_or u (filter live vs)) (sym (others-rotated u x xs d inside) ∙ ap (others u) (rotated_is x xs h))
        ∙ rw (differs) (ap (last_or u) (filter-append live (after u (others x xs)) (x ∷ before u (others x xs))) ∙ rw (lx, f.none) (last_or-append u (filter live (after u (others x xs))) (x ∷ [])))

pub right_of_left : (live : ℕ → Bool) (x z : ℕ) (xs : List ℕ) → AreDistinct xs → is_in z xs ≡ true → live z ≡ true → left_in live z xs ≡ x → right_in live x xs ≡ z
right_of_left live x z xs d iz lz e = by_last (is_last live z x (others z xs) (distinct_others z xs d iz) e)
  where
    by_last : IsLast live z x (others z xs) → right_in live x xs ≡ z
    by_last (none n is) = ap (λ q. first_or q (filter live (others q xs))) is ∙ ap (first_or z) n
    by_last (one i lx n) = by_test (nat_eq z x) refl
      where
        gap : filter live (before z (others x xs)) ≡ []
        gap = left_gap live x z xs d (distinct_others z xs d iz) iz e

        by_test : (b : Bool) → nat_eq z x ≡ b → right_in live x xs ≡ z
        by_test true eb =
            -- z would stand among its own others
            absurd (false≢true (sym (not_in_others z xs d) ∙ ap (λ q. is_in q (others z xs)) (nat_eq-is z x eb) ∙ i))
        by_test false eb =
            let xi : is_in x xs ≡ true = others_inside z x xs i in
            let zi : is_in z (others x xs) ≡ true = sym (sym (is_in-rotated z x xs ∙ iz) ∙ (ap (is_in z) (rotated_is x xs xi) ∙ rw eb refl)) in
            ap (λ us. first_or x (filter live us)) (split_at z (others x xs) zi)
            ∙ ap (first_or x) (filter-append live (before z (others x xs)) (z ∷ after z (others x xs)))
            ∙ rw (gap, lz) refl

-- ---- a stronger test

pub left_marked : (live live' : ℕ → Bool) (z x : ℕ) (xs : List ℕ) → ((q : ℕ) → live' q ≡ true → live q ≡ true) → live' x ≡ true → left_in live z xs ≡ x → left_in live' z xs ≡ x
left_marked live live' z x xs sub lx e = last_stronger live live' z z x (others z xs) sub lx (λ k. k) e
