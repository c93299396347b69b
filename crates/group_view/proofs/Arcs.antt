-- Arcs of a ring: what stands between, seen from one place and from another, and who owns it.
use Rattle.std.proofs.Common.{◌≡◌, ℕ, Bool, true, false, cond, List, [], ◌∷◌, ◌++◌, refl, sym, ap, subst, ◌∙◌, nat_eq, Option, Some}
use Rattle.std.specs.Prelude.{◌||◌}
use Rattle.std.specs.List.{filter}
use Rattle.std.proofs.lemmas.Bool.{false≢true}
use Rattle.std.proofs.lemmas.List.{append-nil}
use Rattle.std.proofs.lemmas.List.Elements.{filter-append}
use Rattle.group_view.specs.declared.entry.Entry.{Entry}
use Rattle.group_view.specs.Ring.{is_in, AreDistinct, before, from, after, rotated, others, first, left_in}
use Rattle.group_view.specs.View.{ids, is_live, left_of, owner_of, is_between, found_is}
use Rattle.group_view.proofs.Rings.{nat_eq-is, nat_eq-same, sym_test, not_equal_in, before_absent, in_before, not_in_before, not_in_others, split_at, others-rotated, is_in-rotated, before_in, before_out, from_is, rotated_is, distinct_others, in_head, in_second}
use Rattle.group_view.proofs.Neighbours.{FirstPass, first_pass, filter_empty_at, IsLeft, itself, other, left_is_left, left_gap}
use Rattle.group_view.proofs.Marks.{left_is}
use Rattle.group_view.proofs.Passing.{live_in, left_inside}

-- ---- arcs

-- an element that stands before y: from it on, before y
pub from_before : (p y : ℕ) (xs : List ℕ) → is_in p (before y xs) ≡ true → from p (before y xs) ≡ before y (from p xs)
from_before p y [] h = refl
from_before p y (x ∷ xs) h = by_case (nat_eq x y) refl (nat_eq x p) refl h (λ k. from_before p y xs k)
  where
    by_case : (a : Bool) → nat_eq x y ≡ a → (b : Bool) → nat_eq x p ≡ b → is_in p (cond a [] (x ∷ before y xs)) ≡ true → (is_in p (before y xs) ≡ true → from p (before y xs) ≡ before y (from p xs)) → from p (cond a [] (x ∷ before y xs)) ≡ before y (cond b (x ∷ xs) (from p xs))
    by_case true ea b eb k ih = absurd (false≢true k)
    by_case false ea true eb k ih = rw (eb, ea) refl
    by_case false ea false eb k ih = rw eb (ih (rw (sym_test x p false eb) at k))

-- what stands before p, where y stands before p already
pub absent_from : (p y : ℕ) (xs : List ℕ) → AreDistinct xs → nat_eq y p ≡ false → is_in y xs ≡ true → is_in p (before y xs) ≡ false → is_in y (from p xs) ≡ false
absent_from p y [] d n hy h = refl
absent_from p y (x ∷ xs) d n hy h = by_case (nat_eq x y) refl (nat_eq x p) refl h hy (λ a b. absent_from p y xs d.1 n a b)
  where
    gone : (us : List ℕ) → is_in y us ≡ false → is_in y (from p us) ≡ false
    gone [] k = refl
    gone (u ∷ us) k = by_head (nat_eq u p) (nat_eq y u) refl k (λ j. gone us j)
      where
        by_head : (a b : Bool) → nat_eq y u ≡ b → cond b true (is_in y us) ≡ false → (is_in y us ≡ false → is_in y (from p us) ≡ false) → is_in y (cond a (u ∷ us) (from p us)) ≡ false
        by_head a true e k2 ih = absurd (false≢true (sym k2))
        by_head true false e k2 ih = rw e k2
        by_head false false e k2 ih = ih k2

    by_case : (a : Bool) → nat_eq x y ≡ a → (b : Bool) → nat_eq x p ≡ b → is_in p (cond a [] (x ∷ before y xs)) ≡ false → is_in y (x ∷ xs) ≡ true → (is_in y xs ≡ true → is_in p (before y xs) ≡ false → is_in y (from p xs) ≡ false) → is_in y (cond b (x ∷ xs) (from p xs)) ≡ false
    by_case true ea true eb k i ih = absurd (false≢true (sym n ∙ ap (λ q. nat_eq q p) (sym (nat_eq-is x y ea)) ∙ eb))
    by_case true ea false eb k i ih = gone xs (subst (λ q. is_in q xs ≡ false) (nat_eq-is x y ea) d.0)
    by_case false ea true eb k i ih = absurd (false≢true (sym (rw (sym_test x p true eb) at k)))
    by_case false ea false eb k i ih = ih (rw (sym_test x y false ea) at i) (rw (sym_test x p false eb) at k)

-- ---- the ring from p on, seen from s

pub rotated_from : (p s : ℕ) (xs : List ℕ) → AreDistinct xs → is_in s xs ≡ true → is_in p (others s xs) ≡ true → rotated p xs ≡ from p (others s xs) ++ s ∷ before p (others s xs)
rotated_from p s xs d hs hp =
    let out : is_in s (others s xs) ≡ false = not_in_others s xs d in
    let n : nat_eq p s ≡ false = not_equal_in p s (others s xs) hp out in
    let inside : is_in p xs ≡ true = sym (is_in-rotated p s xs) ∙ ap (is_in p) (rotated_is s xs hs) ∙ rw n hp in
    rotated_is p xs inside
    ∙ ap (λ us. p ∷ us) (sym (others-rotated p s xs d inside) ∙ ap (others p) (rotated_is s xs hs) ∙ rw (sym_test p s false n) refl)
    ∙ ap (λ us. us ++ s ∷ before p (others s xs)) (sym (from_is p (others s xs) hp))

-- p stands between s and y: then from p to y the ring is what stands there, from p on
pub prefix_is : (p s y : ℕ) (xs : List ℕ) → AreDistinct xs → is_in s xs ≡ true → is_in y xs ≡ true → is_in p (before y (others s xs)) ≡ true → before y (rotated p xs) ≡ from p (before y (others s xs))
prefix_is p s y xs d hs hy hp =
    let t : List ℕ = others s xs in
    ap (before y) (rotated_from p s xs d hs (in_before p y t hp)) ∙ by_case (is_in y (from p t)) refl ∙ sym (from_before p y t hp)
  where
    by_case : (b : Bool) → is_in y (from p (others s xs)) ≡ b → before y (from p (others s xs) ++ s ∷ before p (others s xs)) ≡ before y (from p (others s xs))
    by_case true e = before_in y (from p (others s xs)) (s ∷ before p (others s xs)) e
    by_case false e =
        let absent : is_in y (others s xs) ≡ false = nowhere (is_in y (others s xs)) refl in
        let is : nat_eq y s ≡ true = only_s (nat_eq y s) refl absent in
        before_out y (from p (others s xs)) (s ∷ before p (others s xs)) e
        ∙ rw (sym_test y s true is) (append-nil (from p (others s xs)) ∙ sym (before_absent y (from p (others s xs)) e))
      where
        -- were y after s at all, it would be after p
        nowhere : (b : Bool) → is_in y (others s xs) ≡ b → b ≡ false
        nowhere false eb = refl
        nowhere true eb = absurd (false≢true (sym e ∙ stands_after (others s xs) hp eb))
          where
            stands_after : (us : List ℕ) → is_in p (before y us) ≡ true → is_in y us ≡ true → is_in y (from p us) ≡ true
            stands_after [] h i = i
            stands_after (u ∷ us) h i = go (nat_eq u y) refl (nat_eq u p) refl h i (λ a b. stands_after us a b)
              where
                go : (a : Bool) → nat_eq u y ≡ a → (c : Bool) → nat_eq u p ≡ c → is_in p (cond a [] (u ∷ before y us)) ≡ true → is_in y (u ∷ us) ≡ true → (is_in p (before y us) ≡ true → is_in y us ≡ true → is_in y (from p us) ≡ true) → is_in y (cond c (u ∷ us) (from p us)) ≡ true
                go true ea c ec h2 i2 ih = absurd (false≢true h2)
                go false ea true ec h2 i2 ih = i2
                go false ea false ec h2 i2 ih = ih (rw (sym_test u p false ec) at h2) (rw (sym_test u y false ea) at i2)

        only_s : (b : Bool) → nat_eq y s ≡ b → is_in y (others s xs) ≡ false → b ≡ true
        only_s true eb a = refl
        only_s false eb a = absurd (false≢true (sym a ∙ (rw eb at (sym (ap (is_in y) (rotated_is s xs hs)) ∙ is_in-rotated y s xs ∙ hy))))

-- s doesn't stand from p up to y: then p stands between s and y
pub between_from : (p s y : ℕ) (xs : List ℕ) → AreDistinct xs → AreDistinct (others s xs) → is_in s xs ≡ true → is_in p xs ≡ true → nat_eq y p ≡ false → is_in s (before y (rotated p xs)) ≡ false → is_in p (before y (others s xs)) ≡ true
between_from p s y xs d dt hs hp n h = by_s (nat_eq p s) refl
  where
    t : List ℕ
    t = others s xs

    here : nat_eq p y ≡ false
    here = sym_test y p false n

    by_y : is_in p t ≡ true → is_in p (before y t) ≡ false → (b : Bool) → is_in y t ≡ b → ⊥
    by_y hpt k false e = false≢true (sym k ∙ ap (is_in p) (before_absent y t e) ∙ hpt)
    by_y hpt k true e =
        let gone : is_in y (from p t) ≡ false = absent_from p y t dt n e k in
        let apart : nat_eq s y ≡ false = sym_test y s false (not_equal_in y s t e (not_in_others s xs d)) in
        let is : before y (rotated p xs) ≡ from p t ++ s ∷ before y (before p t) = ap (before y) (rotated_from p s xs d hs hpt) ∙ before_out y (from p t) (s ∷ before p t) gone ∙ rw apart refl in
        false≢true (sym h ∙ ap (is_in s) is ∙ in_second s (from p t) (s ∷ before y (before p t)) (in_head s (before y (before p t))))

    by_test : is_in p t ≡ true → (b : Bool) → is_in p (before y t) ≡ b → is_in p (before y t) ≡ true
    by_test hpt true k = k
    by_test hpt false k = absurd (by_y hpt k (is_in y t) refl)

    by_s : (b : Bool) → nat_eq p s ≡ b → is_in p (before y t) ≡ true
    by_s true e = absurd (false≢true (sym h ∙ ap (λ us. is_in s (before y us)) (rotated_is p xs hp) ∙ rw here (rw (sym_test p s true e) refl)))
    by_s false e = by_test (sym (sym (is_in-rotated p s xs ∙ hp) ∙ ap (is_in p) (rotated_is s xs hs) ∙ rw e refl)) (is_in p (before y t)) refl

-- ---- owners

-- nobody lives in a part that begins later
pub filter_from : (t : ℕ → Bool) (p : ℕ) (xs : List ℕ) → filter t xs ≡ [] → filter t (from p xs) ≡ []
filter_from t p [] h = refl
filter_from t p (x ∷ xs) h = by_case (nat_eq x p) (t x) refl h (λ k. filter_from t p xs k)
  where
    by_case : (b c : Bool) → t x ≡ c → cond c (x ∷ filter t xs) (filter t xs) ≡ [] → (filter t xs ≡ [] → filter t (from p xs) ≡ []) → filter t (cond b (x ∷ xs) (from p xs)) ≡ []
    by_case b true e k ih = cc
    by_case true false e k ih = rw e k
    by_case false false e k ih = ih k

-- where none before y passes, and y does, y is the first
pub first_is : (t : ℕ → Bool) (y : ℕ) (xs : List ℕ) → is_in y xs ≡ true → t y ≡ true → filter t (before y xs) ≡ [] → first (filter t xs) ≡ Some y
first_is t y xs h ty n =
    ap (λ us. first (filter t us)) (split_at y xs h)
    ∙ ap first (filter-append t (before y xs) (y ∷ after y xs) ∙ ap (λ us. us ++ filter t (y ∷ after y xs)) n ∙ ap (λ b. cond b (y ∷ filter t (after y xs)) (filter t (after y xs))) ty)

-- a live entry owns itself
pub owns_itself : (live : ℕ → Bool) (y : ℕ) (xs : List ℕ) → is_in y xs ≡ true → live y ≡ true → first (filter live (rotated y xs)) ≡ Some y
owns_itself live y xs h l = ap (λ us. first (filter live us)) (rotated_is y xs h) ∙ ap (λ b. first (cond b (y ∷ filter live (others y xs)) (filter live (others y xs)))) l

-- and what stands between its left neighbour and itself
pub owns_between : (live : ℕ → Bool) (p y : ℕ) (xs : List ℕ) → AreDistinct xs → is_in y xs ≡ true → live y ≡ true → is_in p (before y (others (left_in live y xs) xs)) ≡ true → first (filter live (rotated p xs)) ≡ Some y
owns_between live p y xs d h l i =
    let s : ℕ = left_in live y xs in
    let si : is_in s xs ≡ true = left_inside live y xs d h in
    let gap : filter live (before y (others s xs)) ≡ [] = left_gap live s y xs d (distinct_others y xs d h) h refl in
    first_is live y (rotated p xs) (is_in-rotated y p xs ∙ h) l
    (ap (filter live) (prefix_is p s y xs d si h i) ∙ filter_from live p (before y (others s xs)) gap)

-- and nothing else
pub owned_stands : (live : ℕ → Bool) (p y : ℕ) (us xs : List ℕ) → AreDistinct xs → is_in y xs ≡ true → is_in p xs ≡ true → nat_eq y p ≡ false → filter live (rotated p xs) ≡ y ∷ us → is_in p (before y (others (left_in live y xs) xs)) ≡ true
owned_stands live p y us xs d h hp ne e =
    between_from p s y xs d (distinct_others s xs d si) si hp ne (by_left (left_is_left live s y xs (distinct_others y xs d h) h refl))
  where
    s : ℕ
    s = left_in live y xs

    si : is_in s xs ≡ true
    si = left_inside live y xs d h

    by_in : live s ≡ true → (b : Bool) → is_in s (before y (rotated p xs)) ≡ b → b ≡ false
    by_in ls false i = refl
    by_in ls true i =
        let f : FirstPass live y (rotated p xs) = first_pass live y us (rotated p xs) e in
        absurd (false≢true (sym (filter_empty_at live s (before y (rotated p xs)) f.none i) ∙ ls))

    by_left : IsLeft live s y xs → is_in s (before y (rotated p xs)) ≡ false
    by_left (itself is) = ap (λ q. is_in q (before y (rotated p xs))) is ∙ not_in_before y (rotated p xs)
    by_left (other ls i) = by_in ls (is_in s (before y (rotated p xs))) refl

-- a live entry answers for itself and for what stands between its left neighbour and itself, and for nothing else
pub owner_is : (es : List Entry) (y p : ℕ) → AreDistinct (ids es) → is_live es y ≡ true → is_in p (ids es) ≡ true → found_is (owner_of es p) y ≡ (nat_eq p y || is_between es (left_of es y) p y)
owner_is es y p d l hp = by_same (nat_eq p y) refl
  where
    h : is_in y (ids es) ≡ true
    h = live_in es y l

    found : (o : Option ℕ) → o ≡ Some y → found_is o y ≡ true
    found o e = ap (λ q. found_is q y) e ∙ nat_eq-same y

    arc : is_between es (left_of es y) p y ≡ is_in p (before y (others (left_in (is_live es) y (ids es)) (ids es)))
    arc = ap (λ s. is_between es s p y) (left_is es y h)

    by_first : nat_eq p y ≡ false → (us : List ℕ) → filter (is_live es) (rotated p (ids es)) ≡ us → is_in p (before y (others (left_in (is_live es) y (ids es)) (ids es))) ≡ false → found_is (first us) y ≡ false
    by_first ne [] e out = refl
    by_first ne (u ∷ us) e out = by_test (nat_eq u y) refl
      where
        by_test : (b : Bool) → nat_eq u y ≡ b → b ≡ false
        by_test false q = refl
        by_test true q = absurd (false≢true (sym out ∙ owned_stands (is_live es) p y us (ids es) d h hp (sym_test p y false ne) (e ∙ ap (λ z. z ∷ us) (nat_eq-is u y q))))

    by_arc : nat_eq p y ≡ false → (b : Bool) → is_in p (before y (others (left_in (is_live es) y (ids es)) (ids es))) ≡ b → found_is (owner_of es p) y ≡ b
    by_arc ne true i = found (owner_of es p) (owns_between (is_live es) p y (ids es) d h l i)
    by_arc ne false i = by_first ne (filter (is_live es) (rotated p (ids es))) refl i

    by_same : (b : Bool) → nat_eq p y ≡ b → found_is (owner_of es p) y ≡ (b || is_between es (left_of es y) p y)
    by_same true q = found (owner_of es p) (ap (owner_of es) (nat_eq-is p y q) ∙ owns_itself (is_live es) y (ids es) h l)
    by_same false q = by_arc q (is_in p (before y (others (left_in (is_live es) y (ids es)) (ids es)))) refl ∙ sym arc
