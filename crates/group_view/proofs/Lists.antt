-- Tests of all numbers of a range, lists that a test leaves empty, writes over lists, and parts of one.
use Rattle.std.proofs.Common.{◌≡◌, ◌≢◌, ℕ, zero, suc, ◌+◌, ◌≤◌, ◌<◌, Bool, true, false, cond, List, [], ◌∷◌, ◌++◌, length, take, drop, map, refl, sym, ap, ◌∙◌, arith, ⊎_elim}
use Rattle.std.specs.Prelude.{◌&&◌}
use Rattle.std.specs.List.{list_all, range_with_len}
use Rattle.std.proofs.lemmas.Bool.{and_parts, cases_eq}
use Rattle.std.proofs.lemmas.List.{drop-append-le, take-take, take-append-drop, length-take-le}

-- ---- ranges

-- a test that each number of a range passes all of them pass
pub all_range : (t : ℕ → Bool) (a n : ℕ) → ((u : ℕ) → a ≤ u → u < a + n → t u ≡ true) → list_all t (range_with_len a n) ≡ true
all_range t a zero h = refl
all_range t a (suc n) h = ap (λ b. b && list_all t (range_with_len (a + 1) n)) (h a (omega arith) (omega arith)) ∙ all_range t (a + 1) n (λ u l m. h u (omega arith) (omega arith))

-- and the other way
pub at_range : (t : ℕ → Bool) (a n u : ℕ) → list_all t (range_with_len a n) ≡ true → a ≤ u → u < a + n → t u ≡ true
at_range t a zero u h l m = absurd (omega arith)
at_range t a (suc n) u h l m =
    ⊎_elim
    (λ (is : u ≡ a). ap t is ∙ (and_parts (t a) (list_all t (range_with_len (a + 1) n)) h).0)
    (λ (no : u ≢ a). at_range t (a + 1) n u (and_parts (t a) (list_all t (range_with_len (a + 1) n)) h).1 (omega arith) (omega arith))
    (cases_eq u a)

-- tests that agree at each number of a range agree on all of them
pub all_range_agree : (t t' : ℕ → Bool) (a n : ℕ) → ((u : ℕ) → a ≤ u → u < a + n → t u ≡ t' u) → list_all t (range_with_len a n) ≡ list_all t' (range_with_len a n)
all_range_agree t t' a zero h = refl
all_range_agree t t' a (suc n) h = rw (h a (omega arith) (omega arith), all_range_agree t t' (a + 1) n (λ u l m. h u (omega arith) (omega arith))) refl

-- ---- what a test leaves

-- a list that is empty is empty under any test
pub cond_empty : {A : Type 0} (b : Bool) (xs : List A) → xs ≡ [] → cond b xs [] ≡ []
cond_empty true xs e = e
cond_empty false xs e = refl

-- and where the test fails
pub cond_empty_late : {A : Type 0} (b : Bool) (xs : List A) → xs ≡ [] → cond b [] xs ≡ []
cond_empty_late true xs e = refl
cond_empty_late false xs e = e

-- ---- writes

-- writes that agree on each element
pub map_agree : {A B : Type 0} (f g : A → B) → ((x : A) → f x ≡ g x) → (xs : List A) → map f xs ≡ map g xs
map_agree f g h [] = refl
map_agree f g h (x ∷ xs) = ap (λ y. y ∷ map f xs) (h x) ∙ ap (λ ys. g x ∷ ys) (map_agree f g h xs)

-- ---- parts

-- what stands between two numbers, and what stands behind it up to a third
pub between_joined : {A : Type 0} (lo mid hi : ℕ) (xs : List A) → lo ≤ mid → mid ≤ hi → hi ≤ length xs → drop lo (take mid xs) ++ drop mid (take hi xs) ≡ drop lo (take hi xs)
between_joined lo mid hi xs a b within =
    let long : length (take mid xs) ≡ mid = length-take-le mid xs (omega arith) in
    sym (drop-append-le lo (take mid xs) (drop mid (take hi xs)) (omega arith))
    ∙ ap (drop lo) (ap (λ ys. ys ++ drop mid (take hi xs)) (sym (take-take mid hi xs b)) ∙ take-append-drop mid (take hi xs))
