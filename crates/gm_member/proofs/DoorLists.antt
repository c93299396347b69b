-- Places that pass a test, in their order, and the first of them that passes another.
use Rattle.std.proofs.Common.{◌≡◌, ◌≢◌, ℕ, zero, suc, ◌+◌, ◌<◌, ◌≤◌, Bool, true, false, cond, not, nat_eq, nat_lt, List, [], ◌∷◌, ◌++◌, length, get_or, map, Option, Some, None, refl, sym, ap, subst, ⊎_elim, ◌∙◌, arith}
use Rattle.std.specs.Prelude.{◌&&◌, position, option_map}
use Rattle.std.specs.List.{filter, find, range_with_len, position_or_len}
use Rattle.std.proofs.lemmas.Bool.{cases_eq, cases_lt, lt-ltb, le-ltb}
use Rattle.std.proofs.lemmas.List.Quantifiers.{position-Some}
use Rattle.std.proofs.lemmas.List.FromFn.{fill_by_all, get_or-range_with_len, length-range_with_len}
use Rattle.std.proofs.Math.Bool.{and-true}
use Rattle.group_view.specs.Ring.{is_in}
use Rattle.ring_rules.proofs.rings.Maps.{position_map}
use Rattle.ring_rules.proofs.rings.Rounds.{nat_eq-same, nat_eq-not}
use Rattle.gm_member.specs.Held.{without}

-- ---- tests

-- tests that agree on the places keep the same ones
pub filter_agree : (t t' : ℕ → Bool) (a n : ℕ) → ((s : ℕ) → a ≤ s → s < a + n → t s ≡ t' s) → filter t (range_with_len a n) ≡ filter t' (range_with_len a n)
filter_agree t t' a zero h = refl
filter_agree t t' a (suc n) h =
    ap (λ b. cond b (a ∷ filter t (range_with_len (a + 1) n)) (filter t (range_with_len (a + 1) n))) (h a (omega arith) (omega arith))
    ∙ ap (λ xs. cond (t' a) (a ∷ xs) xs) (filter_agree t t' (a + 1) n (λ s l m. h s (omega arith) (omega arith)))

-- what is made of each place that passes
pub made_agree : {A : Type 0} (f g : ℕ → A) (t : ℕ → Bool) (a n : ℕ) → ((s : ℕ) → a ≤ s → s < a + n → t s ≡ true → f s ≡ g s) → map f (filter t (range_with_len a n)) ≡ map g (filter t (range_with_len a n))
made_agree f g t a zero h = refl
made_agree f g t a (suc n) h = by_case (made_agree f g t (a + 1) n (λ s l m e. h s (omega arith) (omega arith) e)) (t a) refl
  where
    by_case : map f (filter t (range_with_len (a + 1) n)) ≡ map g (filter t (range_with_len (a + 1) n)) → (b : Bool) → t a ≡ b → map f (cond b (a ∷ filter t (range_with_len (a + 1) n)) (filter t (range_with_len (a + 1) n))) ≡ map g (cond b (a ∷ filter t (range_with_len (a + 1) n)) (filter t (range_with_len (a + 1) n)))
    by_case later true e = ap (λ x. x ∷ map f (filter t (range_with_len (a + 1) n))) (h a (omega arith) (omega arith) e) ∙ ap (λ xs. g a ∷ xs) later
    by_case later false e = later

-- a test of what is made of each
pub filter_made : {A : Type 0} (p : A → Bool) (f : ℕ → A) (t : ℕ → Bool) (xs : List ℕ) → filter p (map f (filter t xs)) ≡ map f (filter (λ s. t s && p (f s)) xs)
filter_made p f t [] = refl
filter_made p f t (x ∷ xs) = by_case (filter_made p f t xs) (t x)
  where
    inside : filter p (map f (filter t xs)) ≡ map f (filter (λ s. t s && p (f s)) xs) → (b : Bool) → cond b (f x ∷ filter p (map f (filter t xs))) (filter p (map f (filter t xs))) ≡ map f (cond b (x ∷ filter (λ s. t s && p (f s)) xs) (filter (λ s. t s && p (f s)) xs))
    inside ih true = ap (λ ys. f x ∷ ys) ih
    inside ih false = ih

    by_case : filter p (map f (filter t xs)) ≡ map f (filter (λ s. t s && p (f s)) xs) → (b : Bool) → filter p (map f (cond b (x ∷ filter t xs) (filter t xs))) ≡ map f (cond (b && p (f x)) (x ∷ filter (λ s. t s && p (f s)) xs) (filter (λ s. t s && p (f s)) xs))
    by_case ih true = inside ih (p (f x))
    by_case ih false = ih

-- one place more
pub filter_more : (t : ℕ → Bool) (a n k : ℕ) → a + n ≡ k → filter t (range_with_len a (n + 1)) ≡ filter t (range_with_len a n) ++ cond (t k) (k ∷ []) []
filter_more t a zero k e = let is : a ≡ k = omega arith in ap (λ j. cond (t j) (j ∷ []) []) is
filter_more t a (suc n) k e =
    let more : suc n + 1 ≡ suc (n + 1) = omega arith in
    rw more (by_case (filter_more t (a + 1) n k (omega arith)) (t a))
  where
    by_case : filter t (range_with_len (a + 1) (n + 1)) ≡ filter t (range_with_len (a + 1) n) ++ cond (t k) (k ∷ []) [] → (b : Bool) → cond b (a ∷ filter t (range_with_len (a + 1) (n + 1))) (filter t (range_with_len (a + 1) (n + 1))) ≡ cond b (a ∷ filter t (range_with_len (a + 1) n)) (filter t (range_with_len (a + 1) n)) ++ cond (t k) (k ∷ []) []
    by_case ih true = ap (λ xs. a ∷ xs) ih
    by_case ih false = ih

-- one before all of them isn't there
before_all : (t : ℕ → Bool) (a n s : ℕ) → s < a → is_in s (filter t (range_with_len a n)) ≡ false
before_all t a zero s l = refl
before_all t a (suc n) s l = by_case (before_all t (a + 1) n s (omega arith)) (t a)
  where
    by_case : is_in s (filter t (range_with_len (a + 1) n)) ≡ false → (b : Bool) → is_in s (cond b (a ∷ filter t (range_with_len (a + 1) n)) (filter t (range_with_len (a + 1) n))) ≡ false
    by_case ih true = ap (λ c. cond c true (is_in s (filter t (range_with_len (a + 1) n)))) (nat_eq-not s a (λ (same : s ≡ a). omega arith)) ∙ ih
    by_case ih false = ih

-- a place is there exactly where it passes
pub in_places : (t : ℕ → Bool) (a n s : ℕ) → a ≤ s → s < a + n → is_in s (filter t (range_with_len a n)) ≡ t s
in_places t a zero s l m = absurd (omega arith)
in_places t a (suc n) s l m = ⊎_elim
    (λ (same : a ≡ s). subst (λ k. is_in k (filter t (range_with_len a (suc n))) ≡ t k) same (first (before_all t (a + 1) n a (omega arith)) (t a)))
    (λ (ne : a ≢ s). later (nat_eq-not s a (λ (same : s ≡ a). ne (sym same))) (in_places t (a + 1) n s (omega arith) (omega arith)) (t a))
    (cases_eq a s)
  where
    first : is_in a (filter t (range_with_len (a + 1) n)) ≡ false → (b : Bool) → is_in a (cond b (a ∷ filter t (range_with_len (a + 1) n)) (filter t (range_with_len (a + 1) n))) ≡ b
    first ih true = ap (λ c. cond c true (is_in a (filter t (range_with_len (a + 1) n)))) (nat_eq-same a)
    first ih false = ih

    later : nat_eq s a ≡ false → is_in s (filter t (range_with_len (a + 1) n)) ≡ t s → (b : Bool) → is_in s (cond b (a ∷ filter t (range_with_len (a + 1) n)) (filter t (range_with_len (a + 1) n))) ≡ t s
    later ne ih true = ap (λ c. cond c true (is_in s (filter t (range_with_len (a + 1) n)))) ne ∙ ih
    later ne ih false = ih

-- ---- the first that passes

-- of those that pass one test, the first that passes another passes both first
pub find_both : (t p : ℕ → Bool) (xs : List ℕ) → find p (filter t xs) ≡ find (λ s. t s && p s) xs
find_both t p [] = refl
find_both t p (x ∷ xs) = by_case (find_both t p xs) (t x)
  where
    by_case : find p (filter t xs) ≡ find (λ s. t s && p s) xs → (b : Bool) → find p (cond b (x ∷ filter t xs) (filter t xs)) ≡ cond (b && p x) (Some x) (find (λ s. t s && p s) xs)
    by_case ih true = ap (λ o. cond (p x) (Some x) o) ih
    by_case ih false = ih

-- by tests that agree on the places
pub find_agree : (t t' : ℕ → Bool) (a n : ℕ) → ((s : ℕ) → a ≤ s → s < a + n → t s ≡ t' s) → find t (range_with_len a n) ≡ find t' (range_with_len a n)
find_agree t t' a zero h = refl
find_agree t t' a (suc n) h =
    ap (λ b. cond b (Some a) (find t (range_with_len (a + 1) n))) (h a (omega arith) (omega arith))
    ∙ ap (λ o. cond (t' a) (Some a) o) (find_agree t t' (a + 1) n (λ s l m. h s (omega arith) (omega arith)))

-- one more on each side
pub lt_suc : (a b : ℕ) → nat_lt (suc a) (suc b) ≡ nat_lt a b
lt_suc a b = ⊎_elim
    (λ (l : a < b). lt-ltb (suc a) (suc b) (omega arith) ∙ sym (lt-ltb a b l))
    (λ (g : b ≤ a). le-ltb (suc a) (suc b) (omega arith) ∙ sym (le-ltb a b g))
    (cases_lt a b)

-- what stands at the place that is found
pub find_position : (p : ℕ → Bool) (xs : List ℕ) → option_map (λ i. get_or xs i 0) (position p xs) ≡ find p xs
find_position p [] = refl
find_position p (x ∷ xs) = by_case (find_position p xs) (p x)
  where
    n : ℕ
    n = position_or_len p xs

    inside : (b : Bool) → option_map (λ i. get_or (x ∷ xs) i 0) (cond b (Some (suc n)) None) ≡ option_map (λ i. get_or xs i 0) (cond b (Some n) None)
    inside true = refl
    inside false = refl

    by_case : option_map (λ i. get_or xs i 0) (cond (nat_lt n (length xs)) (Some n) None) ≡ find p xs → (b : Bool) → option_map (λ i. get_or (x ∷ xs) i 0) (cond (nat_lt (cond (not b) (1 + n) 0) (suc (length xs))) (Some (cond (not b) (1 + n) 0)) None) ≡ cond b (Some x) (find p xs)
    by_case before true = ap (λ c. option_map (λ i. get_or (x ∷ xs) i 0) (cond c (Some 0) None)) (lt-ltb 0 (suc (length xs)) (omega arith))
    by_case before false =
        let more : 1 + n ≡ suc n = omega arith in
        rw more (ap (λ c. option_map (λ i. get_or (x ∷ xs) i 0) (cond c (Some (suc n)) None)) (lt_suc n (length xs)) ∙ inside (nat_lt n (length xs)) ∙ before)

-- the place of the first element that passes
pub position_finds : {A : Type 0} (q : A → Bool) (ls : List A) (d : A) → position q ls ≡ find (λ s. q (get_or ls s d)) (range_with_len 0 (length ls))
position_finds q ls d =
    ap (position q) (fill_by_all (λ s. get_or ls s d) ls (length ls) d refl (λ k l. refl))
    ∙ position_map q (λ s. get_or ls s d) (range_with_len 0 (length ls))
    ∙ sym (by_place (position t (range_with_len 0 (length ls))) refl)
    ∙ find_position t (range_with_len 0 (length ls))
  where
    t : ℕ → Bool
    t s = q (get_or ls s d)

    by_place : (o : Option ℕ) → position t (range_with_len 0 (length ls)) ≡ o → option_map (λ i. get_or (range_with_len 0 (length ls)) i 0) o ≡ o
    by_place None e = refl
    by_place (Some i) e =
        let there : i < length (range_with_len 0 (length ls)) = (position-Some t (range_with_len 0 (length ls)) i 0 e).0 in
        ap Some (get_or-range_with_len 0 (length ls) i 0 (omega (arith, length-range_with_len 0 (length ls))) ∙ (let is : 0 + i ≡ i = omega arith in is))

-- ---- all but one

-- each stands where the places begin, or later
pub filter_above : (t : ℕ → Bool) (a n i : ℕ) → i < length (filter t (range_with_len a n)) → a ≤ get_or (filter t (range_with_len a n)) i 0
filter_above t a zero i l = absurd (omega arith)
filter_above t a (suc n) i l = by_case (λ j m. filter_above t (a + 1) n j m) (t a) i l
  where
    by_case : ((j : ℕ) → j < length (filter t (range_with_len (a + 1) n)) → a + 1 ≤ get_or (filter t (range_with_len (a + 1) n)) j 0) → (b : Bool) (i : ℕ) → i < length (cond b (a ∷ filter t (range_with_len (a + 1) n)) (filter t (range_with_len (a + 1) n))) → a ≤ get_or (cond b (a ∷ filter t (range_with_len (a + 1) n)) (filter t (range_with_len (a + 1) n))) i 0
    by_case ih true zero l = omega arith
    by_case ih true (suc i) l = omega (arith, ih i (omega arith))
    by_case ih false i l = omega (arith, ih i l)

-- those that pass but for the one at a place
pub filter_without : (t : ℕ → Bool) (k a n i : ℕ) → i < length (filter t (range_with_len a n)) → get_or (filter t (range_with_len a n)) i 0 ≡ k → filter (λ s. t s && not (nat_eq k s)) (range_with_len a n) ≡ without i (filter t (range_with_len a n))
filter_without t k a zero i l e = absurd (omega arith)
filter_without t k a (suc n) i l e = by_case (λ j m q. filter_without t k (a + 1) n j m q) (t a) i l e
  where
    rest : List ℕ
    rest = filter t (range_with_len (a + 1) n)

    kept : List ℕ
    kept = filter (λ s. t s && not (nat_eq k s)) (range_with_len (a + 1) n)

    by_case : ((j : ℕ) → j < length rest → get_or rest j 0 ≡ k → kept ≡ without j rest) → (b : Bool) (i : ℕ) → i < length (cond b (a ∷ rest) rest) → get_or (cond b (a ∷ rest) rest) i 0 ≡ k → cond (b && not (nat_eq k a)) (a ∷ kept) kept ≡ without i (cond b (a ∷ rest) rest)
    by_case ih true zero l e =
        ap (λ c. cond (not c) (a ∷ kept) kept) (ap (λ j. nat_eq j a) (sym e) ∙ nat_eq-same a)
        ∙ filter_agree (λ s. t s && not (nat_eq k s)) t (a + 1) n (λ s l m. ap (λ c. t s && not c) (nat_eq-not k s (λ (same : k ≡ s). omega arith)) ∙ and-true (t s))
    by_case ih true (suc i) l e =
        let there : i < length rest = omega arith in
        let apart : k ≢ a = λ (same : k ≡ a). omega (arith, filter_above t (a + 1) n i there) in
        let more : suc i + 1 ≡ suc (i + 1) = omega arith in
        rw (nat_eq-not k a apart, more) (ap (λ xs. a ∷ xs) (ih i there e))
    by_case ih false i l e = ih i l e
