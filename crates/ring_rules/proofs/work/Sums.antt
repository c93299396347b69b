-- Sums below two numbers that are equal, or one apart.
use Rattle.std.proofs.Common.{◌≡◌, ◌≢◌, ℕ, zero, suc, ◌+◌, ◌-◌, ◌<◌, ◌≤◌, ◌&&◌, Bool, true, false, refl, sym, subst, ⊎_elim, arith}
use Rattle.std.specs.List.{range_with_len, list_all}
use Rattle.std.proofs.lemmas.Bool.{cases_eq, false≢true}
use Rattle.ring_rules.specs.Work.{sum_below}

-- where each term is at most the other, so is the sum
sum_below-le : (n : ℕ) (f g : ℕ → ℕ) → ((k : ℕ) → k < n → g k ≤ f k) → sum_below n g ≤ sum_below n f
sum_below-le zero f g h = omega arith
sum_below-le (suc n) f g h = omega (arith, sum_below-le n f g (λ k l. h k (omega arith)), h n (omega arith))

-- and what one term falls or rises by, the sum does
sum_below-at : (n : ℕ) (f g : ℕ → ℕ) (i a b : ℕ) → i < n → ((k : ℕ) → k < n → k ≢ i → g k ≤ f k) → g i + a ≤ f i + b → sum_below n g + a ≤ sum_below n f + b
sum_below-at zero f g i a b l h here = absurd (omega arith)
sum_below-at (suc n) f g i a b l h here =
    ⊎_elim
    (λ (e : n ≡ i).
    let before : sum_below n g ≤ sum_below n f = sum_below-le n f g (λ k kl. h k (omega arith) (λ x. omega arith)) in
    let last : g n + a ≤ f n + b = subst (λ j. g j + a ≤ f j + b) (sym e) here in
    omega arith)
    (λ (ne : n ≢ i). omega (arith, sum_below-at n f g i a b (omega arith) (λ k kl x. h k (omega arith) x) here, h n (omega arith) ne))
    (cases_eq n i)

-- ---- tests

-- where not all pass, one fails
pub one_fails : (p : ℕ → Bool) (a n : ℕ) → list_all p (range_with_len a n) ≡ false → (k : ℕ) × (k < a + n) × (p k ≡ false)
one_fails p a zero e = absurd (false≢true (sym e))
one_fails p a (suc n) e =
    (elim (p a) as (λ b. p a ≡ b → (b && list_all p (range_with_len (a + 1) n)) ≡ false → (k : ℕ) × (k < a + suc n) × (p k ≡ false)) [
      | true ↦ λ x y. let r : (k : ℕ) × (k < (a + 1) + n) × (p k ≡ false) = one_fails p (a + 1) n y in (r.0, omega (arith, r.1), r.2)
      | false ↦ λ x y. (a, omega arith, x)
    ]) refl e

-- ---- sums up to the same number

-- where each term is at most the other, so is the sum
pub sum_le : (n n' : ℕ) (f g : ℕ → ℕ) → n' ≡ n → ((k : ℕ) → k < n → g k ≤ f k) → sum_below n' g ≤ sum_below n f
sum_le n n' f g e h = subst (λ m. sum_below m g ≤ sum_below n f) (sym e) (sum_below-le n f g h)

-- what one term falls or rises by, the sum does
pub sum_at : (n n' : ℕ) (f g : ℕ → ℕ) (i a b : ℕ) → n' ≡ n → i < n → ((k : ℕ) → k < n → k ≢ i → g k ≤ f k) → g i + a ≤ f i + b → sum_below n' g + a ≤ sum_below n f + b
sum_at n n' f g i a b e l h here = subst (λ m. sum_below m g + a ≤ sum_below n f + b) (sym e) (sum_below-at n f g i a b l h here)

-- of ids, which count from 1
pub sum_ids : (n n' : ℕ) (f g : ℕ → ℕ) (x a b : ℕ) → n' ≡ n → 1 ≤ x → x < n → ((q : ℕ) → q ≢ x → g q ≤ f q) → g x + a ≤ f x + b
    → sum_below (n' - 1) (λ i. g (i + 1)) + a ≤ sum_below (n - 1) (λ i. f (i + 1)) + b
sum_ids n n' f g x a b e some lt others here =
    sum_at (n - 1) (n' - 1) (λ i. f (i + 1)) (λ i. g (i + 1)) (x - 1) a b (omega arith) (omega arith)
    (λ k _ ne. others (k + 1) (λ is. ne (omega arith)))
    (let back : x ≡ x - 1 + 1 = omega arith in subst (λ q. g q + a ≤ f q + b) back here)

-- with one term more
pub sum_more : (n n' : ℕ) (f g : ℕ → ℕ) (a c : ℕ) → n' ≡ n + 1 → sum_below n g ≤ sum_below n f + a → g n ≤ c → sum_below n' g ≤ sum_below n f + (a + c)
sum_more n n' f g a c e h l =
    let next : suc n ≡ n' = omega arith in
    let all : sum_below (suc n) g ≤ sum_below n f + (a + c) = omega (arith, h, l) in
    subst (λ m. sum_below m g ≤ sum_below n f + (a + c)) next all

-- ---- ones and zeros

-- no more than there are terms
sum_ones : (n : ℕ) (f : ℕ → ℕ) → ((k : ℕ) → f k ≤ 1) → sum_below n f ≤ n
sum_ones zero f h = omega arith
sum_ones (suc n) f h = omega (arith, sum_ones n f h, h n)

-- with a zero among them
pub sum_but_one : (n : ℕ) (f : ℕ → ℕ) (i : ℕ) → i < n → ((k : ℕ) → f k ≤ 1) → f i ≡ 0 → sum_below n f + 1 ≤ n
sum_but_one zero f i l h e = absurd (omega arith)
sum_but_one (suc n) f i l h e =
    ⊎_elim
    (λ (same : n ≡ i). let here : f n ≡ 0 = subst (λ j. f j ≡ 0) (sym same) e in omega (arith, sum_ones n f h, here))
    (λ (ne : n ≢ i). omega (arith, sum_but_one n f i (omega arith) h e, h n))
    (cases_eq n i)
