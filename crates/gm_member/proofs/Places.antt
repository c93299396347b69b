-- Lists that are tabled over places.
use Rattle.std.proofs.Common.{◌≡◌, ◌≢◌, ℕ, zero, suc, ◌+◌, ◌-◌, ◌<◌, ◌≤◌, ◌&&◌, Bool, true, map, get_or, set, refl, sym, ap, ◌∙◌, subst, arith}
use Rattle.std.specs.List.{range_with_len, list_all}
use Rattle.std.proofs.lemmas.List.{length-set}
use Rattle.std.proofs.lemmas.List.FromFn.{fill_by_all, get_or-map-range_with_len, length-map-range_with_len}
use Rattle.ring_rules.proofs.rings.Writes.{at_set}
pub use Rattle.ring_rules.proofs.rings.Maps.{map-range_same_from, map-range_same}

-- what passes each test past n passes all where it passes those below n
pub all-range_longer_from : (p : ℕ → Bool) (a n d : ℕ) → ((k : ℕ) → a + n ≤ k → p k ≡ true) → list_all p (range_with_len a (n + d)) ≡ list_all p (range_with_len a n)
all-range_longer_from p a zero zero h = refl
all-range_longer_from p a zero (suc d) h =
    let e : zero + suc d ≡ suc d = omega arith in
    rw e (ap (λ x. x && list_all p (range_with_len (a + 1) d)) (h a (omega arith)) ∙ sym (ap (λ m. list_all p (range_with_len (a + 1) m)) (omega arith)) ∙ all-range_longer_from p (a + 1) zero d (λ k l. h k (omega arith)))
all-range_longer_from p a (suc n) d h =
    let e : suc n + d ≡ suc (n + d) = omega arith in
    rw e (ap (λ x. p a && x) (all-range_longer_from p (a + 1) n d (λ k l. h k (omega arith))))

pub all-range_longer : (p : ℕ → Bool) (n m : ℕ) → n ≤ m → ((k : ℕ) → n ≤ k → p k ≡ true) → list_all p (range_with_len 0 m) ≡ list_all p (range_with_len 0 n)
all-range_longer p n m l h =
    let e : n + (m - n) ≡ m = omega arith in
    subst (λ j. list_all p (range_with_len 0 j) ≡ list_all p (range_with_len 0 n)) e (all-range_longer_from p 0 n (m - n) (λ k le. h k (omega arith)))

pub tabled_at : {A : Type 0} (f : ℕ → A) (n p : ℕ) (d : A) → p < n → get_or (map f (range_with_len 0 n)) p d ≡ f p
tabled_at f n p d l = get_or-map-range_with_len f 0 n p p d l (omega arith)

-- a write of a tabled list, by what the new table holds
pub tabled_set : {A : Type 0} (f g : ℕ → A) (n i : ℕ) (y d : A) → i < n → y ≡ g i → ((k : ℕ) → k < n → k ≢ i → f k ≡ g k) → set (map f (range_with_len 0 n)) i y ≡ map g (range_with_len 0 n)
tabled_set f g n i y d l here other =
    fill_by_all g (set (map f (range_with_len 0 n)) i y) n d (length-set (map f (range_with_len 0 n)) i y ∙ length-map-range_with_len f 0 n)
    (λ k kl. at_set (λ j r. j < n → r ≡ g j) (map f (range_with_len 0 n)) i k y d (omega (arith, length-map-range_with_len f 0 n)) (λ _. here) (λ ne jl. tabled_at f n k d jl ∙ other k jl ne) kl)
