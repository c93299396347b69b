-- Lists that are written.
use Rattle.std.proofs.Common.{◌≡◌, ℕ, zero, suc, ◌<◌, ◌≤◌, ◌+◌, List, [], ◌∷◌, ◌++◌, length, map, get_or, refl, sym, subst, arith, ⊎_elim}
use Rattle.std.proofs.lemmas.Bool.{cases_lt}
use Rattle.std.proofs.lemmas.List.{get_or_append_left, get_or_push}
pub use Rattle.std.proofs.lemmas.List.{set_past as set_nothing, get_or_past as get_or_beyond}
pub use Rattle.ring_rules.proofs.rings.Writes.{at_set}

pub at_push : {A : Type 0} (P : ℕ → A → Type 0) (xs : List A) (q : ℕ) (y d : A) → q < length xs + 1 → P (length xs) y → (q < length xs → P q (get_or xs q d)) → P q (get_or (xs ++ y ∷ []) q d)
at_push P xs q y d l here other =
    ⊎_elim
    (λ (lt : q < length xs). subst (P q) (sym (get_or_append_left xs (y ∷ []) d q lt)) (other lt))
    (λ (ge : length xs ≤ q).
    let same : length xs ≡ q = omega arith in
    subst (P q) (sym (get_or_push xs y d q same)) (subst (λ k. P k y) same here))
    (cases_lt q (length xs))

-- a look-up through a map that keeps the default
pub get_or-mapped : {A B : Type 0} (f : A → B) (xs : List A) (p : ℕ) (d : A) (e : B) → f d ≡ e → get_or (map f xs) p e ≡ f (get_or xs p d)
get_or-mapped f [] p d e h = sym h
get_or-mapped f (x ∷ xs) zero d e h = refl
get_or-mapped f (x ∷ xs) (suc p) d e h = get_or-mapped f xs p d e h
