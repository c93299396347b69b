-- What holds after one element of a list is written.
use Rattle.std.proofs.Common.{◌≡◌, ◌≢◌, ℕ, ◌<◌, List, length, get_or, set, sym, subst, ⊎_elim}
use Rattle.std.proofs.lemmas.Bool.{cases_eq}
use Rattle.std.proofs.lemmas.List.{get_or-set_same, get_or-set_other}

-- what holds of the written element at its place, and of the old ones elsewhere, holds of each after the write
pub at_set : {A : Type 0} (P : ℕ → A → Type 0) (xs : List A) (i q : ℕ) (y d : A) → i < length xs → P i y → (q ≢ i → P q (get_or xs q d)) → P q (get_or (set xs i y) q d)
at_set P xs i q y d l here other =
    ⊎_elim
    (λ (same : q ≡ i). subst (λ k. P k (get_or (set xs i y) k d)) (sym same) (subst (P i) (sym (get_or-set_same xs i y d l)) here))
    (λ (ne : q ≢ i). subst (P q) (sym (get_or-set_other xs i q y d ne)) (other ne))
    (cases_eq q i)
