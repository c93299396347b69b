-- The opening, of the structs.
use Rattle.std.proofs.Common.{◌≡◌, ℕ, suc, ◌<◌, true, List, [], ◌∷◌, length, get_or, refl, ap, ◌∙◌, arith}
use Rattle.group_view.specs.Ring.{is_in}
use Rattle.group_view.specs.View.{Group}
use Rattle.group_view.specs.Change.{opening as opening_group}
use Rattle.ring_rules.specs.View.{ids}
use Rattle.ring_rules.proofs.invariants.Opening.{opening_ids, in_range}

-- each member stands in the first view
pub opening_stands : (names : List (List ℕ)) (v : Group) (i : ℕ) → v ≡ opening_group names → i < length names → is_in (suc i) (ids v) ≡ true
opening_stands names v i e l = ap (λ g. is_in (suc i) (ids g)) e ∙ ap (is_in (suc i)) (opening_ids 1 names) ∙ in_range 1 (length names) (suc i) (omega arith) (omega arith)

pub name_at : (names : List (List ℕ)) (i : ℕ) → get_or ([] ∷ names) (suc i) [] ≡ get_or names i []
name_at names i = refl
