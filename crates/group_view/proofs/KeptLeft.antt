-- `since`, and the same left neighbour in all versions from one up to another: they say one thing.
use Rattle.std.proofs.Common.{◌≡◌, ℕ, ◌≤◌, List, sym, ◌∙◌, arith}
use Rattle.std.specs.Prelude.{◌↔◌}
use Rattle.group_view.specs.View.{Group}
use Rattle.group_view.specs.Since.{left_at, KeepsLeft, IsSince}

-- there is one such version
pub since_unique : (views : List Group) (y v u w : ℕ) → IsSince views y v u → IsSince views y v w → u ≡ w
since_unique views y v u w a b = let less : u ≤ w = a.least w b.first b.same in let more : w ≤ u = b.least u a.first a.same in omega arith

-- the same neighbour up to a later version is the same up to an earlier one
pub keeps_less : (views : List Group) (y s opened u v : ℕ) → u ≤ v → KeepsLeft views y s opened v → KeepsLeft views y s opened u
keeps_less views y s opened u v l h = λ k a b. h k a (omega arith)

-- and from a later version on
pub keeps_later : (views : List Group) (y s opened from v : ℕ) → opened ≤ from → KeepsLeft views y s opened v → KeepsLeft views y s from v
keeps_later views y s opened from v l h = λ k a b. h k (omega arith) b

-- s has been the left neighbour since before a version exactly where it has been it in each view from then on
pub keeps_since : (views : List Group) (y v u s opened : ℕ) → IsSince views y v u → u ≤ opened → left_at views v y ≡ s → KeepsLeft views y s opened v
keeps_since views y v u s opened h l e = λ k a b. h.same k (omega arith) b ∙ e

pub since_keeps : (views : List Group) (y v u s opened : ℕ) → IsSince views y v u → 1 ≤ opened → opened ≤ v → KeepsLeft views y s opened v → (u ≤ opened) × (left_at views v y ≡ s)
since_keeps views y v u s opened h pos l k =
    let now : left_at views v y ≡ s = k v l (omega arith) in
    (h.least opened pos (λ j a b. k j a b ∙ sym now), now)

pub since_is_keeping : (views : List Group) (y v u s opened : ℕ) → IsSince views y v u → 1 ≤ opened → opened ≤ v → ((u ≤ opened) × (left_at views v y ≡ s)) ↔ KeepsLeft views y s opened v
since_is_keeping views y v u s opened h pos l = (λ p. keeps_since views y v u s opened h p.0 p.1, λ k. since_keeps views y v u s opened h pos l k)
