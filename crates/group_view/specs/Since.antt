-- The views of a group by version, and since when a left neighbour has been it.
use Rattle.std.specs.Prelude.{◌≡◌, ℕ, ◌≤◌, true, List, [], ◌∷◌, length, slice_index_or, None}
use Rattle.group_view.specs.Ring.{is_in}
use Rattle.group_view.specs.View.{Group, ids, entry_in, left_of}

-- nobody
abbrev pub no_group : Group
no_group = record { version = 0; entries = []; master = None; term = 0; next_id = 1 }

-- the view of a version: the list begins with version 1, and version 0 has nobody
abbrev pub view_at : List Group → ℕ → Group
view_at views v = slice_index_or (no_group ∷ views) v no_group

-- the left neighbour in the view of a version
unfoldable pub left_at : List Group → ℕ → ℕ → ℕ
left_at views v y = left_of (view_at views v).entries y

-- the left neighbour of y is s in each view from one version up to another; nothing is asked where the first is above the other
abbrev pub KeepsLeft : List Group → ℕ → ℕ → ℕ → ℕ → Type 0
KeepsLeft views y s opened v = (u : ℕ) → opened ≤ u → u ≤ v → left_at views u y ≡ s

-- u is the least version up to v such that y's left neighbour is the same in every view from u up to v
pub record IsSince (views : List Group) (y v u : ℕ) : Type 0 where
  pub first : 1 ≤ u
  pub upto : u ≤ v
  pub same : KeepsLeft views y (left_at views v y) u v
  pub least : (w : ℕ) → 1 ≤ w → KeepsLeft views y (left_at views v y) w v → u ≤ w

-- what the entry of y in the view of a version has as `since`
abbrev pub since_at : List Group → ℕ → ℕ → ℕ
since_at views v y = (entry_in (view_at views v).entries y).since

-- in each view each entry has just the version from which its left neighbour has been it
abbrev pub KeepsSince : List Group → Type 0
KeepsSince views = (v y : ℕ) → 1 ≤ v → v ≤ length views → is_in y (ids (view_at views v).entries) ≡ true → IsSince views y v (since_at views v y)
