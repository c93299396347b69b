-- What group_view says of entries, said of a view, and of a state's views by version.
use Rattle.std.specs.Prelude.{ℕ, Bool, List, slice_index_or}
use Rattle.group_view.specs.View.{Group}
use Rattle.group_view.specs.View as group
use Rattle.group_view.specs.Since.{no_group}

-- the ids of a view in ring order
abbrev pub ids : Group → List ℕ
ids v = group.ids v.entries

-- whether the entry of an id is live
abbrev pub is_live : Group → ℕ → Bool
is_live v p = group.is_live v.entries p

-- who stands strictly between s and p, going right from s
abbrev pub between : Group → ℕ → ℕ → List ℕ
between v s p = group.between v.entries s p

-- the neighbour of an entry, going left
abbrev pub left_of : Group → ℕ → ℕ
left_of v p = group.left_of v.entries p

-- going right
abbrev pub right_of : Group → ℕ → ℕ
right_of v p = group.right_of v.entries p

-- the same in the view of a version, which are counted from 0 on; in version 0 is nobody
unfoldable pub left_by : List Group → ℕ → ℕ → ℕ
left_by vs v y = left_of (slice_index_or vs v no_group) y

-- going right
unfoldable pub right_by : List Group → ℕ → ℕ → ℕ
right_by vs v y = right_of (slice_index_or vs v no_group) y
