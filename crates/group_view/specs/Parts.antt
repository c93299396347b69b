-- Parts of a list of entries, for the functions that go over them.
use Rattle.std.specs.Prelude.{◌≡◌, ℕ, Bool, true, false, nat_eq, List, [], ◌∷◌, Option, Some, None, cond, if◌then◌else◌}
use Rattle.std.specs.List.{filter, position_or_len}
use Rattle.group_view.specs.declared.entry.Entry.{Entry}
use Rattle.group_view.specs.declared.entry.Mark.{Mark}
use Rattle.group_view.specs.Ring.{last_or}
use Rattle.group_view.specs.View.{ids, entry_in, is_live_mark, left_of}

-- the place of the entry of an id, or the number of entries where there is none
abbrev pub place_of : List Entry → ℕ → ℕ
place_of entries p = position_or_len (λ e. nat_eq e.id.0 p) entries

-- the ids of the live ones
abbrev pub live_ids : List Entry → List ℕ
live_ids entries = ids (filter (λ e. is_live_mark e.mark) entries)

-- the last, where there is one
abbrev pub last : List ℕ → Option ℕ
last [] = None
last (x ∷ xs) = Some (last_or x xs)

-- whether x comes before y: nothing where neither comes
abbrev pub comes_before : ℕ → ℕ → List ℕ → Option Bool
comes_before x y [] = None
comes_before x y (z ∷ zs) = cond (nat_eq z y) (Some false) (cond (nat_eq z x) (Some true) (comes_before x y zs))

-- the mark of the entry of an id, where there is one
abbrev pub mark_in : List Entry → ℕ → Option Mark
mark_in [] p = None
mark_in (e ∷ es) p = cond (nat_eq e.id.0 p) (Some e.mark) (mark_in es p)

-- an entry, with this version as `since` where it is another than d and has d for its left neighbour
abbrev pub dated_right_of : ℕ → ℕ → List Entry → Entry → Entry
dated_right_of d version entries e =
    if nat_eq e.id.0 d then e
    else (if nat_eq (left_of entries e.id.0) d then record e { since = version }
    else e)

-- each entry of a part is what its id stands for in the whole
abbrev pub AreFound : List Entry → List Entry → Type 0
AreFound entries [] = Unit {0}
AreFound entries (e ∷ es) = (entry_in entries e.id.0 ≡ e) × AreFound entries es
