-- What a view says: who is whose neighbour, who owns whom, who stands between.
use Rattle.std.specs.Prelude.{ℕ, Bool, true, false, cond, not, ◌&&◌, nat_eq, bytes_eq, List, [], ◌∷◌, map, reverse, Option, Some, None, option_map}
use Rattle.std.specs.List.{filter, find}
use Rattle.ring_names.specs.declared.numbers.MemberId.{MemberId}
use Rattle.group_view.specs.declared.entry.Entry.{Entry}
use Rattle.group_view.specs.declared.entry.Mark.{Mark}
use Rattle.group_view.specs.declared.entry.Mark.TheVariants.{Live, Dead, Erased}
use Rattle.group_view.specs.Ring.{is_in, before, others, rotated, first, left_in, right_in}

-- The group as one version of it stands: its entries in ring order, going right, the master and the number of its term,
-- and the id that the next entry gets.
pub record Group : Type 0 where
  pub version : ℕ
  pub entries : List Entry
  pub master : Option MemberId
  pub term : ℕ
  pub next_id : ℕ

-- a number as an id
abbrev pub as_id : ℕ → MemberId
as_id n = record { 0 = n }

-- the number of an id
abbrev pub number : MemberId → ℕ
number id = id.0

-- the ids in ring order
abbrev pub ids : List Entry → List ℕ
ids entries = map (λ e. e.id.0) entries

-- what stands for an id that has no entry: nobody who lives
abbrev pub no_entry : Entry
no_entry = record { id = as_id 0; name = []; mark = Erased; synced = false; joined = 0; since = 0 }

-- the entry of an id
abbrev pub entry_in : List Entry → ℕ → Entry
entry_in [] p = no_entry
entry_in (e ∷ es) p = cond (nat_eq e.id.0 p) e (entry_in es p)

-- whether the mark is Live
abbrev pub is_live_mark : Mark → Bool
is_live_mark Live = true
is_live_mark Dead = false
is_live_mark Erased = false

-- whether it is Dead
abbrev pub is_dead_mark : Mark → Bool
is_dead_mark Live = false
is_dead_mark Dead = true
is_dead_mark Erased = false

-- whether it is Erased
abbrev pub is_erased_mark : Mark → Bool
is_erased_mark Live = false
is_erased_mark Dead = false
is_erased_mark Erased = true

-- whether the entry of an id is live
abbrev pub is_live : List Entry → ℕ → Bool
is_live entries p = is_live_mark (entry_in entries p).mark

-- whether it is dead
abbrev pub is_dead : List Entry → ℕ → Bool
is_dead entries p = is_dead_mark (entry_in entries p).mark

-- whether it is erased
abbrev pub is_erased : List Entry → ℕ → Bool
is_erased entries p = is_erased_mark (entry_in entries p).mark

-- whether a master stands: there is one, and it isn't erased
abbrev pub stands_in : List Entry → Option MemberId → Bool
stands_in entries None = false
stands_in entries (Some id) = not (is_erased entries id.0)

-- The left neighbour of an entry of any mark: the nearest live one of the others, going left. A sole live entry is its own
-- neighbour, and where nobody lives each is. An id without an entry is its own neighbour too.
abbrev pub left_of : List Entry → ℕ → ℕ
left_of entries p = cond (is_in p (ids entries)) (left_in (is_live entries) p (ids entries)) p

-- the right neighbour likewise
abbrev pub right_of : List Entry → ℕ → ℕ
right_of entries p = cond (is_in p (ids entries)) (right_in (is_live entries) p (ids entries)) p

-- those strictly between, going right from s to y; with s = y all the others
abbrev pub between : List Entry → ℕ → ℕ → List ℕ
between entries s y = before y (others s (ids entries))

-- whether x is one of them
abbrev pub is_between : List Entry → ℕ → ℕ → ℕ → Bool
is_between entries s x y = is_in x (between entries s y)

-- who answers for an entry: the first live one from it rightwards, itself included
abbrev pub owner_of : List Entry → ℕ → Option ℕ
owner_of entries p = first (filter (is_live entries) (rotated p (ids entries)))

-- whether what was found is y
abbrev pub found_is : Option ℕ → ℕ → Bool
found_is None y = false
found_is (Some x) y = nat_eq x y

-- whether y is the owner of p
abbrev pub owns : List Entry → ℕ → ℕ → Bool
owns entries y p = found_is (owner_of entries p) y

-- whether y answers for a dead p
abbrev pub is_alias : List Entry → ℕ → ℕ → Bool
is_alias entries y p = is_dead entries p && owns entries y p

-- the dead entries for which y answers, going left from y
abbrev pub aliases_of : List Entry → ℕ → List ℕ
aliases_of entries y = filter (is_alias entries y) (reverse (others y (ids entries)))

-- the id of the entry of that name
abbrev pub id_named : List Entry → List ℕ → Option MemberId
id_named entries name = option_map (λ e. e.id) (find (λ e. bytes_eq e.name name) entries)
