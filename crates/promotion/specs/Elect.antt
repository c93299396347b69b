-- Who becomes the master once the earlier one is erased.
use Rattle.std.specs.Prelude.{ℕ, ◌+◌, ◌≤◌, ◌<◌, ◌≡◌, Bool, true, false, cond, ◌&&◌, min, length, slice_index_or, List, [], ◌∷◌, Option, Some, None, option_map}
use Rattle.std.specs.List.{filter}
use Rattle.ring_names.specs.declared.numbers.MemberId.{MemberId}
use Rattle.group_view.specs.declared.entry.Entry.{Entry}
use Rattle.group_view.specs.Ring.{is_in}
use Rattle.group_view.specs.View.{Group, as_id, ids, entry_in, is_live, is_live_mark, stands_in}

-- whether an entry may become the master: it is live, and registered as synchronised
abbrev pub may_lead : Entry → Bool
may_lead e = is_live_mark e.mark && e.synced

-- the least of a list and of what came before it
abbrev pub least_of : ℕ → List ℕ → ℕ
least_of d [] = d
least_of d (x ∷ xs) = least_of (min d x) xs

-- the least of a list
abbrev pub least : List ℕ → Option ℕ
least [] = None
least (x ∷ xs) = Some (least_of x xs)

-- the lesser of what was found and of one more
abbrev pub lesser : Option ℕ → ℕ → ℕ
lesser None n = n
lesser (Some m) n = min m n

-- the one of least id that may become the master, or none
abbrev pub elected : List Entry → Option MemberId
elected entries = option_map as_id (least (ids (filter may_lead entries)))

-- the term after an election: one more where somebody was elected
abbrev pub term_after : Option MemberId → ℕ → ℕ
term_after None term = term
term_after (Some id) term = term + 1

-- where no master stands, the one that is elected becomes it, in the next term
abbrev pub installed : Group → Group
installed g = record g {
  master = cond (stands_in g.entries g.master) g.master (elected g.entries);
  term = cond (stands_in g.entries g.master) g.term (term_after (elected g.entries) g.term);
}

-- ---- the laws

-- n may lead, and none of those that may has a lesser id
pub record IsLeast (entries : List Entry) (n : ℕ) : Type 0 where
  pub there : is_in n (ids (filter may_lead entries)) ≡ true
  pub least : (k : ℕ) (d : Entry) → k < length entries → may_lead (slice_index_or entries k d) ≡ true → n ≤ (slice_index_or entries k d).id.0

-- it is the least of those that may lead, and nobody exactly where none may
abbrev pub IsElected : List Entry → Option MemberId → Type 0
IsElected entries None = (k : ℕ) (d : Entry) → k < length entries → may_lead (slice_index_or entries k d) ≡ false
IsElected entries (Some id) = IsLeast entries id.0

-- the entry of n lives, and is registered as synchronised
pub record IsLeader (entries : List Entry) (n : ℕ) : Type 0 where
  pub lives : is_live entries n ≡ true
  pub enrolled : (entry_in entries n).synced ≡ true
