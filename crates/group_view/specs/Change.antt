-- How a group opens, and how it changes.
use Rattle.std.specs.Prelude.{◌≡◌, ◌<◌, ◌≤◌, ℕ, ◌+◌, Bool, true, false, not, cond, nat_le, is_some, ◌++◌, if◌then◌else◌, nat_eq, List, [], ◌∷◌, length, map, slice_index_or, Option, Some, None, Result, Ok, Err}
use Rattle.ring_names.specs.declared.reason.Reason.{Reason}
use Rattle.ring_names.specs.declared.reason.Reason.TheVariants.{UnknownMember, AlreadyDead, NotDead, AlreadySynced, NameTaken, TooManyMembers}
use Rattle.group_view.specs.declared.entry.Entry.{Entry}
use Rattle.group_view.specs.declared.entry.Mark.{Mark}
use Rattle.group_view.specs.declared.entry.Mark.TheVariants.{Live, Dead, Erased}
use Rattle.group_view.specs.declared.fault.ViewFault.{ViewFault}
use Rattle.group_view.specs.declared.fault.ViewFault.TheVariants as faults
use Rattle.group_view.specs.Ring.{is_in}
use Rattle.group_view.specs.View.{Group, as_id, ids, entry_in, is_live, is_dead, left_of, id_named}

-- ---- the opening

-- no name stands twice
abbrev pub AreDifferent : List (List ℕ) → Type 0
AreDifferent names = (j k : ℕ) → j < length names → k < length names → slice_index_or names j [] ≡ slice_index_or names k [] → j ≡ k

-- how many entries a view ever has
abbrev pub most_entries : ℕ
most_entries = 64

-- the names with which a group opens: 1 to 64 different ones
pub record AreOpeningNames (names : List (List ℕ)) : Type 0 where
  pub some : 0 < length names
  pub few : length names ≤ most_entries
  pub different : AreDifferent names

-- an entry of the opening
abbrev pub opening_entry : ℕ → List ℕ → Entry
opening_entry id name = record { id = as_id id; name = name; mark = Live; synced = true; joined = 1; since = 1 }

-- the entries of these names, with ids from n on
abbrev pub opening_entries : ℕ → List (List ℕ) → List Entry
opening_entries n [] = []
opening_entries n (name ∷ names) = opening_entry n name ∷ opening_entries (n + 1) names

-- the first view: all live and synchronised, and the first is the master of the first term
abbrev pub opening : List (List ℕ) → Group
opening names = record { version = 1; entries = opening_entries 1 names; master = Some (as_id 1); term = 1; next_id = length names + 1 }

-- ---- the next version

-- an entry of the next version: where its left neighbour is another than before, it has had it since this version
abbrev pub dated : ℕ → List Entry → List Entry → Entry → Entry
dated version old new e = if nat_eq (left_of old e.id.0) (left_of new e.id.0) then e else record e { since = version }

-- the next version of a group, with these entries
abbrev pub next : Group → List Entry → Group
next g new = record g { version = g.version + 1; entries = map (dated (g.version + 1) g.entries new) new }

-- ---- marks

-- an entry, with this mark where it is p's
abbrev pub with_mark : Mark → ℕ → Entry → Entry
with_mark mark p e = if nat_eq e.id.0 p then record e { mark = mark } else e

-- the group after p's entry got a mark
abbrev pub remarked : Mark → Group → ℕ → Group
remarked mark g p = next g (map (with_mark mark p) g.entries)

-- the group after p was marked dead
abbrev pub marked : Group → ℕ → Group
marked g p = remarked Dead g p

-- the group after p was erased
abbrev pub erased : Group → ℕ → Group
erased g p = remarked Erased g p

-- ---- registrations

-- an entry, registered as synchronised where it is p's
abbrev pub with_synced : ℕ → Entry → Entry
with_synced p e = if nat_eq e.id.0 p then record e { synced = true } else e

-- the group after p was registered as synchronised
abbrev pub registered : Group → ℕ → Group
registered g p = next g (map (with_synced p) g.entries)

-- why p can't be registered: nobody has that id, or the entry is dead or erased, or it is registered already
abbrev pub sync_refusal : List Entry → ℕ → Option Reason
sync_refusal entries p =
    if not (is_in p (ids entries)) then Some UnknownMember
    else (if not (is_live entries p) then Some AlreadyDead
    else (if (entry_in entries p).synced then Some AlreadySynced
    else None))

-- why p can't be marked dead: nobody has that id, or the entry is dead or erased already
abbrev pub mark_refusal : List Entry → ℕ → Option Reason
mark_refusal entries p =
    if not (is_in p (ids entries)) then Some UnknownMember
    else (if not (is_live entries p) then Some AlreadyDead
    else None)

-- why p can't be erased: nobody has that id, or the entry is live or erased already
abbrev pub erase_refusal : List Entry → ℕ → Option Reason
erase_refusal entries p =
    if not (is_in p (ids entries)) then Some UnknownMember
    else (if not (is_dead entries p) then Some NotDead
    else None)

-- ---- admissions

-- an entry that comes: it is live, and isn't registered as synchronised
abbrev pub new_entry : ℕ → List ℕ → ℕ → Entry
new_entry id name version = record { id = as_id id; name = name; mark = Live; synced = false; joined = version; since = version }

-- the entries, with one more directly right of m's
abbrev pub with_entry : ℕ → Entry → List Entry → List Entry
with_entry m n [] = []
with_entry m n (e ∷ es) = e ∷ (cond (nat_eq e.id.0 m) (n ∷ []) [] ++ with_entry m n es)

-- the group after m has admitted one of this name
abbrev pub admitted : Group → ℕ → List ℕ → Group
admitted g m name = record (next g (with_entry m (new_entry g.next_id name (g.version + 1)) g.entries)) { next_id = g.next_id + 1 }

-- whether an entry, of any mark, has this name
abbrev pub is_taken : List Entry → List ℕ → Bool
is_taken entries name = is_some (id_named entries name)

-- why m can't admit one of this name: nobody has m's id, or it doesn't live, an entry has the name, or there are as many as there may be
abbrev pub admit_refusal : List Entry → ℕ → List ℕ → Option Reason
admit_refusal entries m name =
    if not (is_in m (ids entries)) then Some UnknownMember
    else (if not (is_live entries m) then Some AlreadyDead
    else (if is_taken entries name then Some NameTaken
    else (if nat_le most_entries (length entries) then Some TooManyMembers
    else None)))

-- what is answered of the first failing condition
abbrev pub answer_of : Option Reason → Result (Unit {0}) Reason
answer_of None = Ok tt
answer_of (Some reason) = Err reason

-- what a call answers that doesn't: by the first failing condition and, where none fails, for want of memory
abbrev pub IsFault : Option Reason → ViewFault → Type 0
IsFault None fault = fault ≡ faults.OutOfMemory
IsFault (Some reason) fault = fault ≡ faults.Refused reason

-- ---- changes and the views that they make

-- what changes a group: an entry is marked dead, a dead one is erased, one is admitted, or one is registered as synchronised
pub data Change : Type 0 where
  Marks : ℕ → Change
  Erases : ℕ → Change
  Admits : ℕ → List ℕ → Change
  Syncs : ℕ → Change

-- the first failing condition of a change
abbrev pub refusal : Group → Change → Option Reason
refusal g (Marks p) = mark_refusal g.entries p
refusal g (Erases p) = erase_refusal g.entries p
refusal g (Admits m name) = admit_refusal g.entries m name
refusal g (Syncs p) = sync_refusal g.entries p

-- the group after it
abbrev pub changed : Group → Change → Group
changed g (Marks p) = marked g p
changed g (Erases p) = erased g p
changed g (Admits m name) = admitted g m name
changed g (Syncs p) = registered g p

-- each change may happen after the earlier ones
abbrev pub AreChanges : Group → List Change → Type 0
AreChanges g [] = Unit {0}
AreChanges g (c ∷ cs) = (refusal g c ≡ None) × AreChanges (changed g c) cs

-- the group and what each change makes of it, the oldest first
abbrev pub views_from : Group → List Change → List Group
views_from g [] = g ∷ []
views_from g (c ∷ cs) = g ∷ views_from (changed g c) cs
