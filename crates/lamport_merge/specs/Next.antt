-- What is left of logs that are merged, and what comes next.
use Rattle.std.specs.Prelude.{◌≡◌, ℕ, zero, suc, true, List, [], ◌∷◌, drop}
use Rattle.lamport_merge.specs.Merge.{Entry, Log, is_before, entries_in}

module _ {E : Type 0} where
  -- logs from these places on
  abbrev pub rests : List (Log E) → List ℕ → List (Log E)
  rests [] ns = []
  rests (l ∷ ls) [] = l ∷ ls
  rests (l ∷ ls) (n ∷ ns) = record { party = l.party; entries = drop n l.entries } ∷ rests ls ns

  -- the first of these entries, if there is one, stands behind x
  abbrev pub IsBehind : Entry E → List (Entry E) → Type 0
  IsBehind x [] = Unit {0}
  IsBehind x (e ∷ es) = is_before x e ≡ true

  -- and so does that of each log
  abbrev pub AllBehind : Entry E → List (Log E) → Type 0
  AllBehind x [] = Unit {0}
  AllBehind x (l ∷ ls) = IsBehind x (entries_in l) × AllBehind x ls

  -- no log has an entry
  abbrev pub NothingIsLeft : List (Log E) → Type 0
  NothingIsLeft [] = Unit {0}
  NothingIsLeft (l ∷ ls) = (l.entries ≡ []) × NothingIsLeft ls

  -- x is the first entry of the log at a place, and stands before the first ones of all others
  abbrev pub IsFirstAt : ℕ → Entry E → List (Log E) → Type 0
  IsFirstAt i x [] = ⊥
  IsFirstAt zero x (l ∷ ls) = (rest : List (ℕ × E)) × (l.entries ≡ (x.time, x.event) ∷ rest) × (l.party ≡ x.party) × AllBehind x ls
  IsFirstAt (suc i) x (l ∷ ls) = IsBehind x (entries_in l) × IsFirstAt i x ls

  -- the log at a place without its first entry
  abbrev pub dropped : ℕ → List (Log E) → List (Log E)
  dropped i [] = []
  dropped zero (l ∷ ls) = record { party = l.party; entries = drop 1 l.entries } ∷ ls
  dropped (suc i) (l ∷ ls) = l ∷ dropped i ls
