-- The logs of the parties of a round, and their merge.
use Rattle.std.specs.Prelude.{◌≡◌, ◌≢◌, ℕ, ◌<◌, ◌≤◌, Bool, cond, ◌&&◌, ◌||◌, nat_lt, nat_eq, List, [], ◌∷◌, map}
use Rattle.std.specs.List.{flat_map}

-- An entry of a log: when it happened by the clock of its party, whose it is, and what happened.
pub record Entry (E : Type 0) : Type 0 where
  pub time : ℕ
  pub party : ℕ
  pub event : E

-- A log: whose it is, and what happened, each at its time.
pub record Log (E : Type 0) : Type 0 where
  pub party : ℕ
  pub entries : List (ℕ × E)

module _ {E : Type 0} where
  -- an entry stands before another: it is of an earlier time, or of the same time and an earlier party
  abbrev pub is_before : Entry E → Entry E → Bool
  is_before a b = nat_lt a.time b.time || (nat_eq a.time b.time && nat_lt a.party b.party)

  -- an entry stands behind those that stand before it
  abbrev pub inserted : Entry E → List (Entry E) → List (Entry E)
  inserted e [] = e ∷ []
  inserted e (f ∷ fs) = cond (is_before f e) (f ∷ inserted e fs) (e ∷ f ∷ fs)

  -- entries in this order
  abbrev pub in_order : List (Entry E) → List (Entry E)
  in_order [] = []
  in_order (e ∷ es) = inserted e (in_order es)

  -- the entries of a party
  abbrev pub entries_of : ℕ → List (ℕ × E) → List (Entry E)
  entries_of p es = map (λ (e : ℕ × E). record { time = e.0; party = p; event = e.1 }) es

  -- those of a log
  abbrev pub entries_in : Log E → List (Entry E)
  entries_in l = entries_of l.party l.entries

  -- the entries of all logs, in the order of time, and of parties where two are of one time
  abbrev pub merged : List (Log E) → List (Entry E)
  merged logs = in_order (flat_map entries_in logs)

  -- what happened
  abbrev pub events_of : List (Entry E) → List E
  events_of es = map (λ (e : Entry E). e.event) es

  -- the entries of one party, each with its time
  abbrev pub own : ℕ → List (Entry E) → List (ℕ × E)
  own p [] = []
  own p (e ∷ es) = cond (nat_eq e.party p) ((e.time, e.event) ∷ own p es) (own p es)

  -- times rise strictly, from above this one on
  abbrev pub RiseAbove : ℕ → List (ℕ × E) → Type 0
  RiseAbove low [] = Unit {0}
  RiseAbove low (e ∷ es) = (low < e.0) × RiseAbove e.0 es

  -- the time of the last entry, or this one where there is none
  abbrev pub last_time : ℕ → List (ℕ × E) → ℕ
  last_time low [] = low
  last_time low (e ∷ es) = last_time e.0 es

  -- entries in order: no time is below this one, and none below the one before it
  abbrev pub NeverFall : ℕ → List (Entry E) → Type 0
  NeverFall low [] = Unit {0}
  NeverFall low (e ∷ es) = (low ≤ e.time) × NeverFall e.time es

  -- none of these logs is of the party
  abbrev pub IsNoneOf : ℕ → List (Log E) → Type 0
  IsNoneOf p [] = Unit {0}
  IsNoneOf p (l ∷ ls) = (l.party ≢ p) × IsNoneOf p ls

  -- no two of these logs are of one party
  abbrev pub PartiesDiffer : List (Log E) → Type 0
  PartiesDiffer [] = Unit {0}
  PartiesDiffer (l ∷ ls) = IsNoneOf l.party ls × PartiesDiffer ls

  -- the logs of a round: the parties differ, and times count from 1 and rise strictly
  abbrev pub AreLogs : List (Log E) → Type 0
  AreLogs [] = Unit {0}
  AreLogs (l ∷ ls) = RiseAbove 0 l.entries × IsNoneOf l.party ls × AreLogs ls

  -- of each of these logs, just its entries stand among those, in their order, at their times
  abbrev pub KeepsEach : List (Log E) → List (Entry E) → Type 0
  KeepsEach [] es = Unit {0}
  KeepsEach (l ∷ ls) es = (own l.party es ≡ l.entries) × KeepsEach ls es
