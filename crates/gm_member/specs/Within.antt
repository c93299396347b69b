-- What was last sent of an origin, beside what is kept of it.
use Rattle.std.specs.Prelude.{ℕ, ◌≤◌, List}
use Rattle.std.proofs.Props.{props}
use Rattle.activity.specs.Kept.{KeptRow, got_of, kept_of}
use Rattle.activity.specs.LastSent.{LastSent}

-- nothing was sent beyond what is kept
unfoldable pub IsWithin : (ℕ → LastSent) → List KeptRow → Type 0
IsWithin last_sent rows = (p : ℕ) → ((last_sent p).got ≤ got_of (kept_of rows p)) × ((last_sent p).forgot ≤ (kept_of rows p).forgot)

-- this is a fact
pub one_within : (last_sent : ℕ → LastSent) (rows : List KeptRow) → Prim.IsProp (IsWithin last_sent rows)
unfolding IsWithin
one_within last_sent rows = fact {P = (p : ℕ) → ((last_sent p).got ≤ got_of (kept_of rows p)) × ((last_sent p).forgot ≤ (kept_of rows p).forgot)} (Prim.hlevel props)
  where
    fact : {P : Type 0} → Prim.IsProp P → Prim.IsProp P
    fact p = p
