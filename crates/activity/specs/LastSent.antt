-- What was last sent of each origin on a link.
use Rattle.std.specs.Prelude.{◌≡◌, ℕ, Bool, true, false, cond, nat_eq, List, [], ◌∷◌, map}
use Rattle.ring_names.specs.declared.numbers.MemberId.{MemberId}

-- The numbers last sent of an origin: of the last message, and of the last one forgotten.
pub record LastSent : Type 0 where
  pub got : ℕ
  pub forgot : ℕ

-- what counts of an origin without a row: nothing was sent
abbrev pub never_sent : LastSent
never_sent = record { got = 0; forgot = 0 }

-- the row of an origin
pub record LastSentRow : Type 0 where
  pub origin : MemberId
  pub last_sent : LastSent

-- the ids of the origins of rows, in the order in which they were first seen
abbrev pub origins_sent : List LastSentRow → List ℕ
origins_sent rows = map (λ r. r.origin.0) rows

-- the numbers last sent of the origin of an id
abbrev pub sent_of : List LastSentRow → ℕ → LastSent
sent_of [] p = never_sent
sent_of (r ∷ rows) p = cond (nat_eq p r.origin.0) r.last_sent (sent_of rows p)

-- whether the origin has a row
abbrev pub has_row : List LastSentRow → ℕ → Bool
has_row [] p = false
has_row (r ∷ rows) p = cond (nat_eq p r.origin.0) true (has_row rows p)

-- of each origin the same was sent, and no row is lost
pub record KeepsSent (old new : List LastSentRow) : Type 0 where
  pub sent : (p : ℕ) → sent_of new p ≡ sent_of old p
  pub rows : (p : ℕ) → has_row old p ≡ true → has_row new p ≡ true
