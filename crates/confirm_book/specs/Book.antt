-- A publisher's book of its own messages.
use Rattle.std.specs.Prelude.{◌≡◌, ℕ, ◌+◌, ◌-◌, ◌≤◌, max, Bool, true, false, List, [], ◌∷◌, ◌++◌, length, take, drop, count_by}
use Rattle.confirm_book.specs.declared.kind.Kind.{Kind}
use Rattle.confirm_book.specs.declared.kind.Kind.TheVariants.{Cast, Publish, Other}
use Rattle.confirm_book.specs.declared.book.Totals.{Totals}

-- what a book is seen as: up to which number its messages have come round, how many casts and publishes these are,
-- the kinds of the messages behind them, in order, and for how many more there is room
pub record Ledger : Type 0 where
  pub confirmed : ℕ
  pub casts_confirmed : ℕ
  pub publishes_confirmed : ℕ
  pub waiting : List Kind
  pub spare : ℕ

-- whether a message is a client's own multicast
abbrev pub is_cast : Kind → Bool
is_cast Cast = true
is_cast Publish = false
is_cast Other = false

-- whether it is published to the queue
abbrev pub is_publish : Kind → Bool
is_publish Cast = false
is_publish Publish = true
is_publish Other = false

-- the number of the last message
abbrev pub last_of : Ledger → ℕ
last_of b = b.confirmed + length b.waiting

-- the messages by kind, and of each kind those that have come round
abbrev pub totals_of : Ledger → Totals
totals_of b = record {
  casts = b.casts_confirmed + count_by is_cast b.waiting;
  casts_confirmed = b.casts_confirmed;
  publishes = b.publishes_confirmed + count_by is_publish b.waiting;
  publishes_confirmed = b.publishes_confirmed;
}

-- nothing is published yet
abbrev pub new_ledger : ℕ → Ledger
new_ledger spare = record { confirmed = 0; casts_confirmed = 0; publishes_confirmed = 0; waiting = []; spare = spare }

-- all but the room stays
pub record KeepsAll (a b : Ledger) : Type 0 where
  pub confirmed : b.confirmed ≡ a.confirmed
  pub casts_confirmed : b.casts_confirmed ≡ a.casts_confirmed
  pub publishes_confirmed : b.publishes_confirmed ≡ a.publishes_confirmed
  pub waiting : b.waiting ≡ a.waiting

-- a message of this kind is published, and waits
abbrev pub published : Kind → Ledger → Ledger
published kind b = record b { waiting = b.waiting ++ kind ∷ []; spare = b.spare - 1 }

-- those that wait, up to this number
abbrev pub newly : ℕ → Ledger → List Kind
newly to b = take (to - b.confirmed) b.waiting

-- they come round, and leave their room
abbrev pub came_round : ℕ → Ledger → Ledger
came_round to b = record b {
  confirmed = max to b.confirmed;
  casts_confirmed = b.casts_confirmed + count_by is_cast (newly to b);
  publishes_confirmed = b.publishes_confirmed + count_by is_publish (newly to b);
  waiting = drop (to - b.confirmed) b.waiting;
  spare = b.spare + (to - b.confirmed);
}

-- a book, but for its room
abbrev pub without_room : Ledger → Ledger
without_room b = record b { spare = 0 }

-- ---- the log

-- the totals of a log of these kinds, of which so many messages have come round
abbrev pub totals_in : ℕ → List Kind → Totals
totals_in confirmed log = record {
  casts = count_by is_cast log;
  casts_confirmed = count_by is_cast (take confirmed log);
  publishes = count_by is_publish log;
  publishes_confirmed = count_by is_publish (take confirmed log);
}

-- it is the book of this log, of which so many messages have come round
pub record IsBookOf (log : List Kind) (confirmed : ℕ) (b : Ledger) : Type 0 where
  pub reached : confirmed ≤ length log
  pub number : b.confirmed ≡ confirmed
  pub waiting : b.waiting ≡ drop confirmed log
  pub totals : totals_of b ≡ totals_in confirmed log

-- that book, but for its room
abbrev pub book_in : ℕ → List Kind → Ledger
book_in confirmed log = record {
  confirmed = confirmed;
  casts_confirmed = count_by is_cast (take confirmed log);
  publishes_confirmed = count_by is_publish (take confirmed log);
  waiting = drop confirmed log;
  spare = 0;
}
