-- How a book keeps the kinds of its messages: by how many of each kind there are up to each message.
use Rattle.std.specs.Prelude.{◌≡◌, ℕ, ◌+◌, ◌-◌, ◌≤◌, length, cond, nat_lt, List, [], ◌∷◌, count_by}
use Rattle.confirm_book.specs.declared.kind.Kind.{Kind}
use Rattle.confirm_book.specs.declared.kind.Kind.TheVariants.{Cast, Publish, Other}
use Rattle.confirm_book.specs.declared.count.Count.{Count}
use Rattle.confirm_book.specs.Book.{Ledger, is_cast, is_publish}

-- the counts that wait in a queue, the oldest first, and for how many more there is room
pub record Row : Type 0 where
  pub counts : List Count
  pub spare : ℕ

-- messages of these kinds more
abbrev pub with_kinds : List Kind → Count → Count
with_kinds kinds c = record { casts = c.casts + count_by is_cast kinds; publishes = c.publishes + count_by is_publish kinds }

-- the counts up to each of these messages, behind what is counted before them
abbrev pub counts_from : Count → List Kind → List Count
counts_from c [] = []
counts_from c (kind ∷ kinds) = with_kinds (kind ∷ []) c ∷ counts_from (with_kinds (kind ∷ []) c) kinds

-- the kind of a message, by the counts before it and with it
abbrev pub kind_between : Count → Count → Kind
kind_between c d = cond (nat_lt c.casts d.casts) Cast (cond (nat_lt c.publishes d.publishes) Publish Other)

-- the kinds of messages, by the count before them and those up to each
abbrev pub kinds_from : Count → List Count → List Kind
kinds_from c [] = []
kinds_from c (d ∷ counts) = kind_between c d ∷ kinds_from d counts

-- the counts are those of messages of some kinds, and with all of these there are so many
pub record IsCounted (before : Count) (counts : List Count) (now : Count) : Type 0 where
  pub each : counts ≡ counts_from before (kinds_from before counts)
  pub sum : now ≡ with_kinds (kinds_from before counts) before

-- the book that they tell, by the number of the last message and the count of those that have come round
abbrev pub ledger_of : ℕ → Count → Row → Ledger
ledger_of last confirmed row = record {
  confirmed = last - length row.counts;
  casts_confirmed = confirmed.casts;
  publishes_confirmed = confirmed.publishes;
  waiting = kinds_from confirmed row.counts;
  spare = row.spare;
}

-- what a book keeps: the counts are those of its messages, and no message is counted twice
pub record IsKept (last : ℕ) (published confirmed : Count) (row : Row) : Type 0 where
  pub counted : IsCounted confirmed row.counts published
  pub within : length row.counts ≤ last
  pub once : published.casts + published.publishes ≤ last
