-- A book, over any list of calls.
use Rattle.std.specs.Prelude.{ℕ, ◌<◌, ◌≤◌, max, List, [], ◌∷◌, ⊤}
use Rattle.confirm_book.specs.declared.kind.Kind.{Kind}
use Rattle.confirm_book.specs.Book.{Ledger, last_of, published, came_round}

-- what a caller does: room is made, so that there is so much; a message of a kind is published; the messages up to a
-- number have come round
pub data Call : Type 0 where
  Reserve : ℕ → Call
  Published : Kind → Call
  CameRound : ℕ → Call

-- where each call can be: there is room for the message, and what comes round was published
abbrev pub CanCall : Ledger → Call → Type 0
CanCall b (Reserve spare) = b.spare ≤ spare
CanCall b (Published kind) = 0 < b.spare
CanCall b (CameRound to) = to ≤ last_of b

-- the book after a call
abbrev pub after_call : Ledger → Call → Ledger
after_call b (Reserve spare) = record b { spare = spare }
after_call b (Published kind) = published kind b
after_call b (CameRound to) = came_round to b

-- each call can be where the earlier ones leave the book
abbrev pub IsCalls : Ledger → List Call → Type 0
IsCalls b [] = ⊤
IsCalls b (call ∷ calls) = CanCall b call × IsCalls (after_call b call) calls

-- the book after all of them
abbrev pub after : Ledger → List Call → Ledger
after b [] = b
after b (call ∷ calls) = after (after_call b call) calls

-- the kinds of the messages that they publish, in order
abbrev pub log_of : List Call → List Kind
log_of [] = []
log_of (Reserve spare ∷ calls) = log_of calls
log_of (Published kind ∷ calls) = kind ∷ log_of calls
log_of (CameRound to ∷ calls) = log_of calls

-- the greatest number up to which messages have come round, or 0
abbrev pub confirmed_by : List Call → ℕ
confirmed_by [] = 0
confirmed_by (Reserve spare ∷ calls) = confirmed_by calls
confirmed_by (Published kind ∷ calls) = confirmed_by calls
confirmed_by (CameRound to ∷ calls) = max to (confirmed_by calls)
