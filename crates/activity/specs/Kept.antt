-- What a member keeps of each origin.
use Rattle.std.specs.Prelude.{◌≡◌, ℕ, ◌+◌, Bool, true, false, cond, nat_eq, nat_le, List, [], ◌∷◌, ◌++◌, length, map}
use Rattle.queue_core.specs.declared.message.Message.{Message}
use Rattle.ring_names.specs.declared.numbers.MemberId.{MemberId}

-- What is kept of an origin: how many of its messages are forgotten, and those behind them (gm's `pending_ack` of a member);
-- up to which message the acknowledgement has come round too, which is 0 until the member answers for the origin; and the
-- number behind which the member receives: that of its first packet, where it joined.
pub record Kept : Type 0 where
  pub forgot : ℕ
  pub messages : List Message
  pub retired : ℕ
  pub base : ℕ

-- the number of the last message
abbrev pub got_of : Kept → ℕ
got_of k = k.forgot + length k.messages

-- what counts of an origin without a row: nothing
abbrev pub no_kept : Kept
no_kept = record { forgot = 0; messages = []; retired = 0; base = 0 }

-- The row of an origin, with the number of messages for which it has room.
pub record KeptRow : Type 0 where
  pub origin : MemberId
  pub kept : Kept
  pub room : ℕ

-- the ids of the origins of rows, in the order in which they were first seen
abbrev pub origins_of : List KeptRow → List ℕ
origins_of rows = map (λ r. r.origin.0) rows

-- what is kept of the origin of an id
abbrev pub kept_of : List KeptRow → ℕ → Kept
kept_of [] p = no_kept
kept_of (r ∷ rows) p = cond (nat_eq p r.origin.0) r.kept (kept_of rows p)

-- whether the origin has a row, with room for n messages more
abbrev pub has_room : List KeptRow → ℕ → ℕ → Bool
has_room [] p n = false
has_room (r ∷ rows) p n = cond (nat_eq p r.origin.0) (nat_le n r.room) (has_room rows p n)

-- of each origin the same is kept, and no room is lost
pub record KeepsRows (old new : List KeptRow) : Type 0 where
  pub kept : (p : ℕ) → kept_of new p ≡ kept_of old p
  pub room : (p n : ℕ) → has_room old p n ≡ true → has_room new p n ≡ true

-- a message joins what is kept
abbrev pub joined : Message → Kept → Kept
joined m k = record k { messages = k.messages ++ m ∷ [] }
