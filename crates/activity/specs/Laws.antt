-- What a packet and its plan do to each origin, in numbers and in messages.
use Rattle.std.specs.Prelude.{◌≡◌, ℕ, ◌≤◌, Bool, true, false, List, length}
use Rattle.pending_store.specs.Store.{messages_between}
use Rattle.queue_core.specs.declared.message.Message.{Message}
use Rattle.activity.specs.Kept.{Kept, got_of}
use Rattle.activity.specs.Packets.{LineSeen, got_in}

-- The three numbers of an origin.
pub record Marks : Type 0 where
  pub got : ℕ
  pub forgot : ℕ
  pub retired : ℕ

-- the numbers of what is kept
abbrev pub marks_of : Kept → Marks
marks_of k = record { got = got_of k; forgot = k.forgot; retired = k.retired }

-- The numbers that a taker has once it took those of a sender: of an origin for which it answers, what the sender got has come
-- round, and its acknowledgement as far as the sender has forgotten; of any other the sender's own.
abbrev pub taken_marks : Bool → Marks → Kept → Marks
taken_marks true m s = record m { forgot = got_of s; retired = s.forgot }
taken_marks false m s = record m { got = got_of s; forgot = s.forgot }

-- the messages kept are those of a log between the two numbers, which the log has reached
pub record IsPartOf (log : List Message) (k : Kept) : Type 0 where
  pub reached : got_of k ≤ length log
  pub messages : k.messages ≡ messages_between k.forgot (got_of k) log

-- so are those of a line
pub record IsLineOf (log : List Message) (c : LineSeen) : Type 0 where
  pub reached : got_in c ≤ length log
  pub messages : c.messages ≡ messages_between c.lo (got_in c) log
