-- What goes from a member to its right neighbour.
use Rattle.std.specs.Prelude.{◌≡◌, ℕ, ◌+◌, Bool, true, cond, nat_eq, List, [], ◌∷◌, length, map, Option, Some, None}
use Rattle.queue_core.specs.declared.message.Message.{Message}
use Rattle.ring_names.specs.declared.numbers.MemberId.{MemberId}
use Rattle.ring_names.specs.declared.numbers.Stamp.{Stamp}
use Rattle.activity.specs.LastSent.{LastSent, LastSentRow, has_row}

-- A line of a packet: of one origin the messages from number lo + 1 on, and the number up to which the sender has forgotten
-- them (an entry of gm's `activity`).
pub record LineSeen : Type 0 where
  pub origin : MemberId
  pub lo : ℕ
  pub messages : List Message
  pub forgot : ℕ

-- the number of the last message
abbrev pub got_in : LineSeen → ℕ
got_in c = c.lo + length c.messages

-- the ids of the origins of lines
abbrev pub origins : List LineSeen → List ℕ
origins lines = map (λ c. c.origin.0) lines

-- A packet as it goes from one member to the next (gm's `activity` message).
pub record PacketSeen : Type 0 where
  pub stamp : Stamp
  pub view : ℕ
  pub first : Bool
  pub lines : List LineSeen

-- the line of an origin
abbrev pub line_of : List LineSeen → ℕ → Option LineSeen
line_of [] p = None
line_of (c ∷ lines) p = cond (nat_eq p c.origin.0) (Some c) (line_of lines p)

-- the numbers that a line carries
abbrev pub last_sent_in : LineSeen → LastSent
last_sent_in c = record { got = got_in c; forgot = c.forgot }

-- the numbers last sent once a line is sent, or none
abbrev pub noted : Option LineSeen → LastSent → LastSent
noted None t = t
noted (Some c) t = last_sent_in c

-- each line's origin has a row
abbrev pub HasRows : List LastSentRow → List LineSeen → Type 0
HasRows rows [] = Unit {0}
HasRows rows (c ∷ lines) = (has_row rows c.origin.0 ≡ true) × HasRows rows lines
