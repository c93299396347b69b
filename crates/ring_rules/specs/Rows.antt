-- What a member knows of one origin, the credit of a link, and what a step does to each.
use Rattle.std.specs.Prelude.{ℕ, ◌+◌, Bool, true, false, if◌then◌else◌, ◌&&◌, List, [], ◌∷◌, ◌++◌, length, take, drop, nat_eq, max}
use Rattle.queue_core.specs.declared.message.Message.{Message}
use Rattle.credit_flow.specs.Credit.{sent, gained, took, grant_due, Credit, Counted, full_credit, none_taken}
use Rattle.credit_flow.specs.Link.{with_grant, oldest as oldest_grant}
use Rattle.ring_rules.specs.declared.numbers.Numbers.{Numbers}
-- the names with which a ring opens are those with which its group does
pub use Rattle.group_view.specs.Change.{AreDifferent, AreOpeningNames, most_entries as most_members}

-- What a member knows of one origin: the number up to which it has received the origin's messages, the
-- number up to which it has forgotten them (their acknowledgement has passed), the number up to which that
-- acknowledgement has come round, and the messages themselves in the order in which they were received.
-- And for a member that joined: the number from which on it receives, and how many messages there were when it was admitted.
pub record Row : Type 0 where
  pub got : ℕ
  pub forgot : ℕ
  pub retired : ℕ
  pub heard : List Message
  pub base : ℕ
  pub born : ℕ

-- The credit of a link, as credit_flow has it: what its sender may still send, what its receiver has taken
-- since the last grant, and the grants under way back to the sender, the oldest first.
pub record Flow : Type 0 where
  pub sender : Credit
  pub receiver : Counted
  pub grants : List ℕ

-- what is known of an origin without a row
abbrev pub no_row : Row
no_row = record { got = 0; forgot = 0; retired = 0; heard = []; base = 0; born = 0 }

-- what one that joins knows of an origin with this log
abbrev pub born_row : List Message → Row
born_row log = record no_row { born = length log }

-- what a packet says of an origin of which it says nothing
abbrev pub no_numbers : Numbers
no_numbers = record { lo = 0; got = 0; forgot = 0 }

-- the flow of a link with these numbers, on which nothing was sent
abbrev pub full_flow : ℕ → ℕ → Flow
full_flow initial more = record { sender = full_credit initial more; receiver = none_taken initial more; grants = [] }

-- ---- publishing

-- its own row gains a message that the member publishes, which counts as received at once
abbrev pub published_row : Row → Message → Row
published_row r m = record r { got = r.got + 1; heard = r.heard ++ m ∷ [] }

-- ---- putting a packet

-- whether the numbers of an origin equal those last sent
abbrev pub is_sent : Row → Numbers → Bool
is_sent r last = nat_eq r.got last.got && nat_eq r.forgot last.forgot

-- the number after which a packet brings messages: on the first packet of a link what the sender forgot, else the number last sent
abbrev pub lo_of : Bool → ℕ → Numbers → ℕ
lo_of fresh forgot last = if fresh then forgot else last.got

-- the numbers of one origin in the next packet
abbrev pub next_numbers : Bool → Row → Numbers → Numbers
next_numbers fresh r last = record { lo = lo_of fresh r.forgot last; got = r.got; forgot = r.forgot }

-- a packet takes one credit
abbrev pub spent : Flow → Flow
spent f = record f { sender = sent f.sender }

-- ---- taking a packet

-- the receiver counts a packet, and the grant that is due then goes under way
abbrev pub counted : Flow → Flow
counted f = record f { receiver = took f.receiver; grants = with_grant f.grants (grant_due f.receiver) }

-- messages lo + 1 to hi of a log
abbrev pub messages_between : {A : Type 0} → ℕ → ℕ → List A → List A
messages_between lo hi log = drop lo (take hi log)

-- what a packet brings of one origin: nothing where the taker answers for it against the sender, in its view, else what it
-- doesn't have
abbrev pub brought : Bool → List Message → Row → Numbers → List Message
brought true log r k = []
brought false log r k = messages_between (max k.lo r.got) k.got log

-- what it does to the row: of what it answers for, the taker learns how far the messages and their acknowledgement have
-- come round
abbrev pub taken_with : Bool → Row → Numbers → List Message → Row
taken_with true r k news = record r { forgot = k.got; retired = k.forgot }
taken_with false r k news = record r { got = k.got; forgot = k.forgot; heard = r.heard ++ news }

-- what the numbers of a packet do to a row, with the messages that they bring
abbrev pub taken_row : Bool → List Message → Row → Numbers → Row
taken_row own log r k = taken_with own r k (brought own log r k)

-- ---- gaining credit

-- the oldest grant under way becomes credit
abbrev pub regained : Flow → Flow
regained f = record f { sender = gained f.sender (oldest_grant f.grants); grants = drop 1 f.grants }
