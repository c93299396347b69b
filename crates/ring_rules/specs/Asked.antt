-- What is asked of a state, by the ids of members.
use Rattle.std.specs.Prelude.{ℕ, List, [], Option, Some, None}
use Rattle.queue_core.specs.declared.message.Message.{Message}
use Rattle.queue_core.specs.Queue.{Item}
use Rattle.queue_core.specs.Shown.{first_from}
use Rattle.ring_names.specs.declared.numbers.MemberId.{MemberId}
use Rattle.ring_rules.specs.declared.shown.Counts.{Counts}
use Rattle.ring_rules.specs.declared.shown.MemberState.{MemberState}
use Rattle.ring_rules.specs.declared.shown.MemberState.TheVariants as state
use Rattle.group_view.specs.View.{as_id}
use Rattle.ring_rules.specs.Shown.{counts_in}
use Rattle.ring_rules.specs.Machine.{Phase, Waiting, Up, Stopped, Member, World, member_at, row_at}
use Rattle.ring_rules.specs.Step.{log_of}

-- the id of one that was found
abbrev pub id_at : Option ℕ → Option MemberId
id_at None = None
id_at (Some x) = Some (as_id x)

-- what one member has heard of another
abbrev pub heard_at : World → Option ℕ → Option ℕ → List Message
heard_at w (Some q) (Some p) = (row_at (member_at w q) p).heard
heard_at w (Some q) None = []
heard_at w None p = []

-- up to which number it got the other's messages
abbrev pub got_at : World → Option ℕ → Option ℕ → ℕ
got_at w (Some q) (Some p) = (row_at (member_at w q) p).got
got_at w (Some q) None = 0
got_at w None p = 0

-- after which number it began to receive them
abbrev pub base_at : World → Option ℕ → Option ℕ → ℕ
base_at w (Some q) (Some p) = (row_at (member_at w q) p).base
base_at w (Some q) None = 0
base_at w None p = 0

-- the messages that a member has published
abbrev pub log_at : World → Option ℕ → List Message
log_at w None = []
log_at w (Some p) = log_of w p

-- where a member stands, and how many messages its mirror lacks
abbrev pub state_of : Option ℕ → Phase → MemberState
state_of missing Waiting = state.Waiting
state_of missing Up = state.Up missing
state_of missing Stopped = state.Stopped

-- where one that was found stands
abbrev pub state_at : World → Option ℕ → MemberState
state_at w None = state.Stopped
state_at w (Some x) = state_of (member_at w x).mirror.missing (member_at w x).phase

-- how much the member of an id has published, and how much of that has come round to it
abbrev pub counts_of : ℕ → Member → Counts
counts_of x y = counts_in (row_at y x).forgot y.log

-- of one that was found
abbrev pub counts_at : World → Option ℕ → Counts
counts_at w None = counts_in 0 []
counts_at w (Some x) = counts_of x (member_at w x)

-- what is shown of the mirror of a member that is up
abbrev pub while_up : Phase → Option Item → Option Item
while_up Waiting item = None
while_up Up item = item
while_up Stopped item = None

-- the first item of that member's mirror at a position or above it
abbrev pub item_at : World → Option ℕ → ℕ → Option Item
item_at w None a = None
item_at w (Some x) a = while_up (member_at w x).phase (first_from a (member_at w x).mirror.queue.items)
