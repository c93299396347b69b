-- The messages that a packet brings a member.
use Rattle.std.specs.Prelude.{ℕ, zero, suc, ◌+◌, ◌-◌, Bool, true, false, cond, List, [], ◌++◌, map, max, slice_index_or, Option, Some, None}
use Rattle.std.specs.List.{range_with_len}
use Rattle.std.specs.Option.{option_map_or}
use Rattle.queue_core.specs.declared.message.Message.{Message}
use Rattle.queue_core.specs.declared.message.Message.TheVariants as message
use Rattle.activity.specs.declared.change.Change.{Change}
use Rattle.activity.specs.declared.change.Change.TheVariants.{Receive, CameRound}
use Rattle.activity.specs.Kept.{Kept}
use Rattle.activity.specs.Packets.{LineSeen}
use Rattle.activity.specs.Plan.{change_of}
use Rattle.ring_rules.specs.declared.numbers.Numbers.{Numbers}
use Rattle.ring_rules.specs.Rows.{most_members}
use Rattle.ring_rules.specs.Machine.{is_waiting}
use Rattle.ring_rules.specs.Shown.{id_of}
use Rattle.gm_member.specs.declared.taken.Taken.{Taken}
use Rattle.gm_member.specs.Packets.{PacketById, known_at, line_at}
use Rattle.gm_member.specs.Held.{Held, at_some, owns}

-- what stands at no place of a list
abbrev pub no_message : Message
no_message = message.Cast []

-- message k + 1 of an origin, where the list begins behind message lo
abbrev pub taken_at : ℕ → ℕ → List Message → ℕ → Taken
taken_at p lo messages k = record { origin = id_of p; number = k + 1; message = slice_index_or messages (k - lo) no_message }

-- messages a + 1 to b of it
abbrev pub taken_between : ℕ → ℕ → List Message → ℕ → ℕ → List Taken
taken_between p lo messages a b = map (taken_at p lo messages) (range_with_len a (b - a))

-- what a change brings: the messages of its line that are received
abbrev pub change_news : ℕ → LineSeen → Change → List Taken
change_news p c (Receive origin from to forgot) = taken_between p c.lo c.messages from to
change_news p c (CameRound origin forgot retired) = []

-- what a line brings, or none: nothing where it isn't used
abbrev pub line_news : Bool → ℕ → Kept → Option LineSeen → List Taken
line_news own p k None = []
line_news own p k (Some c) = option_map_or (change_news p c) (change_of own k c) []

-- what lines bring, of the origins at the places below n; own tells for which the member answers
abbrev pub news_below : ℕ → (ℕ → Bool) → List Kept → List (Option LineSeen) → List Taken
news_below zero own known lines = []
news_below (suc p) own known lines = news_below p own known lines ++ line_news (own p) p (known_at known p) (line_at lines p)

-- all that a packet brings from the link that the member takes from, in order of origin and number: its first one brings a member
-- that waits nothing
abbrev pub news_of : Held → PacketById → List Taken
news_of h k = at_some h.current [] (λ c. cond (is_waiting h.phase) [] (news_below most_members (owns h c.from) h.known k.lines))

-- the messages of a log that numbers bring to one who has got so many
abbrev pub taken_of : Bool → ℕ → List Message → ℕ → Numbers → List Taken
taken_of true p log got k = []
taken_of false p log got k = taken_between p 0 log (max k.lo got) k.got
