-- When a journal plays what a cluster was given.
use Rattle.std.specs.Prelude.{◌≡◌, ◌⊎◌, ℕ, ◌+◌, ◌&&◌, ◌<◌, ◌≤◌, Bool, true, false, not, List, [], ◌∷◌, ◌++◌, length, map, take, slice_get, bytes_eq, Option, Some, None, IsSome, if◌then◌else◌, Contains}
use Rattle.std.specs.List.{flat_map, filter, list_any}
use Rattle.ring_names.specs.declared.numbers.CreditSpec.{CreditSpec}
use Rattle.ring_names.specs.declared.reason.Reason.{Reason}
use Rattle.ring_names.specs.Reason.{code_of}
use Rattle.ring_script.specs.declared.command.Command.{Command}
use Rattle.ring_script.specs.declared.command.Command.TheVariants as command
use Rattle.ring_rules.specs.declared.event.Event.{Event}
use Rattle.ring_rules.specs.declared.event.Event.TheVariants.{Refuse, Start}
use Rattle.ring_rules.specs.declared.event.Client.{Client}
use Rattle.ring_rules.specs.declared.event.Client.TheVariants as client
use Rattle.ring_rules.specs.declared.phase.Phase.{Phase}
use Rattle.ring_rules.specs.declared.phase.Phase.TheVariants.{Waiting, Up, Stopped}
use Rattle.ring_rules.specs.Machine.{World, member_at}
use Rattle.ring_rules.specs.Step.{opening}
use Rattle.ring_rules.specs.Event.{by_of, is_asked, is_passing, event_of, refusal, last}
use Rattle.ring_rules.specs.Quiet.{IsQuiet}
use Rattle.ring_cluster.specs.Agendas.{IsAskedOf, IsForNoCopy, tasks_in, with_tasks, with_asked}
use Rattle.ring_cluster.specs.Handed.{handing, given_to, handed}
use Rattle.ring_cluster.specs.Seen.{Seen, state_of, IsMemberIn}
use Rattle.ring_parties.specs.States.{state}

-- ---- what clients asked for

-- what a client asked for that has come of it: what was done, or what was refused
abbrev pub asked_event : Event → Event
asked_event (Refuse code inner) = event_of inner
asked_event e = e

-- what a client of this member asked for, and was answered by this event; the member's other steps are its own
abbrev pub client_event : List ℕ → Event → List Event
client_event name e = if is_asked e && bytes_eq (by_of e) name then asked_event e ∷ [] else []

-- what clients of a member asked for, in the order in which the journal has it done or refused
abbrev pub client_events : List ℕ → List Event → List Event
client_events name events = flat_map (client_event name) events

-- what a command asks of a member; one of the whole ring asks nothing of any
abbrev pub client_of : Command → Option Client
client_of (command.Cast by body) = Some (client.Cast by body)
client_of (command.Publish by body) = Some (client.Publish by body)
client_of (command.Get by) = Some (client.Get by)
client_of (command.Pop by) = Some (client.Pop by)
client_of (command.Ack by at) = Some (client.Ack by at)
client_of (command.Requeue by at) = Some (client.Requeue by at)
client_of (command.Join by newcomer) = Some (client.Admit by newcomer)
client_of (command.Kill by) = Some (client.Stop by)
client_of (command.Go turns) = None
client_of command.Settle = None

-- what a command asks of this member
abbrev pub asked_by : List ℕ → Command → List Event
asked_by name x = given_to name (client_of x)

-- what commands ask of it, in their order
abbrev pub asked : List ℕ → List Command → List Event
asked name commands = flat_map (asked_by name) commands

-- ---- what a member has still to do

-- the event by which its member does what was asked, where the ring doesn't refuse it, and else tells that it does, and why
abbrev pub answer_by : Client → Option Reason → Event
answer_by t None = event_of t
answer_by t (Some r) = Refuse (code_of r) t

-- the same in a state of the ring
abbrev pub answer_to : World → Client → Event
answer_to w t = answer_by t (refusal w (event_of t))

-- the events of an agenda
abbrev pub todo : List Client → List Event
todo tasks = map event_of tasks

-- what is on the agenda of the member of that name
abbrev pub agenda_of : Seen → List ℕ → List Client
agenda_of c name = tasks_in c.agendas name

-- whether it is to stop
abbrev pub is_stop : Client → Bool
is_stop (client.Stop by) = true
is_stop t = false

-- whether a member begins with a task in its next turn: one that waits for its state leaves all but its stop
abbrev pub takes_up : Phase → Client → Bool
takes_up Waiting t = is_stop t
takes_up Up t = true
takes_up Stopped t = true

-- whether it begins with what is next on its agenda
abbrev pub is_due : Phase → List Client → Bool
is_due phase [] = false
is_due phase (t ∷ ts) = takes_up phase t

-- the member at a place, which has this name, has something on its agenda with which it begins
abbrev pub IsDue : Seen → ℕ → List ℕ → Type 0
IsDue c i name = is_due (member_at (state_of c) (i + 1)).phase (agenda_of c name) ≡ true

-- whether a refusal passes: the member waits for its state, or hasn't started as a master yet
abbrev pub passes : Option Reason → Bool
passes None = false
passes (Some r) = is_passing r

-- the member of that name leaves its agenda as it is: there is nothing on it, or what refuses the first task will pass
abbrev pub LeavesAgenda : Seen → List ℕ → Type 0
LeavesAgenda c name = (t : Client) (ts : List Client) → agenda_of c name ≡ t ∷ ts → IsAskedOf name t × IsForNoCopy t × (passes (refusal (state_of c) (event_of t)) ≡ true)

-- ---- commands

-- a command of a member, not of the whole ring
abbrev pub IsOfMember : Command → Type 0
IsOfMember x = IsSome (client_of x)

-- a command was given, and what it asks joins the agenda of its member
abbrev pub commanded : Seen → Command → Seen
commanded c x = record c { agendas = with_asked c.agendas (client_of x); given = c.given ++ x ∷ [] }

-- ---- playing

-- those of marked events that are marked
abbrev pub marked_of : List (Bool × Event) → List Event
marked_of events = map (λ e. e.1) (filter (λ e. e.0) events)

-- those that aren't
abbrev pub unmarked_of : List (Bool × Event) → List Event
unmarked_of events = map (λ e. e.1) (filter (λ e. not e.0) events)

-- What clients asked of the member of that name and these events have done or refused, followed by what is left: each is
-- a command of its own, and these are its commands in their order; or it was handed on to it, and is marked here, and these
-- are what was handed on to it, in that order, none done before it was handed on. So none is there twice, and none is lacking.
pub record Serves (w : World) (name : List ℕ) (events : List Event) (commands : List Command) (left : List Event) : Type 0 where
  pub marked : List (Bool × Event)
  pub all : map (λ e. e.1) marked ≡ client_events name events ++ left
  pub own : unmarked_of marked ≡ asked name commands
  pub handed_on : marked_of marked ≡ handed w name events
  pub later : (count : ℕ) → count ≤ length events → length (marked_of (take (length (client_events name (take count events))) marked)) ≤ length (handed w name (take count events))

-- Each member that is there after the events has done or refused its commands, and what was handed on to it; and nobody else has
-- done or refused any.
pub record HaveServed (w : World) (events : List Event) (commands : List Command) : Type 0 where
  pub members : (i : ℕ) (name : List ℕ) → IsMemberIn (last w events) i name → Serves w name events commands []
  pub nobody_else : (name : List ℕ) → ((i : ℕ) → IsMemberIn (last w events) i name → ⊥) → client_events name events ≡ []

-- the members had done so with these commands, and the ring was quiet, after some of the events
pub record HasSettled (credit : CreditSpec) (names : List (List ℕ)) (events : List Event) (commands : List Command) : Type 0 where
  pub count : ℕ
  pub within : count ≤ length events
  pub quiet : IsQuiet (state credit names (take count events))
  pub served : HaveServed (opening credit names) (take count events) commands

-- at each settling they had, with all earlier commands
abbrev pub HasSettledEach : CreditSpec → List (List ℕ) → List Event → List Command → Type 0
HasSettledEach credit names events given = (k : ℕ) → slice_get given k ≡ Some command.Settle → HasSettled credit names events (take k given)

-- The journal plays what was given: what each member has done and refused of what clients asked is its commands, with what was
-- handed on to it, and nothing else; and at each settling all earlier commands were done or refused, and the ring rested.
pub record Plays (credit : CreditSpec) (names : List (List ℕ)) (events : List Event) (given : List Command) : Type 0 where
  pub served : HaveServed (opening credit names) events given
  pub settled : HasSettledEach credit names events given

-- The journal of a cluster plays what it was given so far: what each member has done and refused, followed by what it has
-- still to do, is what it was asked, and what was handed on to it. A cluster on which `step` was never called does so.
pub record PlaysSoFar (c : Seen) : Type 0 where
  pub serves : (name : List ℕ) → Serves (opening c.credit c.names) name c.events c.given (todo (agenda_of c name))
  pub settled : HasSettledEach c.credit c.names c.events c.given

-- ---- going on

-- The members have gone on: the journal has these events more. What each has done and refused in them, followed by what it has
-- still to do, is what it had to do, followed by what was handed on to it; none of that was done before it was handed on.
pub record GoesOn (c d : Seen) (more : List Event) : Type 0 where
  pub credit : d.credit ≡ c.credit
  pub names : d.names ≡ c.names
  pub events : d.events ≡ c.events ++ more
  pub serves : (name : List ℕ) → client_events name more ++ todo (agenda_of d name) ≡ todo (agenda_of c name) ++ handed (state_of c) name more
  pub later : (name : List ℕ) (count : ℕ) → count ≤ length more → length (client_events name (take count more)) ≤ length (agenda_of c name) + length (handed (state_of c) name (take count more))

-- they have, by some events
abbrev pub HasGoneOn : Seen → Seen → Type 0
HasGoneOn c d = (more : List Event) × GoesOn c d more

-- this event has happened, what it hands on joins its agenda, and these tasks are left to the member of that name
abbrev pub performed : Seen → List ℕ → Event → List Client → Seen
performed c name e ts = record c { events = c.events ++ e ∷ []; agendas = with_tasks (with_asked c.agendas (handing (state_of c) e)) name ts }

-- what was given and how many rounds were given a number stay
abbrev pub SameGiven : Seen → Seen → Type 0
SameGiven c d = (d.given ≡ c.given) × (d.rounds ≡ c.rounds)

-- whether an event is a start as a master
abbrev pub is_start : Event → Bool
is_start (Start by) = true
is_start e = false

-- that of the member of this name
abbrev pub is_start_of : List ℕ → Event → Bool
is_start_of name e = is_start e && bytes_eq (by_of e) name

-- how a member begins: it starts as a master, or does or refuses what a client asked for
abbrev pub begun_with : List ℕ → Event → List Event
begun_with name e = if is_start_of name e then e ∷ [] else client_event name e

-- by these events
abbrev pub begun_by : List ℕ → List Event → List Event
begun_by name events = flat_map (begun_with name) events

-- the member at a place, which has this name, has begun, where it had something with which it begins
abbrev pub HasBegun : ℕ → List ℕ → Seen → Seen → Type 0
HasBegun i name c d = IsDue c i name → length (begun_by name c.events) < length (begun_by name d.events)

-- of each member that had something with which it begins these events have done or refused the head of its agenda, or the member has
-- started as a master
abbrev pub HeadsAre : Seen → List Event → Type 0
HeadsAre c more = (i : ℕ) (name : List ℕ) (t : Client) (ts : List Client) → IsMemberIn (state_of c) i name → agenda_of c name ≡ t ∷ ts → IsDue c i name → Contains (client_events name more) (event_of t) ⊎ (list_any (is_start_of name) more ≡ true)

-- no member has anything left to do that it was asked
abbrev pub AgendasAreEmpty : Seen → Type 0
AgendasAreEmpty c = (i : ℕ) (name : List ℕ) → IsMemberIn (state_of c) i name → agenda_of c name ≡ []
