-- The turns of a cluster.
use Rattle.std.specs.Prelude.{◌≡◌, ◌≢◌, ℕ, ◌+◌, ◌<◌, ◌≤◌, Bool, true, false, List, [], ◌++◌, length, take, slice_index_or, bytes_eq, Some, None, Result, IfOk}
use Rattle.std.specs.List.{All, filter}
use Rattle.ring_names.specs.declared.memory.OutOfMemory.{OutOfMemory}
use Rattle.ring_rules.specs.declared.event.Event.{Event}
use Rattle.ring_rules.specs.declared.event.Event.TheVariants.{Mark, Refresh, Erase, Start, Synced, Depth}
use Rattle.ring_rules.specs.declared.phase.Phase.TheVariants.{Waiting, Up}
use Rattle.ring_rules.specs.Machine.{World, member_at, newest, right, runs}
use Rattle.ring_rules.specs.Step.{size}
use Rattle.ring_rules.specs.Event.{by_of, erase_refusal, refusal}
use Rattle.ring_rules.specs.declared.kind.LinkStep.{LinkStep}
use Rattle.ring_cluster.specs.declared.driver.OwnTurn.{OwnTurn}
use Rattle.ring_cluster.specs.declared.driver.OwnTurn.TheVariants as turn
use Rattle.ring_cluster.specs.Seen.{Seen, state_of, IsMemberIn, SameButOwed, with_event}
use Rattle.ring_rules.specs.Work.{is_stale, total}
use Rattle.ring_rules.specs.Settling.{owes_telling}
use Rattle.ring_cluster.specs.Plays.{HasGoneOn, SameGiven, LeavesAgenda, client_events, todo, agenda_of}
use Rattle.ring_parties.specs.Turns.{IsOfRound}
use Rattle.ring_cluster.specs.Backlog.{backlog_of}
use Rattle.ring_rules.specs.Kind.{step_event}

-- the member at place i has this name
abbrev pub IsMemberAt : Seen → ℕ → List ℕ → Type 0
IsMemberAt c i name = IsMemberIn (state_of c) i name

-- each member stays at its place, with its name
abbrev pub MembersStay : Seen → Seen → Type 0
MembersStay c d = (i : ℕ) (name : List ℕ) → IsMemberAt c i name → IsMemberAt d i name

-- and none waits again that has ceased to wait
abbrev pub NoneWaitsAgain : Seen → Seen → Type 0
NoneWaitsAgain c d = (i : ℕ) → i + 1 < size (state_of c) → (member_at (state_of c) (i + 1)).phase ≢ Waiting → (member_at (state_of d) (i + 1)).phase ≢ Waiting

-- members have taken turns: what is left of what clients asked isn't more than before
pub record TakesRound (c d : Seen) : Type 0 where
  pub goes : HasGoneOn c d
  pub given : SameGiven c d
  pub stay : MembersStay c d
  pub begun : NoneWaitsAgain c d
  pub less : backlog_of d ≤ backlog_of c

-- they have done steps of their own, and their agendas stay
pub record Works (c d : Seen) : Type 0 where
  pub round : TakesRound c d
  pub agendas : d.agendas ≡ c.agendas

-- Members do a step of their own, or none. Where one was done there is less to do; where none was, all stays and this holds.
pub record DoesOrRests (c d : Seen) (rests : Type 0) (result : Result Bool OutOfMemory) : Type 0 where
  pub works : Works c d
  pub falls : IfOk result (λ b. b ≡ true → total (state_of d) < total (state_of c))
  pub stays : IfOk result (λ b. b ≡ false → SameButOwed c d × rests)

-- Members do or refuse what clients asked, or there is nothing that they do at once. Where any was done less is left; where none
-- was, all stays and this holds.
pub record FinishesOrRests (c d : Seen) (rests : Type 0) (result : Result Bool OutOfMemory) : Type 0 where
  pub round : TakesRound c d
  pub falls : IfOk result (λ b. b ≡ true → backlog_of d < backlog_of c)
  pub stays : IfOk result (λ b. b ≡ false → SameButOwed c d × rests)

-- every member leaves its agenda as it is: what refuses the first task will pass
abbrev pub AllLeaveAgendas : Seen → Type 0
AllLeaveAgendas c = (i : ℕ) (name : List ℕ) → IsMemberAt c i name → LeavesAgenda c name

-- at most so many events have happened since, each of the member of that name
abbrev pub DoesAtMost : ℕ → List ℕ → Seen → Seen → Type 0
DoesAtMost turns name c d = (more : List Event) × (d.events ≡ c.events ++ more) × (length more ≤ turns) × All (λ e. by_of e ≡ name) more

-- the events of the member of that name
abbrev pub events_of : List ℕ → List Event → List Event
events_of name events = filter (λ e. bytes_eq (by_of e) name) events

-- of the events that have happened since, at most so many are of each member
abbrev pub EachDoesAtMost : ℕ → Seen → Seen → Type 0
EachDoesAtMost turns c d = (more : List Event) × (d.events ≡ c.events ++ more) × ((name : List ℕ) → length (events_of name more) ≤ turns)

-- Members of these names, by places, have taken at most so many turns each, side by side: the journal has these events more, by which each has
-- answered so many of its tasks, the next one first, and nobody else any; each event is one that a member does by itself. The tasks that
-- were answered are still on their agendas.
pub record TakesTurns (turns : ℕ) (names : List (List ℕ)) (done : List ℕ) (c d : Seen) : Type 0 where
  pub more : List Event
  pub seen : SameButOwed (record c { events = c.events ++ more }) d
  pub few : (name : List ℕ) → length (events_of name more) ≤ turns
  pub each : All IsOfRound more
  pub within : (i : ℕ) → i < length names → slice_index_or done i 0 ≤ length (agenda_of c (slice_index_or names i []))
  pub answered : (i : ℕ) → i < length names → client_events (slice_index_or names i []) more ≡ todo (take (slice_index_or done i 0) (agenda_of c (slice_index_or names i [])))
  pub nobody_else : (name : List ℕ) → ((i : ℕ) → i < length names → slice_index_or names i [] ≢ name) → client_events name more ≡ []

-- member y may do this step
abbrev pub MayStep : World → ℕ → LinkStep → Type 0
MayStep w y s = refusal w (step_event s (member_at w y).name) ≡ None

-- it may do none
abbrev pub MayStepNowhere : World → ℕ → Type 0
MayStepNowhere w y = (s : LinkStep) → MayStep w y s → ⊥

-- it can't have its right neighbour in the newest view marked dead
abbrev pub MarksNoneAt : World → ℕ → Type 0
MarksNoneAt w y = refusal w (Mark (member_at w y).name (member_at w (right w (newest w) y)).name) ≢ None

-- it can have nobody erased
abbrev pub ErasesNoneAt : World → ℕ → Type 0
ErasesNoneAt w y = (p : ℕ) → p < size w → erase_refusal w y p ≢ None

-- it has no start to publish as a master
abbrev pub StartsNot : World → ℕ → Type 0
StartsNot w y = refusal w (Start (member_at w y).name) ≢ None

-- It isn't stale, and has nobody to have marked or erased; it can't be registered as synchronised; and where its view has entries that
-- it hasn't told how many messages there are, it can't tell them.
pub record RepairsNothing (w : World) (y : ℕ) : Type 0 where
  pub fresh : is_stale (newest w) (member_at w y) ≡ false
  pub marks : MarksNoneAt w y
  pub erases : ErasesNoneAt w y
  pub synced : refusal w (Synced (member_at w y).name) ≢ None
  pub tells : owes_telling w (Some y) ≡ true → refusal w (Depth (member_at w y).name) ≢ None

-- where it runs, it may do no step; and where it is up, it has no start to publish, and nothing to repair
abbrev pub RestsAt : World → ℕ → Type 0
RestsAt w y = runs w y ≡ true → MayStepNowhere w y × ((member_at w y).phase ≡ Up → StartsNot w y × RepairsNothing w y)

-- each member does
abbrev pub AllRest : World → Type 0
AllRest w = (i : ℕ) → i + 1 < size w → RestsAt w (i + 1)

-- the event of what member y has to do by itself
abbrev pub turn_event : World → ℕ → OwnTurn → Event
turn_event w y turn.Start = Start (member_at w y).name
turn_event w y turn.Refresh = Refresh (member_at w y).name (newest w)
turn_event w y turn.Mark = Mark (member_at w y).name (member_at w (right w (newest w) y)).name
turn_event w y (turn.Erase origin) = Erase (member_at w y).name (member_at w origin.0).name
turn_event w y turn.Register = Synced (member_at w y).name
turn_event w y turn.Tell = Depth (member_at w y).name
turn_event w y (turn.Step s) = step_event s (member_at w y).name

-- it has that to do: it is up and stale, or may publish its start, have its right neighbour marked, or that one erased, or be registered,
-- or may tell whom it hasn't told, or may do that step
abbrev pub HasTurn : World → ℕ → OwnTurn → Type 0
HasTurn w y turn.Start = refusal w (turn_event w y turn.Start) ≡ None
HasTurn w y turn.Refresh = ((member_at w y).phase ≡ Up) × (is_stale (newest w) (member_at w y) ≡ true)
HasTurn w y turn.Mark = refusal w (turn_event w y turn.Mark) ≡ None
HasTurn w y (turn.Erase origin) = (1 ≤ origin.0) × (origin.0 < size w) × (refusal w (turn_event w y (turn.Erase origin)) ≡ None)
HasTurn w y turn.Register = refusal w (turn_event w y turn.Register) ≡ None
HasTurn w y turn.Tell = (owes_telling w (Some y) ≡ true) × (refusal w (turn_event w y turn.Tell) ≡ None)
HasTurn w y (turn.Step s) = MayStep w y s

-- where member y is up, and has its start to publish, that has happened
abbrev pub StartsFirst : ℕ → Seen → Seen → Type 0
StartsFirst y c d = (member_at (state_of c) y).phase ≡ Up → HasTurn (state_of c) y turn.Start → SameButOwed (with_event c (turn_event (state_of c) y turn.Start)) d
