-- The turns of a party in a round, by what its clients ask of it.
use Rattle.std.specs.Prelude.{◌≡◌, ◌≢◌, ◌⊎◌, ℕ, ◌<◌, ◌≤◌, Bool, true, false, List, [], ◌∷◌, length, map, take, slice_index_or, bytes_eq, Option, Some, None, Result, IfOk, OnErr, ⊤}
use Rattle.std.specs.List.{All, filter}
use Rattle.ring_rules.specs.declared.event.Event.{Event}
use Rattle.ring_rules.specs.declared.event.Event.TheVariants.{Refuse, Start}
use Rattle.ring_rules.specs.declared.event.Client.{Client}
use Rattle.ring_names.specs.declared.memory.OutOfMemory.{OutOfMemory}
use Rattle.ring_rules.specs.Kind.{Kind, Says, kind_of}
use Rattle.ring_rules.specs.Event.{is_asked, by_of, asked_of, event_of}
use Rattle.ring_parties.specs.declared.party.Party.{Party}
use Rattle.ring_parties.specs.declared.turn.Turn.{Turn}
use Rattle.ring_parties.specs.declared.turn.Turn.TheVariants as turn
use Rattle.ring_rules.specs.declared.phase.Phase.TheVariants.{Up}
use Rattle.lamport_merge.specs.Merge.{Log}
use Rattle.lamport_merge.specs.Recorder.{begun}
use Rattle.gm_member.specs.Shown.{held_of, ends_of, recorded_of, spare_of}
use Rattle.ring_parties.specs.Parties.{keeps_in}
use Rattle.ring_parties.specs.Turn.{Acted}

-- whether a member says something by an event of this kind
abbrev pub is_saying : Kind → Bool
is_saying (Says s) = true
is_saying k = false

-- what a client asked for that has come of an event: what was done, or what was refused
abbrev pub answered_by : Event → Event
answered_by (Refuse code inner) = event_of inner
answered_by e = e

-- what clients asked for that was answered by events, in order
abbrev pub answers_in : List Event → List Event
answers_in events = map answered_by (filter is_asked events)

-- whether a member answers a client by itself: it says, or tells a refusal of what it would say
abbrev pub is_by_itself : Event → Bool
is_by_itself (Refuse code inner) = is_saying (kind_of (event_of inner))
is_by_itself e = is_saying (kind_of e)

-- an event in a round is a step of the member's own, or answers a client by itself
abbrev pub IsOfRound : Event → Type 0
IsOfRound e = (is_asked e ≡ false) ⊎ (is_by_itself e ≡ true)

-- it answers a client, or is a start as a master
abbrev pub Begins : Event → Type 0
Begins e = (is_asked e ≡ true) ⊎ ((by : List ℕ) × (e ≡ Start by))

-- the first of these events does, where there is any
abbrev pub FirstBegins : List Event → Type 0
FirstBegins [] = ⊤
FirstBegins (e ∷ es) = Begins e

-- A party has taken at most so many turns in a round: in these events it has answered the first ones of these tasks, in their order, beside
-- steps of its own; where it had a task, it began with that, or as a master.
pub record HasTaken (turns : ℕ) (tasks : List Client) (done : ℕ) (events : List Event) : Type 0 where
  pub few : length events ≤ turns
  pub within : done ≤ length tasks
  pub answers : answers_in events ≡ map event_of (take done tasks)
  pub each : All IsOfRound events
  pub begins : tasks ≢ [] → FirstBegins events

-- the events of the member of a name
abbrev pub events_of : List ℕ → List Event → List Event
events_of name events = filter (λ e. bytes_eq (by_of e) name) events

-- of the member at a place these tasks are next
abbrev pub tasks_at : List (List Client) → ℕ → List Client
tasks_at tasks i = slice_index_or tasks i []

-- each member's tasks were asked of it
abbrev pub AreAskedOf : List (List ℕ) → List (List Client) → Type 0
AreAskedOf names tasks = (i : ℕ) → i < length names → All (λ t. asked_of t ≡ slice_index_or names i []) (tasks_at tasks i)

-- Members of these names have taken at most so many turns each in a round, of which these are the events, in the order of the journal: each
-- has answered so many of its tasks, and nobody else has done anything.
pub record HaveTaken (turns : ℕ) (names : List (List ℕ)) (tasks : List (List Client)) (done : List ℕ) (events : List Event) : Type 0 where
  pub count : length done ≡ length names
  pub each : (i : ℕ) → i < length names → HasTaken turns (tasks_at tasks i) (slice_index_or done i 0) (events_of (slice_index_or names i []) events)
  pub nobody_else : (name : List ℕ) → ((i : ℕ) → i < length names → slice_index_or names i [] ≢ name) → events_of name events ≡ []

-- what came of a turn: of the task that is next, if any
abbrev pub IsTurn : Option Client → Turn → List Event → Type 0
IsTurn None turn.Task events = ⊥
IsTurn (Some t) turn.Task events = (e : Event) × (events ≡ e ∷ []) × (is_asked e ≡ true) × (answered_by e ≡ event_of t) × (is_by_itself e ≡ true)
IsTurn next turn.Own events = (e : Event) × (events ≡ e ∷ []) × (is_asked e ≡ false)
IsTurn next turn.Nothing events = events ≡ []

-- where a task is next and it is to be begun with, what was done begins
abbrev pub BeginsIf : Bool → Option Client → List Event → Type 0
BeginsIf true (Some t) events = FirstBegins events
BeginsIf first next events = ⊤

-- A party has taken a turn, in which it was to begin with its task or not.
pub record TookTurn (begins : Bool) (next : Option Client) (p p' : Party) (result : Result Turn OutOfMemory) : Type 0 where
  pub ok : IfOk result (λ t. (events : List Event) × Acted events p p' × IsTurn next t events × BeginsIf begins next events)
  pub err : OnErr result (Acted [] p p')

-- What a party shows that isn't up stays, and it has done nothing; else it has taken turns, and has done just these events in them.
pub record TakesRound (turns : ℕ) (tasks : List Client) (done : ℕ) (p p' : Party) : Type 0 where
  pub events : List Event
  pub taken : HasTaken turns tasks done events
  pub acted : (held_of p.node).phase ≡ Up → Acted events p p'
  pub rests : (held_of p.node).phase ≢ Up → (p' ≡ p) × (events ≡ [])

-- A party holds and keeps what it did, and has the ends that it had.
pub record SameShown (p p' : Party) : Type 0 where
  pub held : held_of p'.node ≡ held_of p.node
  pub ends : ends_of p'.node ≡ ends_of p.node
  pub keeps : keeps_in p' ≡ keeps_in p
  pub meets : p'.meets ≡ p.meets

-- A round of a number has begun for it, with room for so many entries.
pub record Begun (number turns : ℕ) (p p' : Party) : Type 0 where
  pub same : SameShown p p'
  pub recorded : recorded_of p'.node ≡ begun number false (recorded_of p.node)
  pub room : turns ≤ spare_of p'.node

-- It has taken its turns, where its receiver takes from its link; else it rests.
abbrev pub TakesItsRound : ℕ → List Client → ℕ → Party → Party → Type 0
TakesItsRound turns tasks done p p' = (p.meets ≡ true → TakesRound turns tasks done p p') × (p.meets ≡ false → (p' ≡ p) × (done ≡ 0))

-- its log, by the id of its member
abbrev pub log_by : Party → Log Event
log_by p = record { party = (held_of p.node).id; entries = (recorded_of p.node).entries }
