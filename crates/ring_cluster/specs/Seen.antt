-- What is seen of a cluster.
use Rattle.std.specs.Prelude.{◌≡◌, ℕ, ◌+◌, ◌-◌, ◌<◌, ◌^◌, ◌++◌, ◌∷◌, Bool, true, false, List, [], length, map, take, slice_index_or, min}
use Rattle.ring_names.specs.declared.numbers.CreditSpec.{CreditSpec}
use Rattle.ring_script.specs.declared.command.Command.{Command}
use Rattle.group_view.specs.Change.{AreOpeningNames}
use Rattle.ring_rules.specs.declared.event.Event.{Event}
use Rattle.ring_rules.specs.Machine.{World, member_at}
use Rattle.ring_rules.specs.Step.{size, opening}
use Rattle.ring_rules.specs.Event.{IsRun}
use Rattle.gm_member.specs.Stands.{door_links}
use Rattle.ring_cluster.specs.Agendas.{Plan}
use Rattle.ring_parties.specs.Parties.{Shown, Parties}
use Rattle.ring_parties.specs.States.{state}

-- the member at this place of a state has this name
abbrev pub IsMemberIn : World → ℕ → List ℕ → Type 0
IsMemberIn w i name = (i + 1 < size w) × ((member_at w (i + 1)).name ≡ name)

-- A cluster is seen as the names and the credit with which its ring opened, its journal, what each member has
-- still to do, how many rounds were given a number, what it was given: the commands that it took
-- and its rounds and settlings, in their order; whether it owes the registrar a link, which was opened by an event
-- and couldn't be handed over for want of memory; and how many of the links that wait for it each member has collected,
-- by places. What its members hold, and what the ends of their links show, is told of these by `Cluster::member`.
pub record Seen : Type 0 where
  pub credit : CreditSpec
  pub names : List (List ℕ)
  pub events : List Event
  pub agendas : List Plan
  pub rounds : ℕ
  pub given : List Command
  pub owes : Bool
  pub collected : List ℕ

-- the last state of its journal
abbrev pub state_of : Seen → World
state_of c = state c.credit c.names c.events

-- the links at the door of member x: the oldest of those that wait for it, as many as it has collected
abbrev pub collected_at : Seen → ℕ → List ℕ
collected_at c x = take (slice_index_or c.collected (x - 1) 0) (door_links (state_of c) x)

-- how many links each of these members has collected
abbrev pub collected_by : Parties → List ℕ
collected_by q = map (λ (m : Shown). length m.held.door) q.nodes

-- a cluster that has just opened: nothing has happened, and nobody has anything to do or has collected a link
abbrev pub opening_seen : CreditSpec → List (List ℕ) → Seen
opening_seen credit names = record { credit = credit; names = names; events = []; agendas = []; rounds = 0; given = []; owes = false; collected = map (λ _. 0) names }

-- what every cluster keeps of this: its journal is a run of the ring of fewer than 2^59 events, and the count of rounds is a u32
pub record IsGoing (c : Seen) : Type 0 where
  pub are : AreOpeningNames c.names
  pub run : IsRun (opening c.credit c.names) c.events
  pub few : length c.events < 2 ^ 59
  pub rounds : c.rounds < 2 ^ 32

-- c, but that it owes a link or nothing
abbrev pub owing : Bool → Seen → Seen
owing owes c = record c { owes = owes }

-- and that its members have collected so many links
abbrev pub collecting : Bool × List ℕ → Seen → Seen
collecting x c = record c { owes = x.0; collected = x.1 }

-- d is c, but for what is owed and how many links were collected
abbrev pub SameButOwed : Seen → Seen → Type 0
SameButOwed c d = (x : Bool × List ℕ) × (d ≡ collecting x c)

-- d is c, but that it may have handed over what it owed, and members may have collected links
abbrev pub MayHandOver : Seen → Seen → Type 0
MayHandOver c d = (x : Bool × List ℕ) × (d ≡ collecting x c) × (x.0 ≡ true → c.owes ≡ true)

-- one event has happened
abbrev pub with_event : Seen → Event → Seen
with_event c e = record c { events = c.events ++ e ∷ [] }

-- as a round of its own, after which it owes a link or nothing; members may have collected links, and used or dropped some
abbrev pub IsStepped : Seen → Event → Bool → Seen → Type 0
IsStepped c e owes d = (counts : List ℕ) × (d ≡ record c { events = c.events ++ e ∷ []; rounds = min (c.rounds + 1) (2 ^ 32 - 1); owes = owes; collected = counts })
