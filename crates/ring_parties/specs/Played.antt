-- A round that members play side by side.
use Rattle.std.specs.Prelude.{◌≡◌, ℕ, ◌≤◌, true, List, map, slice_get, Some}
use Rattle.std.specs.List.{All}
use Rattle.ring_names.specs.declared.numbers.CreditSpec.{CreditSpec}
use Rattle.ring_rules.specs.declared.event.Event.{Event}
use Rattle.ring_rules.specs.declared.event.Client.{Client}
use Rattle.ring_rules.specs.Event.{asked_of}
use Rattle.ring_rules.specs.declared.phase.Phase.TheVariants.{Up}
use Rattle.gm_member.specs.Shown.{held_of, spare_of}
use Rattle.ring_parties.specs.declared.party.Party.{Party}
use Rattle.ring_parties.specs.Parties.{Parties, shown_in}
use Rattle.ring_parties.specs.Standing.{StandAfter}
use Rattle.ring_parties.specs.Pairing.{IsAt, EachParty, IsHeardIf, HaveMetPairs}
use Rattle.ring_parties.specs.Turn.{MayTurn}
use Rattle.ring_parties.specs.Turns.{TakesItsRound}

-- the name of a party's member
abbrev pub name_by : Party → List ℕ
name_by p = (held_of p.node).name

-- each party's tasks, by places, are asked of it
abbrev pub AreTasks : List Party → List (List Client) → Type 0
AreTasks members tasks = (i : ℕ) (p : Party) (ts : List Client) → IsAt members i p → slice_get tasks i ≡ Some ts → All (λ t. asked_of t ≡ name_by p) ts

-- all parties, where these are the members
abbrev pub with_nodes : Parties → List Party → Parties
with_nodes q members = record q { nodes = map shown_in members }

-- these members stand after a journal with some registrar
abbrev pub StandWithOthers : CreditSpec → List (List ℕ) → List Event → List Party → Type 0
StandWithOthers credit names events members = (q : Parties) × StandAfter credit names events (with_nodes q members)

-- Members may take so many turns in a round: those that are up and are heard may act, each has room for so many entries, and its tasks are its
-- own.
pub record MayTakeTurns (turns : ℕ) (tasks : List (List Client)) (members : List Party) : Type 0 where
  pub may : (i : ℕ) (p : Party) → IsAt members i p → p.meets ≡ true → (held_of p.node).phase ≡ Up → MayTurn p
  pub room : (i : ℕ) (p : Party) → IsAt members i p → turns ≤ spare_of p.node
  pub own : AreTasks members tasks

-- the member at a place has taken its turns, by the tasks and the counts there
abbrev pub TakesRoundAt : ℕ → List (List Client) → List ℕ → ℕ → Party → Party → Type 0
TakesRoundAt turns tasks done i p p' = (ts : List Client) (d : ℕ) → slice_get tasks i ≡ Some ts → slice_get done i ≡ Some d → TakesItsRound turns ts d p p'

-- Each has taken them.
pub record TakeTheirTurns (turns : ℕ) (tasks : List (List Client)) (done : List ℕ) (old new : List Party) : Type 0 where
  pub all : EachParty (TakesRoundAt turns tasks done) old new

-- Members have played: the ends of their links have met, it was seen who is heard, each has taken its turns, and the ends have met again.
pub record HavePlayed (turns : ℕ) (tasks : List (List Client)) (done : List ℕ) (old new : List Party) : Type 0 where
  pub met : List Party
  pub first : HaveMetPairs old met
  pub heard : List Party
  pub hear : EachParty (λ _ p p'. IsHeardIf met p p') met heard
  pub turned : List Party
  pub turn : TakeTheirTurns turns tasks done heard turned
  pub last : HaveMetPairs turned new
