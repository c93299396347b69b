-- Links of which both ends stand at members: the one on which a member sends is that from which its receiver takes.
use Rattle.std.specs.Prelude.{◌≡◌, ◌⊎◌, ℕ, ◌+◌, ◌≤◌, Bool, true, false, cond, nat_eq, List, length, slice_get, Option, Some, None, is_some}
use Rattle.group_view.specs.declared.link.LinkName.{LinkName}
use Rattle.ordered_link.specs.declared.ring.RingOut.{RingOut}
use Rattle.ordered_link.specs.declared.ring.RingIn.{RingIn}
use Rattle.ordered_link.specs.RingSteps.{RingMeets, RingsHaveMet, OutStays, InStays}
use Rattle.activity.specs.declared.packet.Load.{Load}
use Rattle.gm_member.specs.Shown.{Ends, held_of, ends_of, out_name_of, in_name_of}
use Rattle.ring_parties.specs.declared.party.Party.{Party}
use Rattle.ring_parties.specs.Ends.{Fits}
use Rattle.ring_parties.specs.Parties.{out_seen, in_seen, keeps_in}

-- a party stands at a place
abbrev pub IsAt : List Party → ℕ → Party → Type 0
IsAt members i p = slice_get members i ≡ Some p

-- two lists have a party at each place, where this holds of the two
pub record EachParty (R : ℕ → Party → Party → Type 0) (old new : List Party) : Type 0 where
  pub count : length new ≡ length old
  pub each : (i : ℕ) (p p' : Party) → IsAt old i p → IsAt new i p' → R i p p'

-- the link on which p sends is the one from which q takes
abbrev pub ArePaired : Party → Party → Type 0
ArePaired p q = (name : LinkName) × (out_name_of (held_of p.node) ≡ Some name) × (in_name_of (held_of q.node) 0 ≡ Some name)

-- nobody takes from the link on which p sends
abbrev pub SendsApart : List Party → Party → Type 0
SendsApart members p = (j : ℕ) (q : Party) → IsAt members j q → ArePaired p q → ⊥

-- so of the member at a place
abbrev pub SendsApartAt : List Party → ℕ → Type 0
SendsApartAt members i = (p : Party) → IsAt members i p → SendsApart members p

-- The member at place j takes from the link on which the one at place i sends.
pub record TakesFrom (members : List Party) (i j : ℕ) : Type 0 where
  pub sender : Party
  pub receiver : Party
  pub sends : IsAt members i sender
  pub takes : IsAt members j receiver
  pub paired : ArePaired sender receiver

-- nobody sends on the link from which q takes
abbrev pub TakesApart : List Party → Party → Type 0
TakesApart members q = (i : ℕ) (p : Party) → IsAt members i p → ArePaired p q → ⊥

-- The ends of such links may meet: each member has its id, by places, and the ends of its links; and those of one link fit.
pub record MayMeetPairs (members : List Party) : Type 0 where
  pub ids : (i : ℕ) (p : Party) → IsAt members i p → (held_of p.node).id ≡ i + 1
  pub to : (i : ℕ) (p : Party) (name : LinkName) → IsAt members i p → out_name_of (held_of p.node) ≡ Some name → 1 ≤ name.to.0
  pub outs : (i : ℕ) (p : Party) → IsAt members i p → is_some (held_of p.node).out ≡ is_some (ends_of p.node).out
  pub links : (i : ℕ) (p : Party) → IsAt members i p → is_some (held_of p.node).current ≡ is_some (ends_of p.node).link
  pub fits : (i j : ℕ) (p q : Party) (o : RingOut Load) (n : RingIn Load) → IsAt members i p → IsAt members j q → ArePaired p q
      → (ends_of p.node).out ≡ Some o → (ends_of q.node).link ≡ Some n → Fits (out_seen o) (in_seen n)

-- an out end may have met its other end, where it is there
abbrev pub OutMeets : Option (RingOut Load) → Option (RingOut Load) → Type 0
OutMeets None b = b ≡ None
OutMeets (Some o) b = (o' : RingOut Load) × (b ≡ Some o') × ((o' ≡ o) ⊎ OutStays o o')

-- and an in end
abbrev pub InMeets : Option (RingIn Load) → Option (RingIn Load) → Type 0
InMeets None b = b ≡ None
InMeets (Some n) b = (n' : RingIn Load) × (b ≡ Some n') × ((n' ≡ n) ⊎ InStays n n')

-- A party holds, keeps and has recorded what it did; the ends of its two links may have met the others.
pub record Meets (p p' : Party) : Type 0 where
  pub held : held_of p'.node ≡ held_of p.node
  pub keeps : keeps_in p' ≡ keeps_in p
  pub recorder : p'.node.recorder ≡ p.node.recorder
  pub others : ends_of p'.node ≡ record (ends_of p.node) { out = (ends_of p'.node).out; link = (ends_of p'.node).link }
  pub out : OutMeets (ends_of p.node).out (ends_of p'.node).out
  pub link : InMeets (ends_of p.node).link (ends_of p'.node).link

-- the ends of a member at place k, where the out end of that at place i and the in end of that at place j are these now
abbrev pub met_ends : ℕ → ℕ → ℕ → RingOut Load → RingIn Load → Ends (RingOut Load) (RingIn Load) → Ends (RingOut Load) (RingIn Load)
met_ends k i j o n e = record e { out = cond (nat_eq k i) (Some o) e.out; link = cond (nat_eq k j) (Some n) e.link }

-- A party has these ends, and else is as it was.
pub record HasEnds (e : Ends (RingOut Load) (RingIn Load)) (p p' : Party) : Type 0 where
  pub ends : ends_of p'.node ≡ e
  pub held : held_of p'.node ≡ held_of p.node
  pub keeps : keeps_in p' ≡ keeps_in p
  pub recorder : p'.node.recorder ≡ p.node.recorder
  pub meets : p'.meets ≡ p.meets

-- The ends of the link on which the member at a place sends have met: its own, and that of its receiver.
pub record MeetsOne (i : ℕ) (old new : List Party) : Type 0 where
  pub place : ℕ
  pub pair : TakesFrom old i place
  pub out : RingOut Load
  pub has_out : (ends_of pair.sender.node).out ≡ Some out
  pub link : RingIn Load
  pub has_link : (ends_of pair.receiver.node).link ≡ Some link
  pub out_met : RingOut Load
  pub link_met : RingIn Load
  pub meet : RingMeets out link out_met link_met
  pub each : EachParty (λ k p p'. HasEnds (met_ends k i place out_met link_met (ends_of p.node)) p p') old new

-- They have met where its receiver takes from that link; else all is as it was.
pub record TriesToMeet (i : ℕ) (old new : List Party) (met : Bool) : Type 0 where
  pub did : met ≡ true → MeetsOne i old new
  pub did_not : met ≡ false → (new ≡ old) × SendsApartAt old i

-- The ends of all such links have met, and other ends are as they were; and it is marked who sends on such a link.
pub record HaveMetPairs (old new : List Party) : Type 0 where
  pub stay : EachParty (λ i p p'. Meets p p') old new
  pub met : (i j : ℕ) (p q : Party) (o : RingOut Load) (n : RingIn Load) → IsAt new i p → IsAt new j q → ArePaired p q
      → (ends_of p.node).out ≡ Some o → (ends_of q.node).link ≡ Some n → RingsHaveMet o n
  pub apart_out : (i : ℕ) (p p' : Party) → IsAt old i p → IsAt new i p' → SendsApart old p → (ends_of p'.node).out ≡ (ends_of p.node).out
  pub apart_in : (j : ℕ) (q q' : Party) → IsAt old j q → IsAt new j q' → TakesApart old q → (ends_of q'.node).link ≡ (ends_of q.node).link
  pub marked : (i : ℕ) (p' : Party) → IsAt new i p' → p'.meets ≡ true → (j : ℕ) × (q' : Party) × IsAt new j q' × ArePaired p' q'
  pub unmarked : (i : ℕ) (p' : Party) → IsAt new i p' → p'.meets ≡ false → SendsApart new p'

-- somebody sends on the link from which the member at a place takes
abbrev pub IsHeardAt : List Party → ℕ → Type 0
IsHeardAt members j = (i : ℕ) × TakesFrom members i j

-- A party is as it was, but that it may have lost its mark: it has that only where somebody sends on the link from which it takes.
pub record IsHeardIf (members : List Party) (p p' : Party) : Type 0 where
  pub node : p'.node ≡ p.node
  pub keeps : keeps_in p' ≡ keeps_in p
  pub heard : p'.meets ≡ true → (p.meets ≡ true) × ((i : ℕ) × (r : Party) × IsAt members i r × ArePaired r p)
