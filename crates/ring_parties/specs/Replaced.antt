-- Between an event and the meetings after it.
use Rattle.std.specs.Prelude.{◌≡◌, ◌⊎◌, ℕ, ◌<◌, ◌≤◌, true, false, ◌+◌, ◌-◌, List, [], ◌∷◌, length, Option, Some, None}
use Rattle.group_view.specs.declared.link.LinkName.{LinkName}
use Rattle.group_view.specs.Ring.{is_in}
use Rattle.ring_names.specs.declared.numbers.CreditSpec.{CreditSpec}
use Rattle.ring_rules.specs.declared.event.Event.{Event}
use Rattle.ring_rules.specs.Machine.{World, member_at, link_at}
use Rattle.ring_rules.specs.Step.{size}
use Rattle.gm_member.specs.Held.{at_some}
use Rattle.ring_parties.specs.Ends.{OutSeen, HaveMet, HasRested}
use Rattle.ring_parties.specs.Parties.{Parties}
use Rattle.ring_parties.specs.States.{state}
use Rattle.ring_parties.specs.Standing.{Places, StandIn, SendersKnow, IsJournal, StandAfter, name_of, has_out, has_in}

-- each out end that was dropped had met its other end, but for this one, which was just replaced
abbrev pub DroppedHaveMet : World → Places → Option (LinkName × OutSeen) → Type 0
DroppedHaveMet w p replaced = (s : ℕ) → s < length w.links → has_in w s ≡ true → has_out w s ≡ false
    → HasRested (p.outs s) (p.ins s) ⊎ (replaced ≡ Some (name_of w s, p.outs s))

-- it is the out end of a link of which its sender has no end, and what that end showed last, where the link's receiver may still take from it
abbrev pub ReplacedFits : World → Places → Option (LinkName × OutSeen) → Type 0
ReplacedFits w p replaced = (s : ℕ) (o : OutSeen) → s < length w.links → has_in w s ≡ true → replaced ≡ Some (name_of w s, o) → (has_out w s ≡ false) × (p.outs s ≡ o)

-- of each link that has both ends they have met, but for links on which these members send
abbrev pub OthersHaveMet : World → Places → List ℕ → Type 0
OthersHaveMet w p ids = (s : ℕ) → s < length w.links → has_in w s ≡ true → has_out w s ≡ true → is_in (link_at w s).sender ids ≡ false → HaveMet (p.outs s) (p.ins s)

-- The parties stand in a state in which ends still have to meet: of links on which these members send, and an out end that was just replaced
-- may be among them.
pub record StandBetween (initial : ℕ) (w : World) (ids : List ℕ) (q : Parties) (replaced : Option (LinkName × OutSeen)) : Type 0 where
  pub places : Places
  pub stand : StandIn initial w q places
  pub dropped : DroppedHaveMet w places replaced
  pub fits : ReplacedFits w places replaced
  pub met : OthersHaveMet w places ids
  pub known : SendersKnow w places

-- who sends on the link from which x takes
abbrev pub sender_to : ℕ → World → List ℕ
sender_to x w = at_some (member_at w x).current [] (λ s. (link_at w s).sender ∷ [])

-- the senders of the links whose ends an event of x may have moved: x itself, and that one
abbrev pub moved_by : ℕ → World → List ℕ
moved_by x w = x ∷ sender_to x w

-- The journal is a run, and the parties stand in its last state, in which ends still have to meet; an out end that was just replaced may be
-- among them, which is that of a link to a member.
pub record BetweenAfter (credit : CreditSpec) (names : List (List ℕ)) (events : List Event) (ids : List ℕ) (q : Parties) (replaced : Option (LinkName × OutSeen)) : Type 0 where
  pub journal : IsJournal credit names events
  pub stand : StandBetween credit.initial (state credit names events) ids q replaced
  pub goes : (name : LinkName) (o : OutSeen) → replaced ≡ Some (name, o) → (1 ≤ name.to.0) × (name.to.0 < size (state credit names events))

-- they stand so after the journal of some cluster
abbrev pub BetweenSomewhere : Parties → Option (LinkName × OutSeen) → Type 0
BetweenSomewhere q replaced = (credit : CreditSpec) × (names : List (List ℕ)) × (events : List Event) × (ids : List ℕ) × BetweenAfter credit names events ids q replaced

-- wherever these stand so, the others do, with no replaced end
abbrev pub MeetsReplaced : Parties → Option (LinkName × OutSeen) → Parties → Type 0
MeetsReplaced q replaced q' = (credit : CreditSpec) (names : List (List ℕ)) (events : List Event) (ids : List ℕ) → BetweenAfter credit names events ids q replaced → BetweenAfter credit names events ids q' None

-- ---- the meetings after an event

-- a member has the id
abbrev pub IsMember : ℕ → Parties → Type 0
IsMember x q = (1 ≤ x) × (x - 1 < length q.nodes)

-- who sends on the link of a name
abbrev pub sender_in : Option LinkName → List ℕ
sender_in name = at_some name [] (λ (n : LinkName). n.from.0 ∷ [])

-- after the journal of some cluster only links on which these members send have still to meet
abbrev pub SendersSomewhere : List ℕ → Parties → Type 0
SendersSomewhere ids q = (credit : CreditSpec) × (names : List (List ℕ)) × (events : List Event) × BetweenAfter credit names events ids q None

-- wherever that is so, the others stand, and nothing waits in their ends
abbrev pub MeetsSenders : List ℕ → Parties → Parties → Type 0
MeetsSenders ids q q' = (credit : CreditSpec) (names : List (List ℕ)) (events : List Event) → BetweenAfter credit names events ids q None → StandAfter credit names events q'

-- the parties stand after an event of the member at place i, which may have moved ends
abbrev pub MovedAfter : CreditSpec → List (List ℕ) → List Event → ℕ → Parties → Type 0
MovedAfter credit names events i q = BetweenAfter credit names events (moved_by (i + 1) (state credit names events)) q None

-- they do so after the journal of some cluster
abbrev pub MovedSomewhere : ℕ → Parties → Type 0
MovedSomewhere i q = (credit : CreditSpec) × (names : List (List ℕ)) × (events : List Event) × MovedAfter credit names events i q

-- wherever they do, the others stand, and nothing waits in their ends
abbrev pub MeetsMoved : ℕ → Parties → Parties → Type 0
MeetsMoved i q q' = (credit : CreditSpec) (names : List (List ℕ)) (events : List Event) → MovedAfter credit names events i q → StandAfter credit names events q'
