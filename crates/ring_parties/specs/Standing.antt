-- When the parties of a cluster stand in a state of the ring.
use Rattle.std.specs.Prelude.{◌≡◌, ℕ, ◌+◌, ◌-◌, ◌<◌, ◌≤◌, ◌^◌, ◌++◌, ◌∷◌, Bool, true, false, List, [], length, map, nat_eq, Some, None, option_map}
use Rattle.std.specs.List.{filter}
use Rattle.ring_names.specs.declared.numbers.CreditSpec.{CreditSpec}
use Rattle.group_view.specs.declared.link.LinkName.{LinkName}
use Rattle.group_view.specs.Ring.{is_in}
use Rattle.group_view.specs.Change.{AreOpeningNames}
use Rattle.group_view.specs.Since.{no_group}
use Rattle.ring_rules.specs.declared.event.Event.{Event}
use Rattle.ring_rules.specs.Machine.{World, member_at, link_at}
use Rattle.ring_rules.specs.OpenLinks.{is_place, is_open}
use Rattle.ring_rules.specs.Step.{size, opening}
use Rattle.ring_rules.specs.Event.{IsRun, is_stopped}
use Rattle.gm_member.specs.View.{ring_link}
use Rattle.gm_member.specs.Stands.{incoming_in, door_links, held_in}
use Rattle.ring_parties.specs.Ends.{OutSeen, InSeen, Carries, HaveMet, HasRested}
use Rattle.ring_parties.specs.States.{state}
use Rattle.ring_parties.specs.Parties.{Shown, Parties, PartiesSeen, node_at}
use Rattle.ring_parties.specs.Keeps.{keeps_at}
use Rattle.ring_parties.specs.Acting.{IsBooked}

-- Of each link of the ring, by its place: what its out end shows, and last showed where it was dropped; what its in end shows; and the
-- places of the links that wait for their receivers.
pub record Places : Type 0 where
  pub outs : ℕ → OutSeen
  pub ins : ℕ → InSeen
  pub deposits : List ℕ

-- the name of the link at place s
abbrev pub name_of : World → ℕ → LinkName
name_of w s = ring_link (link_at w s).sender (link_at w s).receiver (link_at w s).opened

-- whether it goes to x
abbrev pub is_to : World → ℕ → ℕ → Bool
is_to w x s = nat_eq (link_at w s).receiver x

-- whether its sender still has its out end
abbrev pub has_out : World → ℕ → Bool
has_out w s = is_place (member_at w (link_at w s).sender).out s

-- whether its receiver may still take from it
abbrev pub has_in : World → ℕ → Bool
has_in w s = is_open w (link_at w s).receiver s

-- A member stands at the id x, but for the links at its door that it hasn't collected yet; it has the ends of its links, and none that it
-- has replaced or left.
pub record MemberStands (w : World) (p : Places) (x : ℕ) (m : Shown) : Type 0 where
  pub door : List ℕ
  pub comes : door_links w x ≡ door ++ filter (is_to w x) p.deposits
  pub held : m.held ≡ record (held_in w x) { door = map (incoming_in w) door }
  pub out : m.ends.out ≡ option_map p.outs (member_at w x).out
  pub returned : m.ends.returned ≡ None
  pub link : m.ends.link ≡ option_map p.ins (member_at w x).current
  pub ends : m.ends.door ≡ map (λ s. Some (p.ins s)) door
  pub old_outs : m.ends.old_outs ≡ []
  pub old_ins : m.ends.old_ins ≡ []

-- The parties show a state: each member at its id, the registrar with the views and the notices of just those that have stopped, the links
-- that wait with their names and ends; and this holds of each link that its receiver may still take from.
pub record Shows (Holds : ℕ → Type 0) (w : World) (q : Parties) (p : Places) : Type 0 where
  pub count : length q.nodes + 1 ≡ size w
  pub each : (x : ℕ) → 1 ≤ x → x < size w → MemberStands w p x (node_at q (x - 1))
  pub views : w.views ≡ no_group ∷ q.views
  pub stopped : (x : ℕ) → 1 ≤ x → x < size w → is_in x q.stopped ≡ is_stopped (member_at w x).phase
  pub nobody_else : (x : ℕ) → size w ≤ x → is_in x q.stopped ≡ false
  pub deposits : q.deposits ≡ map (λ s. record { name = name_of w s; end = Some (p.ins s) }) p.deposits
  pub within : (s : ℕ) → is_in s p.deposits ≡ true → s < length w.links
  pub carry : (s : ℕ) → s < length w.links → has_in w s ≡ true → Holds s

-- They stand in it: the ends of each such link carry it.
abbrev pub StandIn : ℕ → World → Parties → Places → Type 0
StandIn initial w q p = Shows (λ s. Carries w initial (link_at w s) (p.outs s) (p.ins s)) w q p

-- the ends of a link have met, and where the out end was dropped, it had met the in end before
abbrev pub HaveDone : Bool → OutSeen → InSeen → Type 0
HaveDone true o n = HaveMet o n
HaveDone false o n = HasRested o n

-- of each link that has both ends they have met; of one whose out end was dropped, it had
abbrev pub AllHaveMet : World → Places → Type 0
AllHaveMet w p = (s : ℕ) → s < length w.links → has_in w s ≡ true → HaveDone (has_out w s) (p.outs s) (p.ins s)

-- of each link that its receiver has left and its sender still has, the sender knows every grant that was given: each that hasn't become
-- credit yet has come back to its out end
abbrev pub SendersKnow : World → Places → Type 0
SendersKnow w p = (s : ℕ) → s < length w.links → has_in w s ≡ false → has_out w s ≡ true → (p.outs s).back ≡ (link_at w s).flow.grants

-- The parties stand in a state, and nothing waits in the ends of a link.
pub record Stand (initial : ℕ) (w : World) (q : Parties) : Type 0 where
  pub places : Places
  pub stand : StandIn initial w q places
  pub met : AllHaveMet w places
  pub known : SendersKnow w places

-- ---- a cluster

-- The journal is a run of the ring of fewer than 2^59 events.
pub record IsJournal (credit : CreditSpec) (names : List (List ℕ)) (events : List Event) : Type 0 where
  pub are : AreOpeningNames names
  pub run : IsRun (opening credit names) events
  pub few : length events < 2 ^ 59

-- The journal is a run, and the parties stand in its last state.
pub record StandAfter (credit : CreditSpec) (names : List (List ℕ)) (events : List Event) (q : Parties) : Type 0 where
  pub journal : IsJournal credit names events
  pub stand : Stand credit.initial (state credit names events) q

-- they stand after the journal of some cluster
abbrev pub StandSomewhere : Parties → Type 0
StandSomewhere q = (credit : CreditSpec) × (names : List (List ℕ)) × (events : List Event) × StandAfter credit names events q

-- The member at a place may act: the parties stand somewhere, and owe the registrar nothing; and its book has what it has published.
pub record MayAct (q : PartiesSeen) (i : ℕ) : Type 0 where
  pub within : i < length q.all.nodes
  pub delivered : q.owes ≡ false
  pub standing : StandSomewhere q.all
  pub booked : IsBooked (node_at q.all i) (keeps_at q.keeps i)

-- the others stand wherever these do
abbrev pub StandStill : Parties → Parties → Type 0
StandStill q q' = (credit : CreditSpec) (names : List (List ℕ)) (events : List Event) → StandAfter credit names events q → StandAfter credit names events q'
