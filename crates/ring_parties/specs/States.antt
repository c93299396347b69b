-- States of the ring by its journal, and whose an event is.
use Rattle.std.specs.Prelude.{◌≡◌, ℕ, ◌+◌, ◌<◌, List}
use Rattle.ring_names.specs.declared.numbers.CreditSpec.{CreditSpec}
use Rattle.ring_rules.specs.declared.event.Event.{Event}
use Rattle.ring_rules.specs.Machine.{World, member_at}
use Rattle.ring_rules.specs.Step.{size, opening}
use Rattle.ring_rules.specs.Event.{last, by_of}

-- the state of the ring after these events from its opening
abbrev pub state : CreditSpec → List (List ℕ) → List Event → World
state credit names events = last (opening credit names) events

-- it is an event of the member at this place of a state, of the opening or joined
abbrev pub IsEventIn : World → ℕ → Event → Type 0
IsEventIn w i e = (i + 1 < size w) × (by_of e ≡ (member_at w (i + 1)).name)
