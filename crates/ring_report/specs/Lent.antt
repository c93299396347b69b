-- Events that are lent.
use Rattle.std.specs.Prelude.{List, map}
use Rattle.std.specs.Borrow.{Bor}
use Rattle.ring_rules.specs.declared.event.Event.{Event}

-- the events behind these
abbrev pub lent_in : List (Bor Event) → List Event
lent_in events = map (λ (e : Bor Event). e.now) events
