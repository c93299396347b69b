-- Events are acts: a run of events is one of acts, and tells of no copy.
use Rattle.std.proofs.Common.{◌≡◌, List, [], ◌∷◌, ◌++◌, map, refl}
use Rattle.ring_rules.specs.Machine.{World}
use Rattle.ring_rules.specs.Event as event
use Rattle.ring_rules.specs.Event.{Event}
use Rattle.ring_rules.specs.Act.{Act, act_of, effect, IsRun, last}
use Rattle.ring_rules.specs.QueueLaws.{CopiesAreRight}

-- the acts of these events
abbrev pub acts_of : List Event → List Act
acts_of es = map act_of es

-- they are enabled as the events are
pub acts_run : (w : World) (es : List Event) → event.IsRun w es → IsRun w (acts_of es)
acts_run w [] r = tt
acts_run w (e ∷ es) r = (r.0, acts_run (event.effect w e) es r.1)

-- and leave the ring in the same state
pub acts_last : (w : World) (es : List Event) → last w (acts_of es) ≡ event.last w es
acts_last w [] = refl
acts_last w (e ∷ es) = acts_last (event.effect w e) es

-- without a copy among them
pub acts_right : (w : World) (es : List Event) → CopiesAreRight w (acts_of es)
acts_right w [] = tt
acts_right w (e ∷ es) = (λ x is. tt, acts_right (event.effect w e) es)

-- copies that are right, and more of them
pub right_append : (w : World) (acts more : List Act) → CopiesAreRight w acts → CopiesAreRight (last w acts) more → CopiesAreRight w (acts ++ more)
right_append w [] more h k = k
right_append w (a ∷ acts) more h k = (h.0, right_append (effect w a) acts more h.1 k)
