-- What events publish.
use Rattle.std.specs.Prelude.{ℕ, List, [], ◌∷◌, bytes_eq, if◌then◌else◌, Option, Some, None}
use Rattle.std.specs.List.{flat_map}
use Rattle.queue_core.specs.declared.message.Message.{Message}
use Rattle.queue_core.specs.declared.message.Message.TheVariants as message
use Rattle.ring_rules.specs.declared.event.Event.{Event}
use Rattle.ring_rules.specs.Kind.{Saying, Own, OfQueue, Kind, Says, kind_of}
use Rattle.ring_rules.specs.Event.{by_of}

-- what is told of a message: the body of a cast, and nothing of what is done to the queue
abbrev pub told_of : Message → Option (List ℕ)
told_of (message.Cast body) = Some body
told_of (message.Queue o) = None

-- one message of the member of a name
abbrev pub one_of : List ℕ → List ℕ → Option (List ℕ) → List (Option (List ℕ))
one_of name by m = if bytes_eq by name then m ∷ [] else []

-- what is told of what a member says
abbrev pub told_of_saying : Saying → Option (List ℕ)
told_of_saying (Own body) = Some body
told_of_saying (OfQueue q) = None

-- what an event of this kind by that member publishes of the member of a name
abbrev pub published_as : List ℕ → List ℕ → Kind → List (Option (List ℕ))
published_as name by (Says s) = one_of name by (told_of_saying s)
published_as name by k = []

-- what an event publishes of it
abbrev pub published_by : List ℕ → Event → List (Option (List ℕ))
published_by name e = published_as name (by_of e) (kind_of e)

-- what events publish of it, in their order
abbrev pub published_in : List ℕ → List Event → List (Option (List ℕ))
published_in name events = flat_map (published_by name) events
