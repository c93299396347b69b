-- What a queue answers.
use Rattle.std.specs.Prelude.{ℕ, cond, nat_le, List, Option, Some, None, Result, Ok, Err, find}
use Rattle.std.specs.List.{list_any}
use Rattle.ring_names.specs.declared.numbers.Position.{Position}
use Rattle.ring_names.specs.declared.reason.Reason.{Reason}
use Rattle.ring_names.specs.declared.reason.Reason.TheVariants.{QueueEmpty, UnknownPosition, NotDelivered}
use Rattle.queue_core.specs.declared.held.Held.{Held}
use Rattle.queue_core.specs.Queue.{Item, is_at, is_unacked_at}
use Rattle.queue_core.specs.Legal.{least_ready}

-- a number as a position
abbrev pub as_position : ℕ → Position
as_position a = record { 0 = a }

-- a position that was found, or that nothing is ready
abbrev pub or_empty : Option ℕ → Result Position Reason
or_empty None = Err QueueEmpty
or_empty (Some a) = Ok (as_position a)

-- the position of the first ready item, or that nothing is ready
abbrev pub least_of : List Item → Result Position Reason
least_of xs = or_empty (least_ready xs)

-- whether the item at a position is handed out, or that it is ready, or that the position isn't held
abbrev pub delivery_of : ℕ → List Item → Result Unit Reason
delivery_of a xs =
    cond (list_any (is_unacked_at a) xs) (Ok tt) (Err (cond (list_any (is_at a) xs) NotDelivered UnknownPosition))

-- the first item at a position or above it
abbrev pub first_from : ℕ → List Item → Option Item
first_from a xs = find (λ i. nat_le a i.at) xs

-- what is shown of an item, as the item
abbrev pub item_of : Held → Item
item_of h = record { at = h.at.0; body = h.body.now; state = h.state }
