-- A queue, and what each operation does to it.
use Rattle.std.specs.Prelude.{ℕ, ◌+◌, Bool, true, false, cond, ◌&&◌, not, max, nat_eq, nat_lt, List, [], ◌∷◌, ◌++◌, map}
use Rattle.std.specs.List.{filter, list_all}
use Rattle.queue_core.specs.declared.op.Op.{Op}
use Rattle.queue_core.specs.declared.op.Op.TheVariants.{Publish, Deliver, Drop, Ack, Requeue, Depth, Start, SyncMark}
use Rattle.queue_core.specs.declared.held.CopyState.{CopyState}
use Rattle.queue_core.specs.declared.held.CopyState.TheVariants.{Ready, Again, Unacked}

-- an item of a queue: its position, its body, and how it stands
pub record Item : Type 0 where
  pub at : ℕ
  pub body : List ℕ
  pub state : CopyState

-- the next position, and the items in the order of their positions
pub record QueueState : Type 0 where
  pub next : ℕ
  pub items : List Item

-- the greatest number of 64 bits, which is never given as a position
abbrev pub greatest : ℕ
greatest = 18446744073709551615

-- whether an item that stands so is handed out
abbrev pub is_handed : CopyState → Bool
is_handed Ready = false
is_handed Again = false
is_handed Unacked = true

-- an item that is handed out and not acknowledged
abbrev pub is_unacked : Item → Bool
is_unacked i = is_handed i.state

-- an item that waits to be handed out
abbrev pub is_ready : Item → Bool
is_ready i = not (is_handed i.state)

-- an item that has this position
abbrev pub is_at : ℕ → Item → Bool
is_at a i = nat_eq i.at a

-- a ready item that has it
abbrev pub is_ready_at : ℕ → Item → Bool
is_ready_at a i = nat_eq i.at a && is_ready i

-- an unacknowledged item that has it
abbrev pub is_unacked_at : ℕ → Item → Bool
is_unacked_at a i = nat_eq i.at a && is_unacked i

-- ---- what an operation does to each item by itself

-- whether the item stays: a drop takes a ready item away, an acknowledgement one that is handed out
abbrev pub stays : Op → Item → Bool
stays (Publish at body) i = true
stays (Deliver at) i = true
stays (Drop at) i = not (is_ready_at at.0 i)
stays (Ack at) i = not (is_unacked_at at.0 i)
stays (Requeue at) i = true
stays (Depth depth) i = true
stays (Start depth) i = true
stays (SyncMark target) i = true

-- how it stands then: a ready item is handed out, one that was becomes ready again, and a start makes all ready
abbrev pub state_after : Op → Item → CopyState
state_after (Publish at body) i = i.state
state_after (Deliver at) i = cond (is_ready_at at.0 i) Unacked i.state
state_after (Drop at) i = i.state
state_after (Ack at) i = i.state
state_after (Requeue at) i = cond (is_unacked_at at.0 i) Again i.state
state_after (Depth depth) i = i.state
state_after (Start depth) i = cond (is_unacked i) Again i.state
state_after (SyncMark target) i = i.state

-- the item after the operation
abbrev pub changed : Op → Item → Item
changed op i = record i { state = state_after op i }

-- what the operation leaves of these items
abbrev pub kept : Op → List Item → List Item
kept op xs = map (changed op) (filter (stays op) xs)

-- ---- and the item that it brings

-- every item stands below the position
abbrev pub is_above : ℕ → List Item → Bool
is_above a xs = list_all (λ i. nat_lt i.at a) xs

-- a queue with these items takes a message at that position
abbrev pub takes : ℕ → List Item → Bool
takes a xs = is_above a xs && nat_lt a greatest

-- a message as it is published
abbrev pub new_item : ℕ → List ℕ → Item
new_item a body = record { at = a; body = body; state = Ready }

-- the item that the operation brings to these
abbrev pub born : Op → List Item → List Item
born (Publish at body) xs = cond (takes at.0 xs) (new_item at.0 body ∷ []) []
born (Deliver at) xs = []
born (Drop at) xs = []
born (Ack at) xs = []
born (Requeue at) xs = []
born (Depth depth) xs = []
born (Start depth) xs = []
born (SyncMark target) xs = []

-- the next position
abbrev pub next_after : Op → List Item → ℕ → ℕ
next_after (Publish at body) xs n = cond (takes at.0 xs) (at.0 + 1) n
next_after (Deliver at) xs n = n
next_after (Drop at) xs n = n
next_after (Ack at) xs n = n
next_after (Requeue at) xs n = n
next_after (Depth depth) xs n = n
next_after (Start depth) xs n = n
next_after (SyncMark target) xs n = n

-- the items after an operation
abbrev pub step : Op → List Item → List Item
step op xs = kept op xs ++ born op xs

-- a queue after an operation
abbrev pub apply : Op → QueueState → QueueState
apply op q = record { next = next_after op q.items q.next; items = step op q.items }

-- the queue without items
abbrev pub no_items : QueueState
no_items = record { next = 1; items = [] }

-- the queue whose next position is at least this one
abbrev pub raised : ℕ → QueueState → QueueState
raised to q = record q { next = max q.next to }

-- ---- order

-- each item stands below all behind it
abbrev pub rises : List Item → Bool
rises [] = true
rises (i ∷ xs) = list_all (λ j. nat_lt i.at j.at) xs && rises xs
