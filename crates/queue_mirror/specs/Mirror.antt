-- A mirror of a master's queue.
use Rattle.std.specs.Prelude.{ℕ, ◌-◌, Bool, true, false, cond, List, [], ◌∷◌, length, take, drop, Option, Some, None}
use Rattle.std.specs.List.{list_any}
use Rattle.queue_core.specs.declared.op.Op.{Op}
use Rattle.queue_core.specs.declared.op.Op.TheVariants.{Publish, Deliver, Drop, Ack, Requeue, Depth, Start, SyncMark}
use Rattle.queue_core.specs.Queue.{Item, QueueState, is_at, apply, no_items}
use Rattle.queue_core.specs.Legal.{remains, queue_of}

-- a queue, and how many items of the master's it lacks, where that is known
pub record MirrorState : Type 0 where
  pub queue : QueueState
  pub missing : Option ℕ

-- of a member that was there from the opening
abbrev pub founding : MirrorState
founding = record { queue = no_items; missing = Some 0 }

-- of one that joined
abbrev pub joining : MirrorState
joining = record { queue = no_items; missing = None }

-- of one that was given a copy of the master's queue
abbrev pub copy_of : QueueState → MirrorState
copy_of q = record { queue = q; missing = Some 0 }

-- one less, where the number is known and the item isn't held
abbrev pub without : Bool → Option ℕ → Option ℕ
without held None = None
without held (Some k) = Some (cond held k (k - 1))

-- what is missing after an operation, in a mirror that held these items before it
abbrev pub missing_after : Op → List Item → Option ℕ → Option ℕ
missing_after (Publish at body) xs k = k
missing_after (Deliver at) xs k = k
missing_after (Drop at) xs k = without (list_any (is_at at.0) xs) k
missing_after (Ack at) xs k = without (list_any (is_at at.0) xs) k
missing_after (Requeue at) xs k = k
missing_after (Depth depth) xs k = Some (depth - length xs)
missing_after (Start depth) xs k = Some (depth - length xs)
missing_after (SyncMark target) xs k = k

-- a mirror takes an operation
abbrev pub apply_op : MirrorState → Op → MirrorState
apply_op m op = record { queue = apply op m.queue; missing = missing_after op m.queue.items m.missing }

-- and some one after another
abbrev pub apply_ops : MirrorState → List Op → MirrorState
apply_ops m [] = m
apply_ops m (op ∷ l) = apply_ops (apply_op m op) l

-- ---- what a mirror is, by the operations that its member has seen

-- the operation tells how many items the queue has
abbrev pub is_tell : Op → Bool
is_tell (Publish at body) = false
is_tell (Deliver at) = false
is_tell (Drop at) = false
is_tell (Ack at) = false
is_tell (Requeue at) = false
is_tell (Depth depth) = true
is_tell (Start depth) = true
is_tell (SyncMark target) = false

-- the member was there from the opening (or was given a copy), or joined when that many operations had been published
abbrev pub from : Option ℕ → ℕ
from None = 0
from (Some f) = f

-- the items of the queue whose messages were published from then on
abbrev pub content : ℕ → List Op → List Item
content f l = queue_of (drop f l)

-- and those that were there before, as far as they still stand
abbrev pub left_out : ℕ → List Op → List Item
left_out f l = remains (drop f l) (queue_of (take f l))

-- whether the member has been told how many items the queue has
abbrev pub is_told : Option ℕ → List Op → Bool
is_told None l = true
is_told (Some f) l = list_any is_tell (drop f l)

-- what its mirror lacks
abbrev pub lacks : Option ℕ → List Op → Option ℕ
lacks since l = cond (is_told since l) (Some (length (left_out (from since) l))) None
