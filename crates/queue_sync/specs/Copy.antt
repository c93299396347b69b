-- A copy of a queue: what is put on it, and what it makes of a mirror.
use Rattle.std.specs.Prelude.{◌+◌, Bool, true, false, cond, List, [], ◌∷◌, ◌++◌, map}
use Rattle.queue_core.specs.declared.op.Op.{Op}
use Rattle.queue_core.specs.Queue.{Item, QueueState, takes, apply, raised}
use Rattle.queue_mirror.specs.Mirror.{MirrorState, copy_of}
use Rattle.queue_sync.specs.declared.load.CopyItem.{CopyItem}
use Rattle.queue_sync.specs.declared.load.CopyLoad.{CopyLoad}
use Rattle.queue_sync.specs.declared.load.CopyLoad.TheVariants as load

-- what is put on a copy: an item of the queue, or that this is all
pub data Load : Type 0 where
  OneItem : Item → Load
  Done : Load

-- an item on its way, as the item
abbrev pub item_of : CopyItem → Item
item_of i = record { at = i.at.0; body = i.body; state = i.state }

-- what is on its way
abbrev pub load_of : CopyLoad → Load
load_of (load.Item item) = OneItem (item_of item)
load_of load.Done = Done

-- these items, one after another, and then that this is all
abbrev pub loads_of : List Item → List Load
loads_of items = map OneItem items ++ Done ∷ []

-- whether nothing is left to be put
abbrev pub is_all_put : List Load → Bool
is_all_put [] = true
is_all_put (load ∷ loads) = false

-- a receiver keeps an item aside, where it stands above those that it keeps
abbrev pub kept_aside : Item → QueueState → QueueState
kept_aside i aside = cond (takes i.at aside.items) (record { next = i.at + 1; items = aside.items ++ i ∷ [] }) aside

-- a queue after these operations
abbrev pub apply_all : List Op → QueueState → QueueState
apply_all [] q = q
apply_all (op ∷ l) q = apply_all l (apply op q)

-- What a copy makes of a queue: the items that were copied, with the operations since its mark done; the next position is
-- the greatest of the queue's, of one behind the last copied item, and of the one that those operations give.
abbrev pub copied_queue : QueueState → QueueState → List Op → QueueState
copied_queue q aside since = raised q.next (raised aside.next (apply_all since aside))

-- and of a mirror, which lacks nothing then
abbrev pub copied_mirror : MirrorState → QueueState → List Op → MirrorState
copied_mirror m aside since = copy_of (copied_queue m.queue aside since)
