-- Operations one after another, and those that a master may publish.
use Rattle.std.specs.Prelude.{ℕ, Bool, true, false, cond, ◌&&◌, nat_eq, List, [], ◌∷◌, length, Option, Some, None}
use Rattle.std.specs.List.{list_any}
use Rattle.queue_core.specs.declared.op.Op.{Op}
use Rattle.queue_core.specs.declared.op.Op.TheVariants.{Publish, Deliver, Drop, Ack, Requeue, Depth, Start, SyncMark}
use Rattle.queue_core.specs.Queue.{Item, is_ready, is_unacked_at, takes, kept, step}

-- the items after these operations
abbrev pub run : List Item → List Op → List Item
run xs [] = xs
run xs (op ∷ l) = run (step op xs) l

-- what these operations leave of the items
abbrev pub remains : List Op → List Item → List Item
remains [] xs = xs
remains (op ∷ l) xs = remains l (kept op xs)

-- the items of the queue that these operations make
abbrev pub queue_of : List Op → List Item
queue_of l = run [] l

-- the position of the first ready item
abbrev pub least_ready : List Item → Option ℕ
least_ready [] = None
least_ready (i ∷ xs) = cond (is_ready i) (Some i.at) (least_ready xs)

-- whether what was found is this position
abbrev pub is_found : Option ℕ → ℕ → Bool
is_found None a = false
is_found (Some b) a = nat_eq b a

-- Whether the master of a queue with these items may publish the operation: a message above all positions held, a
-- hand-out or a drop of the first ready item, an acknowledgement or a return of one that is handed out, and the number
-- of items.
abbrev pub is_legal : Op → List Item → Bool
is_legal (Publish at body) xs = takes at.0 xs
is_legal (Deliver at) xs = is_found (least_ready xs) at.0
is_legal (Drop at) xs = is_found (least_ready xs) at.0
is_legal (Ack at) xs = list_any (is_unacked_at at.0) xs
is_legal (Requeue at) xs = list_any (is_unacked_at at.0) xs
is_legal (Depth depth) xs = nat_eq depth (length xs)
is_legal (Start depth) xs = nat_eq depth (length xs)
is_legal (SyncMark target) xs = true

-- whether each of these operations is, where it stands
abbrev pub are_legal : List Item → List Op → Bool
are_legal xs [] = true
are_legal xs (op ∷ l) = is_legal op xs && are_legal (step op xs) l
