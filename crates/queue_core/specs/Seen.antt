-- What a Queue shows.
use Rattle.std.specs.Prelude.{ℕ}
use Rattle.queue_core.specs.declared.op.Op.{Op}
use Rattle.queue_core.specs.declared.op.Op.TheVariants.{Publish, Deliver, Drop, Ack, Requeue, Depth, Start, SyncMark}
use Rattle.queue_core.specs.Queue.{QueueState}

-- a queue, and for how many more messages it has room
pub record QueueSeen : Type 0 where
  pub queue : QueueState
  pub room : ℕ

-- for how many messages an operation wants room
abbrev pub places : Op → ℕ
places (Publish at body) = 1
places (Deliver at) = 0
places (Drop at) = 0
places (Ack at) = 0
places (Requeue at) = 0
places (Depth depth) = 0
places (Start depth) = 0
places (SyncMark target) = 0
