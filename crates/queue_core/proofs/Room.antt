-- The room that operations want.
use Rattle.std.proofs.Common.{◌≤◌, arith}
use Rattle.queue_core.specs.declared.op.Op.{Op}
use Rattle.queue_core.specs.declared.op.Op.TheVariants.{Publish, Deliver, Drop, Ack, Requeue, Depth, Start, SyncMark}
use Rattle.queue_core.specs.Seen.{places}

-- it is room for one message at most
pub places_le : (op : Op) → places op ≤ 1
places_le (Publish at body) = omega arith
places_le (Deliver at) = omega arith
places_le (Drop at) = omega arith
places_le (Ack at) = omega arith
places_le (Requeue at) = omega arith
places_le (Depth depth) = omega arith
places_le (Start depth) = omega arith
places_le (SyncMark target) = omega arith
