-- The event by which a member says a message.
use Rattle.std.specs.Prelude.{ℕ, List, Option, Some, None}
use Rattle.queue_core.specs.declared.message.Message.{Message}
use Rattle.queue_core.specs.declared.message.Message.TheVariants as message
use Rattle.queue_core.specs.declared.op.Op.{Op}
use Rattle.queue_core.specs.declared.op.Op.TheVariants as op
use Rattle.ring_rules.specs.declared.event.Event.{Event}
use Rattle.ring_rules.specs.declared.event.Event.TheVariants as event
use Rattle.lamport_merge.specs.Recorder.{Recorded, noted_some}

-- by which the member of a name does an operation of its queue; no event marks a copy
abbrev pub event_doing : List ℕ → Op → Option Event
event_doing by (op.Publish at body) = Some (event.Publish by body)
event_doing by (op.Deliver at) = Some (event.Get by)
event_doing by (op.Drop at) = Some (event.Pop by)
event_doing by (op.Ack at) = Some (event.Ack by at)
event_doing by (op.Requeue at) = Some (event.Requeue by at)
event_doing by (op.Depth depth) = Some (event.Depth by)
event_doing by (op.Start depth) = Some (event.Start by)
event_doing by (op.SyncMark target) = None

-- and by which it says a message
abbrev pub event_saying : List ℕ → Message → Option Event
event_saying by (message.Cast body) = Some (event.Cast by body)
event_saying by (message.Queue o) = event_doing by o

-- it has recorded that it said a message
abbrev pub said : List ℕ → Message → Recorded → Recorded
said by m r = noted_some (event_saying by m) r
