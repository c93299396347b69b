-- What kinds of events there are.
use Rattle.std.specs.Prelude.{ℕ, List, Option, Some, None}
use Rattle.ring_names.specs.declared.numbers.MemberId.{MemberId}
use Rattle.ring_rules.specs.declared.event.Client.{Client}
use Rattle.ring_rules.specs.declared.event.Client.TheVariants as client
use Rattle.ring_rules.specs.declared.event.Event.{Event}
use Rattle.ring_rules.specs.declared.event.Event.TheVariants as event
use Rattle.ring_rules.specs.declared.kind.Asking.{Asking}
use Rattle.ring_rules.specs.declared.kind.Asking.TheVariants as asking
use Rattle.ring_rules.specs.declared.kind.CopyStep.{CopyStep}
use Rattle.ring_rules.specs.declared.kind.CopyStep.TheVariants as copying
use Rattle.ring_rules.specs.declared.kind.LinkStep.{LinkStep}
use Rattle.ring_rules.specs.declared.kind.LinkStep.TheVariants as step
use Rattle.ring_rules.specs.declared.kind.ViewChange.{ViewChange}
use Rattle.ring_rules.specs.declared.kind.ViewChange.TheVariants as change
use Rattle.ring_rules.specs.declared.kind.Kind.{Kind as ShownKind}
use Rattle.ring_rules.specs.declared.kind.Kind.TheVariants as shown

-- what a master says of its queue: it publishes a message, does what it is asked, or what it does by itself, or marks a
-- copy to a member
pub data QueueSaying : Type 0 where
  Publishes : List ℕ → QueueSaying
  Does : Asking → QueueSaying
  Marks : MemberId → QueueSaying

-- what a member says to all: a message of its own, or an operation of its queue
pub data Saying : Type 0 where
  Own : List ℕ → Saying
  OfQueue : QueueSaying → Saying

-- it says something, does a step on its links or on a copy, has the view changed, stops, reads the view of a version, or tells a client a
-- refusal
pub data Kind : Type 0 where
  Says : Saying → Kind
  Steps : LinkStep → Kind
  Copying : CopyStep → Kind
  Changes : ViewChange → Kind
  Stops : Kind
  Reads : ℕ → Kind
  Tells : ℕ → Client → Kind

-- what an event is, whoever does it
abbrev pub kind_of : Event → Kind
kind_of (event.Cast by body) = Says (Own body)
kind_of (event.Publish by body) = Says (OfQueue (Publishes body))
kind_of (event.Get by) = Says (OfQueue (Does asking.Get))
kind_of (event.Pop by) = Says (OfQueue (Does asking.Pop))
kind_of (event.Ack by at) = Says (OfQueue (Does (asking.Ack at)))
kind_of (event.Requeue by at) = Says (OfQueue (Does (asking.Requeue at)))
kind_of (event.Depth by) = Says (OfQueue (Does asking.Depth))
kind_of (event.Start by) = Says (OfQueue (Does asking.Start))
kind_of (event.Sync by target) = Copying (copying.Open target)
kind_of (event.Put by) = Steps step.Put
kind_of (event.Take by) = Steps step.Take
kind_of (event.TakeEnd by) = Steps step.TakeEnd
kind_of (event.Gain by) = Steps step.Gain
kind_of (event.Pick by) = Steps step.Pick
kind_of (event.Mark by dead) = Changes (change.Mark dead)
kind_of (event.Erase by origin) = Changes (change.Erase origin)
kind_of (event.Admit by name) = Changes (change.Admit name)
kind_of (event.Synced by) = Changes change.Register
kind_of (event.SyncPut by) = Copying copying.Put
kind_of (event.SyncTake by) = Copying copying.Take
kind_of (event.SyncGain by) = Copying copying.Gain
kind_of (event.Stop by) = Stops
kind_of (event.Refresh by version) = Reads version
kind_of (event.Refuse code inner) = Tells code inner

-- a kind without what a member says or tells
abbrev pub shown_kind : Kind → ShownKind
shown_kind (Says s) = shown.Says
shown_kind (Steps s) = shown.Links s
shown_kind (Copying s) = shown.Copies s
shown_kind (Changes c) = shown.Changes c
shown_kind Stops = shown.Stops
shown_kind (Reads version) = shown.Reads version
shown_kind (Tells code inner) = shown.Tells

-- the body of the message of its member's own that an event of this kind publishes
abbrev pub own_body_of : Kind → Option (List ℕ)
own_body_of (Says (Own body)) = Some body
own_body_of k = None

-- the body of the message that an event of this kind publishes to a queue
abbrev pub queued_body_of : Kind → Option (List ℕ)
queued_body_of (Says (OfQueue (Publishes body))) = Some body
queued_body_of k = None

-- what is done to a queue but for a publish, by an event of this kind
abbrev pub asking_of : Kind → Option Asking
asking_of (Says (OfQueue (Does a))) = Some a
asking_of k = None

-- what a client asks of a queue but for a publish
abbrev pub client_asking_of : Client → Option Asking
client_asking_of (client.Get by) = Some asking.Get
client_asking_of (client.Pop by) = Some asking.Pop
client_asking_of (client.Ack by at) = Some (asking.Ack at)
client_asking_of (client.Requeue by at) = Some (asking.Requeue at)
client_asking_of c = None

-- the event of a step on its links, by the member of this name
abbrev pub step_event : LinkStep → List ℕ → Event
step_event step.Pick by = event.Pick by
step_event step.Take by = event.Take by
step_event step.TakeEnd by = event.TakeEnd by
step_event step.Gain by = event.Gain by
step_event step.Put by = event.Put by
