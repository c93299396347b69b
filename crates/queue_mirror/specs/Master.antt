-- What a master answers: the first condition that fails, or the operation that it publishes next.
use Rattle.std.specs.Prelude.{◌≡◌, ℕ, ◌<◌, Bool, true, false, cond, ◌&&◌, ◌||◌, not, nat_eq, nat_le, nat_lt, List, length, Option, Some, None, Result, Ok, Err}
use Rattle.ring_names.specs.declared.numbers.MemberId.{MemberId}
use Rattle.ring_names.specs.declared.numbers.Position.{Position}
use Rattle.ring_names.specs.declared.reason.Reason.{Reason}
use Rattle.ring_names.specs.declared.reason.Reason.TheVariants.{NoMaster, NotMaster, NotStarted, AlreadyStarted}
use Rattle.group_view.specs.View.{Group}
use Rattle.queue_core.specs.declared.op.Op.{Op}
use Rattle.queue_core.specs.declared.op.Op.TheVariants.{Publish, Deliver, Drop, Ack, Requeue, Depth, Start}
use Rattle.queue_core.specs.Queue.{greatest}
use Rattle.queue_core.specs.Legal.{is_legal}
use Rattle.queue_core.specs.Shown.{as_position, least_of, delivery_of}
use Rattle.queue_mirror.specs.Mirror.{MirrorState}
use Rattle.queue_mirror.specs.Refusal.{refuse_if, or_else}

-- why a member may not speak for the queue: the view has no master, or another, or it has a start to publish first
abbrev pub lead_by : Option MemberId → ℕ → Bool → Option Reason
lead_by None me late = Some NoMaster
lead_by (Some id) me late = cond (nat_eq id.0 me) (cond late (Some NotStarted) None) (Some NotMaster)

-- the same by its view; only the master of the first term has none to publish
abbrev pub lead_refusal : Group → ℕ → Bool → Option Reason
lead_refusal g me started = lead_by g.master me (nat_lt 1 g.term && not started)

-- why a member has no start to publish: it doesn't lead by its view, or it leads in the first term, or it has published it
abbrev pub start_refusal : Group → ℕ → Bool → Option Reason
start_refusal g me started = or_else (lead_by g.master me false) (refuse_if (nat_le g.term 1 || started) AlreadyStarted)

-- the answer of a member that may speak, and else why it may not
abbrev pub or_refused : {A : Type 0} → Option Reason → Result A Reason → Result A Reason
or_refused None answer = answer
or_refused (Some reason) answer = Err reason

-- an operation on the position that was found
abbrev pub on_position : (Position → Op) → Result Position Reason → Result Op Reason
on_position make (Ok at) = Ok (make at)
on_position make (Err reason) = Err reason

-- an operation where nothing refuses it
abbrev pub if_delivered : Op → Result Unit Reason → Result Op Reason
if_delivered op (Ok _) = Ok op
if_delivered op (Err reason) = Err reason

-- a message to publish, which is handed back where it is refused
abbrev pub published : Option Reason → ℕ → List ℕ → Result Op (List ℕ × Reason)
published None next body = Ok (Publish (as_position next) body)
published (Some reason) next body = Err (body, reason)

module _ (m : MirrorState) (g : Group) (me : ℕ) (started : Bool) where
  -- a message at the next position
  abbrev pub publish_of : List ℕ → Result Op (List ℕ × Reason)
  publish_of body = published (lead_refusal g me started) m.queue.next body

  -- the first ready item, to hand out
  abbrev pub get_of : Result Op Reason
  get_of = or_refused (lead_refusal g me started) (on_position Deliver (least_of m.queue.items))

  -- the first ready item, to take off
  abbrev pub pop_of : Result Op Reason
  pop_of = or_refused (lead_refusal g me started) (on_position Drop (least_of m.queue.items))

  -- an item that is handed out, to acknowledge
  abbrev pub ack_of : Position → Result Op Reason
  ack_of at = or_refused (lead_refusal g me started) (if_delivered (Ack at) (delivery_of at.0 m.queue.items))

  -- an item that is handed out, to make ready again
  abbrev pub requeue_of : Position → Result Op Reason
  requeue_of at = or_refused (lead_refusal g me started) (if_delivered (Requeue at) (delivery_of at.0 m.queue.items))

  -- the number of items
  abbrev pub depth_of : Result Op Reason
  depth_of = or_refused (lead_refusal g me started) (Ok (Depth (length m.queue.items)))

  -- the start of a new master, with the number of items
  abbrev pub start_of : Result Op Reason
  start_of = or_refused (start_refusal g me started) (Ok (Start (length m.queue.items)))

-- What a master answers by its own mirror is an operation that it may publish; a message has a position that can be
-- given.
pub record AnswersLegal (m : MirrorState) (g : Group) (me : ℕ) (started : Bool) : Type 0 where
  pub publish : (body : List ℕ) (op : Op) → m.queue.next < greatest
      → publish_of m g me started body ≡ Ok op → is_legal op m.queue.items ≡ true
  pub get : (op : Op) → get_of m g me started ≡ Ok op → is_legal op m.queue.items ≡ true
  pub pop : (op : Op) → pop_of m g me started ≡ Ok op → is_legal op m.queue.items ≡ true
  pub ack : (at : Position) (op : Op) → ack_of m g me started at ≡ Ok op → is_legal op m.queue.items ≡ true
  pub requeue : (at : Position) (op : Op) → requeue_of m g me started at ≡ Ok op → is_legal op m.queue.items ≡ true
  pub depth : (op : Op) → depth_of m g me started ≡ Ok op → is_legal op m.queue.items ≡ true
  pub start : (op : Op) → start_of m g me started ≡ Ok op → is_legal op m.queue.items ≡ true
