-- What a member may publish is what the laws of the queue let it.
use Rattle.std.proofs.Common.{◌≡◌, ℕ, Bool, true, false, cond, nat_eq, List, length, refl, sym, ap, ◌∙◌, Option, Some, None, option_map}
use Rattle.std.specs.Prelude.{Result, Ok, Err}
use Rattle.std.specs.List.{list_any}
use Rattle.ring_names.specs.declared.numbers.MemberId.{MemberId}
use Rattle.ring_names.specs.declared.numbers.Position.{Position}
use Rattle.ring_names.specs.declared.reason.Reason.{Reason}
use Rattle.ring_names.specs.declared.reason.Reason.TheVariants as reason
use Rattle.group_view.specs.View.{Group, number as id_number}
use Rattle.group_view.proofs.Rings.{nat_eq-is, nat_eq-same}
use Rattle.queue_core.specs.declared.op.Op.{Op}
use Rattle.queue_core.specs.declared.op.Op.TheVariants as op
use Rattle.queue_core.specs.declared.message.Message.{Message}
use Rattle.queue_core.specs.declared.message.Message.TheVariants.{Cast, Queue}
use Rattle.queue_core.specs.Queue.{Item, is_at, is_unacked_at}
use Rattle.queue_core.specs.Legal.{least_ready, is_found}
use Rattle.queue_core.specs.Shown.{as_position, or_empty, least_of, delivery_of}
use Rattle.queue_mirror.specs.Mirror.{MirrorState}
use Rattle.queue_mirror.specs.Master.{lead_by, lead_refusal, or_refused, on_position, if_delivered}
use Rattle.queue_laws.specs.Moves.{IsLet, may}
use Rattle.ring_rules.specs.Refusal.{refuse_if, or_else}
use Rattle.ring_rules.specs.Machine.{World, member_at, view_in}
use Rattle.ring_rules.specs.declared.kind.Asking.TheVariants as asking
use Rattle.ring_rules.specs.Event.{Marks, QueueSaying, Publishes, Does, Saying, Own, OfQueue, start_refusal, asked_op, op_as, queue_message, message_of, MayPublish}
use Rattle.ring_rules.specs.QueuePart.{part_of}
use Rattle.ring_rules.proofs.invariants.Happens.{IsGood}

-- who isn't refused as no master is the master
lead_none : (o : Option MemberId) (x : ℕ) (late : Bool) → lead_by o x late ≡ None → option_map id_number o ≡ Some x
lead_none None x late h = cc
lead_none (Some id) x late h = by_id (nat_eq id.0 x) refl h
  where
    by_id : (b : Bool) → nat_eq id.0 x ≡ b → cond b (cond late (Some reason.NotStarted) None) (Some reason.NotMaster) ≡ None → Some id.0 ≡ Some x
    by_id true e k = ap Some (nat_eq-is id.0 x e)
    by_id false e k = cc

start_none : (o : Option MemberId) (x : ℕ) (b : Bool) → or_else (lead_by o x false) (refuse_if b reason.AlreadyStarted) ≡ None → option_map id_number o ≡ Some x
start_none o x b h = by_lead (lead_by o x false) refl h
  where
    by_lead : (r : Option Reason) → lead_by o x false ≡ r → or_else r (refuse_if b reason.AlreadyStarted) ≡ None → option_map id_number o ≡ Some x
    by_lead None e k = lead_none o x false e
    by_lead (Some r) e k = cc

-- what is answered where nothing refuses it
not_refused : {A : Type 0} (r : Option Reason) (answer : Result A Reason) (o : A) → or_refused r answer ≡ Ok o → (r ≡ None) × (answer ≡ Ok o)
not_refused None answer o h = (refl, h)
not_refused (Some r) answer o h = cc

found_ready : (o : Option ℕ) (at : Position) → or_empty o ≡ Ok at → is_found o at.0 ≡ true
found_ready None at h = cc
found_ready (Some a) at h = let is : as_position a ≡ at = cc in ap (λ (k : Position). nat_eq a k.0) (sym is) ∙ nat_eq-same a

handed : (a : ℕ) (xs : List Item) → delivery_of a xs ≡ Ok tt → list_any (is_unacked_at a) xs ≡ true
handed a xs h = by_any (list_any (is_unacked_at a) xs) refl
  where
    by_any : (b : Bool) → list_any (is_unacked_at a) xs ≡ b → b ≡ true
    by_any true e = refl
    by_any false e = let k : delivery_of a xs ≡ Err (cond (list_any (is_at a) xs) reason.NotDelivered reason.UnknownPosition) = rw e refl in cc

-- an operation that is answered
record IsAnswered (m : MirrorState) (g : Group) (x : ℕ) (o : Op) : Type 0 where
  pub leads : option_map id_number g.master ≡ Some x
  pub may : may o m ≡ true

answered : (m : MirrorState) (g : Group) (x : ℕ) (started : Bool) (q : QueueSaying) (o : Op) → asked_op m g x started q ≡ Ok o → IsAnswered m g x o
answered m g x started (Publishes body) o h =
    let k = not_refused (lead_refusal g x started) (Ok (op.Publish (as_position m.queue.next) body)) o h in
    let is : op.Publish (as_position m.queue.next) body ≡ o = cc in
    record { leads = lead_none g.master x _ k.0; may = ap (λ a. may a m) (sym is) ∙ nat_eq-same m.queue.next }
answered m g x started (Does asking.Get) o h =
    let k = not_refused (lead_refusal g x started) (on_position op.Deliver (least_of m.queue.items)) o h in
    record { leads = lead_none g.master x _ k.0; may = by_least (least_of m.queue.items) refl k.1 }
  where
    by_least : (r : Result Position Reason) → least_of m.queue.items ≡ r → on_position op.Deliver r ≡ Ok o → may o m ≡ true
    by_least (Ok at) e k = let is : op.Deliver at ≡ o = cc in ap (λ a. may a m) (sym is) ∙ found_ready (least_ready m.queue.items) at e
    by_least (Err r) e k = cc
answered m g x started (Does asking.Pop) o h =
    let k = not_refused (lead_refusal g x started) (on_position op.Drop (least_of m.queue.items)) o h in
    record { leads = lead_none g.master x _ k.0; may = by_least (least_of m.queue.items) refl k.1 }
  where
    by_least : (r : Result Position Reason) → least_of m.queue.items ≡ r → on_position op.Drop r ≡ Ok o → may o m ≡ true
    by_least (Ok at) e k = let is : op.Drop at ≡ o = cc in ap (λ a. may a m) (sym is) ∙ found_ready (least_ready m.queue.items) at e
    by_least (Err r) e k = cc
answered m g x started (Does (asking.Ack at)) o h =
    let k = not_refused (lead_refusal g x started) (if_delivered (op.Ack at) (delivery_of at.0 m.queue.items)) o h in
    record { leads = lead_none g.master x _ k.0; may = by_delivery (delivery_of at.0 m.queue.items) refl k.1 }
  where
    by_delivery : (r : Result Unit Reason) → delivery_of at.0 m.queue.items ≡ r → if_delivered (op.Ack at) r ≡ Ok o → may o m ≡ true
    by_delivery (Ok tt) e k = let is : op.Ack at ≡ o = cc in ap (λ a. may a m) (sym is) ∙ handed at.0 m.queue.items e
    by_delivery (Err r) e k = cc
answered m g x started (Does (asking.Requeue at)) o h =
    let k = not_refused (lead_refusal g x started) (if_delivered (op.Requeue at) (delivery_of at.0 m.queue.items)) o h in
    record { leads = lead_none g.master x _ k.0; may = by_delivery (delivery_of at.0 m.queue.items) refl k.1 }
  where
    by_delivery : (r : Result Unit Reason) → delivery_of at.0 m.queue.items ≡ r → if_delivered (op.Requeue at) r ≡ Ok o → may o m ≡ true
    by_delivery (Ok tt) e k = let is : op.Requeue at ≡ o = cc in ap (λ a. may a m) (sym is) ∙ handed at.0 m.queue.items e
    by_delivery (Err r) e k = cc
answered m g x started (Does asking.Depth) o h =
    let k = not_refused (lead_refusal g x started) (Ok (op.Depth (length m.queue.items))) o h in
    let is : op.Depth (length m.queue.items) ≡ o = cc in
    record { leads = lead_none g.master x _ k.0; may = ap (λ a. may a m) (sym is) ∙ nat_eq-same (length m.queue.items) }
answered m g x started (Does asking.Start) o h =
    let k = not_refused (start_refusal g x started) (Ok (op.Start (length m.queue.items))) o h in
    let is : op.Start (length m.queue.items) ≡ o = cc in
    record { leads = start_none g.master x _ k.0; may = ap (λ a. may a m) (sym is) ∙ nat_eq-same (length m.queue.items) }
answered m g x started (Marks target) o h =
    let k = not_refused (lead_refusal g x started) (Ok (op.SyncMark target)) o h in
    let is : op.SyncMark target ≡ o = cc in
    record { leads = lead_none g.master x _ k.0; may = ap (λ a. may a m) (sym is) }

-- an operation that a member may publish is what is asked of its queue
pub operation_asked : (w : World) (x : ℕ) (o : Op) (s : Saying) → message_of w x s ≡ Ok (Queue o) → (q : QueueSaying) × (op_as w x q ≡ Ok o)
operation_asked w x o (Own body) k = cc
operation_asked w x o (OfQueue q) k = (q, by_op (op_as w x q) k)
  where
    by_op : (r : Result Op Reason) → queue_message r ≡ Ok (Queue o) → r ≡ Ok o
    by_op (Ok p) same = cc
    by_op (Err r) same = cc

pub may_let : (w : World) (x : ℕ) (m : Message) → IsGood w → MayPublish w x m → IsLet (part_of w) x m
may_let w x (Cast body) g k = tt
may_let w x (Queue o) g k =
    let asked = operation_asked w x o k.0 k.1 in
    let a = answered (member_at w x).mirror (view_in w (member_at w x).version) x (member_at w x).started asked.0 o asked.1 in
    (record { version = (member_at w x).version; there = g.inv.is_ring.held x; master = a.leads }, a.may)

-- and who publishes an operation leads by its own view
pub leads_itself : (w : World) (x : ℕ) (m : Message) → MayPublish w x m → (o : Op) → m ≡ Queue o → option_map id_number (view_in w (member_at w x).version).master ≡ Some x
leads_itself w x m k o is =
    let asked = operation_asked w x o k.0 (k.1 ∙ ap Ok is) in
    (answered (member_at w x).mirror (view_in w (member_at w x).version) x (member_at w x).started asked.0 o asked.1).leads
