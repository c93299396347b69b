use Rattle.std.proofs.Common.{ap, sym, ◌∙◌}
use Rattle.queue_core.specs.declared.op.Op.{Op}
use Rattle.queue_core.specs.declared.op.Op.TheVariants.{Deliver, Drop, Ack, Requeue, Start}
use Rattle.queue_core.specs.Queue.{QueueState, apply, kept}
use Rattle.queue_core.specs.Seen.{QueueSeen}
use Rattle.queue_core.proofs.Items.{quiet_nothing}
use Rattle.queue_core.proofs.Changes.{quiet_done, keeps_done, all_back}
use Rattle.queue_core.proofs.queue.Queue.apply_reserved.Goals as goal

pub invariant_of-self : goal.invariant_of-self
invariant_of-self c =
    let q : QueueState = record { next = c.self.inside.next; items = c.self.inside.slots.items } in
    keeps_done (Deliver c.in-Deliver.at) q _ c.self.invariant (quiet_done q.next c.hand_out.new.slots.items (kept (Deliver c.in-Deliver.at) q.items) c.hand_out.ensures.items)

pub returns-in-Deliver-clause-queue : goal.returns-in-Deliver-clause-queue
returns-in-Deliver-clause-queue c =
    let q : QueueState = record { next = c.self.inside.next; items = c.self.inside.slots.items } in
    quiet_done q.next c.hand_out.new.slots.items (kept (Deliver c.in-Deliver.at) q.items) c.hand_out.ensures.items
    ∙ ap (λ (s : QueueSeen). apply (Deliver c.in-Deliver.at) s.queue) c.self.view_is ∙ ap (λ (op : Op). apply op c.args.self.now.queue) (sym c.in-Deliver.is)

pub invariant_of-self-in-Drop : goal.invariant_of-self-in-Drop
invariant_of-self-in-Drop c =
    let q : QueueState = record { next = c.self-in-Drop.inside.next; items = c.self-in-Drop.inside.slots.items } in
    keeps_done (Drop c.in-Drop.at) q _ c.self-in-Drop.invariant (quiet_done q.next c.take_off.new.slots.items (kept (Drop c.in-Drop.at) q.items) c.take_off.ensures.items)

pub returns-in-Drop-clause-queue : goal.returns-in-Drop-clause-queue
returns-in-Drop-clause-queue c =
    let q : QueueState = record { next = c.self-in-Drop.inside.next; items = c.self-in-Drop.inside.slots.items } in
    quiet_done q.next c.take_off.new.slots.items (kept (Drop c.in-Drop.at) q.items) c.take_off.ensures.items
    ∙ ap (λ (s : QueueSeen). apply (Drop c.in-Drop.at) s.queue) c.self-in-Drop.view_is ∙ ap (λ (op : Op). apply op c.args.self.now.queue) (sym c.in-Drop.is)

pub invariant_of-self-in-Ack : goal.invariant_of-self-in-Ack
invariant_of-self-in-Ack c =
    let q : QueueState = record { next = c.self-in-Ack.inside.next; items = c.self-in-Ack.inside.slots.items } in
    keeps_done (Ack c.in-Ack.at) q _ c.self-in-Ack.invariant (quiet_done q.next c.acknowledge.new.slots.items (kept (Ack c.in-Ack.at) q.items) c.acknowledge.ensures.items)

pub returns-in-Ack-clause-queue : goal.returns-in-Ack-clause-queue
returns-in-Ack-clause-queue c =
    let q : QueueState = record { next = c.self-in-Ack.inside.next; items = c.self-in-Ack.inside.slots.items } in
    quiet_done q.next c.acknowledge.new.slots.items (kept (Ack c.in-Ack.at) q.items) c.acknowledge.ensures.items
    ∙ ap (λ (s : QueueSeen). apply (Ack c.in-Ack.at) s.queue) c.self-in-Ack.view_is ∙ ap (λ (op : Op). apply op c.args.self.now.queue) (sym c.in-Ack.is)

pub invariant_of-self-in-Requeue : goal.invariant_of-self-in-Requeue
invariant_of-self-in-Requeue c =
    let q : QueueState = record { next = c.self-in-Requeue.inside.next; items = c.self-in-Requeue.inside.slots.items } in
    keeps_done (Requeue c.in-Requeue.at) q _ c.self-in-Requeue.invariant (quiet_done q.next c.hand_back.new.slots.items (kept (Requeue c.in-Requeue.at) q.items) c.hand_back.ensures.items)

pub returns-in-Requeue-clause-queue : goal.returns-in-Requeue-clause-queue
returns-in-Requeue-clause-queue c =
    let q : QueueState = record { next = c.self-in-Requeue.inside.next; items = c.self-in-Requeue.inside.slots.items } in
    quiet_done q.next c.hand_back.new.slots.items (kept (Requeue c.in-Requeue.at) q.items) c.hand_back.ensures.items
    ∙ ap (λ (s : QueueSeen). apply (Requeue c.in-Requeue.at) s.queue) c.self-in-Requeue.view_is ∙ ap (λ (op : Op). apply op c.args.self.now.queue) (sym c.in-Requeue.is)

pub invariant_of-self-in-Start : goal.invariant_of-self-in-Start
invariant_of-self-in-Start c =
    let q : QueueState = record { next = c.self-in-Start.inside.next; items = c.self-in-Start.inside.slots.items } in
    keeps_done (Start c.in-Start.depth) q _ c.self-in-Start.invariant (quiet_done q.next c.hand_all_back.new.slots.items (kept (Start c.in-Start.depth) q.items) (c.hand_all_back.ensures.items ∙ all_back c.in-Start.depth q.items))

pub returns-in-Start-clause-queue : goal.returns-in-Start-clause-queue
returns-in-Start-clause-queue c =
    let q : QueueState = record { next = c.self-in-Start.inside.next; items = c.self-in-Start.inside.slots.items } in
    quiet_done q.next c.hand_all_back.new.slots.items (kept (Start c.in-Start.depth) q.items) (c.hand_all_back.ensures.items ∙ all_back c.in-Start.depth q.items)
    ∙ ap (λ (s : QueueSeen). apply (Start c.in-Start.depth) s.queue) c.self-in-Start.view_is ∙ ap (λ (op : Op). apply op c.args.self.now.queue) (sym c.in-Start.is)

pub returns-in-Depth-clause-queue : goal.returns-in-Depth-clause-queue
returns-in-Depth-clause-queue c = quiet_nothing c.args.op c.args.self.now.queue c.in-Depth.is
