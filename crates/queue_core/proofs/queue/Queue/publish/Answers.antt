use Rattle.std.proofs.Common.{◌≡◌, true, ap, sym, ◌∙◌}
use Rattle.queue_core.specs.declared.op.Op.TheVariants.{Publish}
use Rattle.queue_core.specs.Queue.{QueueState, apply, takes}
use Rattle.queue_core.specs.Seen.{QueueSeen}
use Rattle.queue_core.proofs.Items.{publish_nothing}
use Rattle.queue_core.proofs.Changes.{joined, keeps_done}
use Rattle.queue_core.proofs.queue.Queue.publish.Goals as goal

pub returns-then-not-takes-clause-queue : goal.returns-then-not-takes-clause-queue
returns-then-not-takes-clause-queue c = sym (publish_nothing c.args.at c.args.body c.args.self.now.queue (sym c.takes.ensures ∙ c.if-not-takes.true))

pub invariant_of-self : goal.invariant_of-self
invariant_of-self c =
    let q : QueueState = record { next = c.self.inside.next; items = c.self.inside.slots.items } in
    let may : takes c.args.at.0 q.items ≡ true = ap (λ (s : QueueSeen). takes c.args.at.0 s.queue.items) c.self.view_is ∙ sym c.takes.ensures ∙ c.if-not-takes.false in
    keeps_done (Publish c.args.at c.args.body) q _ c.self.invariant
    (joined c.args.at c.args.body q c.new.result c.push_back_reserved.new.self.items may c.new.ensures c.push_back_reserved.ensures.items)

pub returns-clause-queue : goal.returns-clause-queue
returns-clause-queue c =
    let q : QueueState = record { next = c.self.inside.next; items = c.self.inside.slots.items } in
    let may : takes c.args.at.0 q.items ≡ true = ap (λ (s : QueueSeen). takes c.args.at.0 s.queue.items) c.self.view_is ∙ sym c.takes.ensures ∙ c.if-not-takes.false in
    joined c.args.at c.args.body q c.new.result c.push_back_reserved.new.self.items may c.new.ensures c.push_back_reserved.ensures.items
    ∙ ap (λ (s : QueueSeen). apply (Publish c.args.at c.args.body) s.queue) c.self.view_is
