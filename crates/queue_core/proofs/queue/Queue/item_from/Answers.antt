use Rattle.std.proofs.Common.{◌<◌, Some, ap, ◌∙◌, refl, arith, deque_len}
use Rattle.std.proofs.lemmas.Bool.{false≢true}
use Rattle.queue_core.specs.Shown.{first_from}
use Rattle.queue_core.specs.Seen.{QueueSeen}
use Rattle.queue_core.proofs.Places.{first_there, first_past}
use Rattle.queue_core.proofs.queue.Queue.item_from.Goals as goal

pub returns-in_err-slot : goal.returns-in_err-slot
returns-in_err-slot c =
    let none : c.place_from.result < deque_len c.self.inside.slots → ⊥ = λ h. false≢true (c.in_err-slot.ensures.variant.1 h) in
    rw c.from_residual.ensures
    (first_past c.args.from.0 c.self.inside.slots.items c.place_from.result c.place_from.ensures (omega (arith, none, c.self.inside.slots.ok.0))
    ∙ ap (λ (s : QueueSeen). first_from c.args.from.0 s.queue.items) c.self.view_is)

pub returns : goal.returns
returns c =
    let within : c.place_from.result < deque_len c.self.inside.slots = c.in_ok-slot.ensures.variant.0 refl in
    ap Some c.held.ensures
    ∙ first_there c.args.from.0 c.self.inside.slots.items c.place_from.result c.in_ok-slot.slot.now c.place_from.ensures (omega (arith, within, c.self.inside.slots.ok.0)) c.in_ok-slot.ensures.lookup
    ∙ ap (λ (s : QueueSeen). first_from c.args.from.0 s.queue.items) c.self.view_is
