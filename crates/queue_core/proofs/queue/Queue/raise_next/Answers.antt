use Rattle.std.proofs.Common.{◌≤◌, sym, subst, arith}
use Rattle.queue_core.specs.Queue.{greatest}
use Rattle.queue_core.specs.Kept.{IsQueue}
use Rattle.queue_core.proofs.Rises.{raise_keeps}
use Rattle.queue_core.proofs.queue.Queue.raise_next.Goals as goal

pub invariant_of-self : goal.invariant_of-self
invariant_of-self c =
    let fits : c.args.to.0 ≤ greatest = omega (arith, c.max-self-inside.type_inv, c.max-self-inside.ensures) in
    subst (λ n. IsQueue (record { next = n; items = c.self.inside.slots.items })) (sym c.max-self-inside.ensures)
    (raise_keeps c.args.to.0 (record { next = c.self.inside.next; items = c.self.inside.slots.items }) fits c.self.invariant)
