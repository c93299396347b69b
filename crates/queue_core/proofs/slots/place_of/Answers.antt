use Rattle.std.proofs.Common.{◌<◌, get_or, ap, sym, ◌∙◌, refl, arith, deque_len}
use Rattle.std.proofs.lemmas.Bool.{false≢true}
use Rattle.queue_core.specs.Queue.{is_at}
use Rattle.queue_core.proofs.Places.{none_past, none_other}
use Rattle.queue_core.proofs.slots.place_of.Goals as goal

pub returns-in_err-get : goal.returns-in_err-get
returns-in_err-get c =
    let none : c.place_from-place.result < deque_len c.args.slots.now → ⊥ = λ h. false≢true (c.in_err-get.ensures.variant.1 h) in
    rw c.from_residual.ensures (none_past c.args.at c.args.slots.now.items (omega (arith, none, c.args.slots.now.ok.0, c.place_from-place.ensures)))

pub returns-then-not-is_at : goal.returns-then-not-is_at
returns-then-not-is_at c =
    let within : c.place_from-place.result < deque_len c.args.slots.now = c.in_ok-get.ensures.variant.0 refl in
    none_other c.args.at c.args.slots.now.items c.requires (omega (arith, within, c.args.slots.now.ok.0, c.place_from-place.ensures)) c.in_ok-get.field-0.now
    (ap (λ n. is_at c.args.at (get_or c.args.slots.now.items n c.in_ok-get.field-0.now)) (sym c.place_from-place.ensures)
    ∙ ap (is_at c.args.at) (sym c.in_ok-get.ensures.lookup) ∙ sym c.is_at.ensures ∙ c.if-not-is_at.true)
