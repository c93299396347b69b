use Rattle.std.proofs.Common.{◌≡◌, ◌<◌, ◌-◌, [], ap, sym, ◌∙◌, refl, arith, deque_len}
use Rattle.std.specs.Prelude.{not, nat_le}
use Rattle.std.proofs.lemmas.Bool.{false≢true}
use Rattle.std.proofs.lemmas.List.{nil_from_length}
use Rattle.queue_core.specs.Queue.{Item, is_above}
use Rattle.queue_core.proofs.Places.{last_below}
use Rattle.queue_core.proofs.slots.are_below.Goals as goal

pub returns-in-Some : goal.returns-in-Some
returns-in-Some c =
    let some : 0 < deque_len c.args.slots.now = c.in-Some.ensures.variant.0 refl in
    ap not (c.is_from.ensures ∙ ap (λ (i : Item). nat_le c.args.at i.at) c.in-Some.ensures.lookup)
    ∙ sym (last_below c.args.at c.args.slots.now.items (deque_len c.args.slots.now - 1) c.in-Some.last.now c.requires (omega (arith, some, c.args.slots.now.ok.0)))

pub returns-in-None : goal.returns-in-None
returns-in-None c =
    let none : 0 < deque_len c.args.slots.now → ⊥ = λ h. false≢true (c.in-None.ensures.variant.1 h) in
    let empty : c.args.slots.now.items ≡ [] = nil_from_length c.args.slots.now.items (omega (arith, none, c.args.slots.now.ok.0)) in
    sym (ap (is_above c.args.at) empty)
