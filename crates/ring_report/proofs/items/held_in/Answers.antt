use Rattle.std.proofs.Common.{◌≡◌, ◌+◌, ◌<◌, ◌++◌, [], ◌∷◌, Option, Some, None, option_map, map, length, get_or, sym, ap, subst, ◌∙◌, arith}
use Rattle.std.proofs.lemmas.List.{map-append, take_more}
use Rattle.queue_core.specs.Queue.{Item}
use Rattle.queue_core.specs.Shown.{item_of}
use Rattle.ring_report.proofs.Passing.{no_item, Passes, passes_first, passes_on, below}
use Rattle.ring_report.proofs.items.held_in.Goals as goal

pub unreachable-requires : goal.unreachable-requires
unreachable-requires c =
    let items = c.args.queue.now.queue.items in
    let k = c.loop-place._place in
    let within : k < length items = omega (arith, c.loop-place-test.true, c.depth-place-end.ensures.value) in
    let none : ◌≡◌ {A = Option Item} None (Some (get_or items k no_item)) =
    sym (ap (option_map item_of) c.in_default.is) ∙ c.item_from.ensures ∙ passes_first items k c.loop-place.from c.loop-place.invariant.passes within in
    cc

pub overflow_add-from : goal.overflow_add-from
overflow_add-from c =
    let items = c.args.queue.now.queue.items in
    let k = c.loop-place._place in
    let within : k < length items = omega (arith, c.loop-place-test.true, c.depth-place-end.ensures.value) in
    let both : Some (item_of c.in-Some.held) ≡ Some (get_or items k no_item) =
    sym (ap (option_map item_of) c.in-Some.is) ∙ c.item_from.ensures ∙ passes_first items k c.loop-place.from c.loop-place.invariant.passes within in
    let here : item_of c.in-Some.held ≡ get_or items k no_item = cc in
    omega (arith, ap (λ (i : Item). i.at) here, below c.next-next.result.0 items c.next-next.ensures.above k within, c.next-next.type_inv)

pub loop-place-preserved : goal.loop-place-preserved
loop-place-preserved c =
    let items = c.args.queue.now.queue.items in
    let k = c.loop-place._place in
    let within : k < length items = omega (arith, c.loop-place-test.true, c.depth-place-end.ensures.value) in
    let both : Some (item_of c.in-Some.held) ≡ Some (get_or items k no_item) =
    sym (ap (option_map item_of) c.in-Some.is) ∙ c.item_from.ensures ∙ passes_first items k c.loop-place.from c.loop-place.invariant.passes within in
    let here : item_of c.in-Some.held ≡ get_or items k no_item = cc in
    record {
      held =
          ap (map item_of) c.in_ok-push.ensures.items ∙ map-append item_of c.loop-place.all.items (c.in-Some.held ∷ [])
          ∙ ap (λ i. map item_of c.loop-place.all.items ++ i ∷ []) here ∙ ap (λ is. is ++ get_or items k no_item ∷ []) c.loop-place.invariant.held
          ∙ sym (take_more items k no_item within);
      passes = subst (λ a. Passes items (k + 1) (a + 1)) (sym (ap (λ (i : Item). i.at) here)) (passes_on items k c.loop-place.from c.depth-place-end.ensures.order c.loop-place.invariant.passes within);
    }
