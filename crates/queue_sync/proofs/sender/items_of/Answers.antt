use Rattle.std.proofs.Common.{◌≡◌, ◌<◌, [], length, get_or, Option, Some, None, sym, ap, ◌∙◌, arith, map}
use Rattle.std.specs.Prelude.{option_map}
use Rattle.std.proofs.lemmas.Option.{same_Some, slice_get-get_or}
use Rattle.queue_core.specs.declared.held.CopyState.TheVariants.{Ready}
use Rattle.queue_core.specs.Queue.{Item}
use Rattle.queue_core.specs.Shown.{item_of as shown_item}
use Rattle.queue_sync.specs.Copy.{item_of}
use Rattle.queue_sync.proofs.Sent.{first_part, parts_next, all_below, copied_next}
use Rattle.queue_sync.proofs.sender.items_of.Goals as goal

pub unreachable-requires : goal.unreachable-requires
unreachable-requires c =
    let xs = c.args.queue.now.queue.items in
    let k = c.loop-place._place in
    let l : k < length xs = omega (arith, c.loop-place-test.true, c.depth-place-end.ensures.value) in
    let d : Item = record { at = 0; body = []; state = Ready } in
    let e : ◌≡◌ {A = Option Item} None (Some (get_or xs k d)) =
    sym (ap (option_map shown_item) c.in_default.is) ∙ c.item_from.ensures ∙ first_part c.loop-place.from.0 xs k (omega (arith, l)) c.loop-place.invariant.parts ∙ slice_get-get_or xs k d l in
    cc

pub loop-place-preserved : goal.loop-place-preserved
loop-place-preserved c =
    let xs = c.args.queue.now.queue.items in
    let k = c.loop-place._place in
    let l : k < length xs = omega (arith, c.loop-place-test.true, c.depth-place-end.ensures.value) in
    let i : Item = shown_item c.in-Some.held in
    let is : i ≡ get_or xs k i =
    same_Some i (get_or xs k i) (c.in-Some.ensures ∙ first_part c.loop-place.from.0 xs k (omega (arith, l)) c.loop-place.invariant.parts ∙ slice_get-get_or xs k i l) in
    let below : (get_or xs k i).at < c.next.result.0 = all_below c.next.result.0 xs c.next.ensures.above k i l in
    record {
      copied =
          ap (map item_of) c.in_ok-push_back.ensures.items
          ∙ copied_next item_of c.loop-place.items.items c.in_ok-copy_of.field-0 xs k i l is c.in_ok-copy_of.ensures c.loop-place.invariant.copied;
      parts = parts_next c.loop-place.from.0 xs k i c.saturating_add.result c.depth-place-end.ensures.order l is
          (omega (arith, c.saturating_add.ensures, below, ap (λ (o : Item). o.at) is, c.next.type_inv))
          (omega (arith, c.saturating_add.ensures))
          c.loop-place.invariant.parts;
    }
