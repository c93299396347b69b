use Rattle.std.proofs.Common.{◌++◌, map, set, drop, ap, ◌∙◌, arith}
use Rattle.std.proofs.lemmas.List.{take_all, drop_all, append-nil}
use Rattle.std.proofs.lemmas.List.Edits.{map_over_more}
use Rattle.queue_core.specs.Slots.{again}
use Rattle.queue_core.proofs.slots.hand_all_back.Goals as goal

pub loop-place-preserved : goal.loop-place-preserved
loop-place-preserved c = record {
  items = ap (set c.loop-place.slots.items c.loop-place.place) c.hand_back.ensures
      ∙ map_over_more again c.args.slots.now.items c.loop-place.slots.items c.loop-place.place c.index_mut.result.now
      (omega (arith, c.args.slots.now.ok.0)) c.loop-place.invariant.items c.index_mut.ensures.value;
  count = c.loop-place.invariant.count;
  room = c.loop-place.invariant.room;
}

pub returns-clause-items : goal.returns-clause-items
returns-clause-items c =
    c.loop-place.invariant.items
    ∙ ap (λ us. map again us ++ drop c.loop-place.place c.args.slots.now.items) (take_all c.loop-place.place c.args.slots.now.items (omega (arith, c.args.slots.now.ok.0)))
    ∙ ap (λ us. map again c.args.slots.now.items ++ us) (drop_all c.loop-place.place c.args.slots.now.items (omega (arith, c.args.slots.now.ok.0)))
    ∙ append-nil (map again c.args.slots.now.items)
