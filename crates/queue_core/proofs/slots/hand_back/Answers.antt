use Rattle.std.proofs.Common.{set, ap, ◌∙◌}
use Rattle.queue_core.specs.Slots.{again}
use Rattle.queue_core.proofs.Changes.{handed_back, none_back}
use Rattle.queue_core.proofs.slots.hand_back.Goals as goal

pub returns-in-Some-clause-items : goal.returns-in-Some-clause-items
returns-in-Some-clause-items c =
    ap (set c.args.slots.now.items c.in-Some.place) (c.hand_back.ensures ∙ ap again c.index_mut.ensures.value)
    ∙ handed_back c.args.at c.args.slots.now.items c.requires c.in-Some.place c.index_mut.result.now c.in-Some.ensures.within (c.in-Some.ensures.passes c.index_mut.result.now)

pub returns-in_default-clause-items : goal.returns-in_default-clause-items
returns-in_default-clause-items c = none_back c.args.at c.args.slots.now.items c.in_default.ensures
