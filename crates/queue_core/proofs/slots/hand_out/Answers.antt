use Rattle.std.proofs.Common.{set, ap, ◌∙◌}
use Rattle.queue_core.specs.Queue.{Item}
use Rattle.queue_core.specs.declared.held.CopyState.TheVariants.{Unacked}
use Rattle.queue_core.proofs.Changes.{handed_out, none_out}
use Rattle.queue_core.proofs.slots.hand_out.Goals as goal

pub returns-in-Some-clause-items : goal.returns-in-Some-clause-items
returns-in-Some-clause-items c =
    ap (set c.args.slots.now.items c.in-Some.place) (c.hand_out.ensures ∙ ap (λ (i : Item). record i { state = Unacked }) c.index_mut.ensures.value)
    ∙ handed_out c.args.at c.args.slots.now.items c.requires c.in-Some.place c.index_mut.result.now c.in-Some.ensures.within (c.in-Some.ensures.passes c.index_mut.result.now)

pub returns-in_default-clause-items : goal.returns-in_default-clause-items
returns-in_default-clause-items c = none_out c.args.at c.args.slots.now.items c.in_default.ensures
