use Rattle.std.proofs.Common.{[], ◌∙◌}
use Rattle.queue_core.specs.Queue.{new_item}
use Rattle.queue_core.proofs.Changes.{taken_off, none_off}
use Rattle.queue_core.proofs.slots.take_off.Goals as goal

pub returns-in-Some-clause-items : goal.returns-in-Some-clause-items
returns-in-Some-clause-items c =
    c.remove_at.ensures.items ∙ taken_off c.args.at c.args.slots.now.items c.requires c.in-Some.place (new_item 0 []) c.in-Some.ensures.within (c.in-Some.ensures.passes (new_item 0 []))

pub returns-in_default-clause-items : goal.returns-in_default-clause-items
returns-in_default-clause-items c = none_off c.args.at c.args.slots.now.items c.in_default.ensures
