use Rattle.std.proofs.Common.{suc, ap, ◌∙◌}
use Rattle.ring_rules.specs.Event.{Does, op_refusal, op_as}
use Rattle.ring_rules.proofs.events.Enabled.{up_later}
use Rattle.ring_world.specs.Shows.{world_of}
use Rattle.ring_world.proofs.asking.ask.Goals as goal

pub granted-operation-requires : goal.granted-operation-requires
granted-operation-requires c =
    let w = world_of c.args.ring.now in
    ap op_refusal c.operation_at.ensures ∙ up_later w (suc c.args.place) (op_refusal (op_as w (suc c.args.place) (Does c.args.asking))) c.requires.enabled
