use Rattle.std.proofs.Common.{◌≡◌, Bool, false, cond, get_or, ap, sym, ◌∙◌}
use Rattle.std.specs.Prelude.{Result, Ok, Err}
use Rattle.ring_names.specs.declared.reason.Reason.{Reason}
use Rattle.ring_names.specs.declared.reason.Reason.TheVariants.{NotDelivered}
use Rattle.queue_core.specs.Queue.{is_unacked}
use Rattle.queue_core.proofs.Places.{delivery_unknown, delivery_there}
use Rattle.queue_core.proofs.slots.delivered.Goals as goal

pub returns-in_default : goal.returns-in_default
returns-in_default c = delivery_unknown c.args.at.0 c.args.slots.now.items c.in_default.ensures

abbrev standing : Bool → Result Unit Reason
standing handed = cond handed (Ok tt) (Err NotDelivered)

pub returns-else-is_handed : goal.returns-else-is_handed
returns-else-is_handed c =
    let ready : is_unacked (get_or c.args.slots.now.items c.in-Some.place c.index.result.now) ≡ false = ap is_unacked (sym c.index.ensures) ∙ sym c.is_handed.ensures ∙ c.if-is_handed.false in
    ap standing (sym ready)
    ∙ delivery_there c.args.at.0 c.args.slots.now.items c.requires c.in-Some.place c.index.result.now c.in-Some.ensures.within (c.in-Some.ensures.passes c.index.result.now)
