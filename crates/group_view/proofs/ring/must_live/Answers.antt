use Rattle.std.proofs.Common.{◌∙◌, ap, sym, cond, Some, None}
use Rattle.ring_names.specs.declared.reason.Reason.TheVariants.{AlreadyDead}
use Rattle.group_view.specs.Change.{answer_of}
use Rattle.group_view.proofs.Groups.{mark_refusal_is, refusal_by}
use Rattle.group_view.proofs.ring.must_live.Goals as goal

pub returns-in_default : goal.returns-in_default
returns-in_default c = ap answer_of (sym (mark_refusal_is c.args.entries.now c.args.id.0 ∙ ap refusal_by (sym c.mark_of.ensures ∙ c.in_default.is)))

pub returns-then-not-is_live : goal.returns-then-not-is_live
returns-then-not-is_live c =
    ap answer_of (sym (mark_refusal_is c.args.entries.now c.args.id.0 ∙ ap refusal_by (sym c.mark_of.ensures ∙ c.in-Some.is)
    ∙ ap (λ b. cond b None (Some AlreadyDead)) (sym c.is_live.ensures ∙ c.if-not-is_live.true)))

pub returns : goal.returns
returns c =
    ap answer_of (sym (mark_refusal_is c.args.entries.now c.args.id.0 ∙ ap refusal_by (sym c.mark_of.ensures ∙ c.in-Some.is)
    ∙ ap (λ b. cond b None (Some AlreadyDead)) (sym c.is_live.ensures ∙ c.if-not-is_live.false)))
