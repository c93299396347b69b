use Rattle.std.proofs.Common.{◌∙◌, ap, sym, cond, Some, None}
use Rattle.ring_names.specs.declared.reason.Reason.TheVariants.{NotDead}
use Rattle.group_view.specs.Change.{answer_of}
use Rattle.group_view.proofs.Groups.{erase_refusal_is, erase_refusal_by}
use Rattle.group_view.proofs.ring.must_be_dead.Goals as goal

pub returns-in_default : goal.returns-in_default
returns-in_default c = ap answer_of (sym (erase_refusal_is c.args.entries.now c.args.id.0 ∙ ap erase_refusal_by (sym c.mark_of.ensures ∙ c.in_default.is)))

pub returns-then-not-is_dead : goal.returns-then-not-is_dead
returns-then-not-is_dead c =
    ap answer_of (sym (erase_refusal_is c.args.entries.now c.args.id.0 ∙ ap erase_refusal_by (sym c.mark_of.ensures ∙ c.in-Some.is)
    ∙ ap (λ b. cond b None (Some NotDead)) (sym c.is_dead.ensures ∙ c.if-not-is_dead.true)))

pub returns : goal.returns
returns c =
    ap answer_of (sym (erase_refusal_is c.args.entries.now c.args.id.0 ∙ ap erase_refusal_by (sym c.mark_of.ensures ∙ c.in-Some.is)
    ∙ ap (λ b. cond b None (Some NotDead)) (sym c.is_dead.ensures ∙ c.if-not-is_dead.false)))
