use Rattle.std.proofs.Common.{◌∙◌, ◌+◌, ap, sym, subst, arith, List}
use Rattle.group_view.specs.declared.entry.Entry.{Entry}
use Rattle.group_view.specs.Kept.{IsGroup}
use Rattle.group_view.specs.Seen.{group_of}
use Rattle.group_view.specs.Change.{mark_refusal, answer_of}
use Rattle.group_view.proofs.Groups.{small_version, answer_none}
use Rattle.group_view.proofs.History.{refusal_none, mark_follows}
use Rattle.group_view.proofs.view.View.mark_dead.Goals as goal

pub overflow_add-version : goal.overflow_add-version
overflow_add-version c = omega (arith, small_version (group_of c.self.inside) c.self.invariant)

pub invariant_of-self : goal.invariant_of-self
invariant_of-self c =
    let enabled = answer_none _ _ (ap (λ es. answer_of (mark_refusal es c.args.id.0)) (sym c.as_slice.ensures) ∙ sym c.must_live.ensures ∙ c.in_ok-must_live.was) in
    subst (λ (es : List Entry). IsGroup (record (group_of c.self.inside) { version = c.self.inside.version + 1; entries = es }))
    (sym c.mark_dead.ensures) (mark_follows (group_of c.self.inside) c.args.id.0 c.self.invariant (refusal_none c.self.inside.entries c.args.id.0 enabled)).is_group
