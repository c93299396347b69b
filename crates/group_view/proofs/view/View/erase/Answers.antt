use Rattle.std.proofs.Common.{◌∙◌, ◌+◌, ap, sym, subst, arith, List}
use Rattle.group_view.specs.declared.entry.Entry.{Entry}
use Rattle.group_view.specs.View.{Group}
use Rattle.group_view.specs.Kept.{IsGroup}
use Rattle.group_view.specs.Seen.{group_of}
use Rattle.group_view.specs.Change.{erase_refusal, erased, answer_of}
use Rattle.group_view.proofs.Groups.{small_version, answer_none, erased_entries, DeadThere}
use Rattle.group_view.proofs.History.{erase_none, erase_follows}
use Rattle.group_view.proofs.view.View.erase.Goals as goal

pub overflow_add-self : goal.overflow_add-self
overflow_add-self c = omega (arith, small_version (group_of c.self.inside) c.self.invariant)

pub invariant_of-self : goal.invariant_of-self
invariant_of-self c =
    let was : DeadThere c.self.inside.entries c.args.id.0 = erase_none c.self.inside.entries c.args.id.0 (answer_none _ _ (ap (λ es. answer_of (erase_refusal es c.args.id.0)) (sym c.as_slice.ensures) ∙ sym c.must_be_dead.ensures ∙ c.in_ok-must_be_dead.was)) in
    subst (λ (es : List Entry). IsGroup (record (group_of c.self.inside) { version = c.self.inside.version + 1; entries = es }))
    (sym (c.erase.ensures ∙ erased_entries (group_of c.self.inside) c.args.id.0 was.dead)) (erase_follows (group_of c.self.inside) c.args.id.0 c.self.invariant was).is_group

pub returns-clause-ok : goal.returns-clause-ok
returns-clause-ok c =
    let was : DeadThere c.self.inside.entries c.args.id.0 = erase_none c.self.inside.entries c.args.id.0 (answer_none _ _ (ap (λ es. answer_of (erase_refusal es c.args.id.0)) (sym c.as_slice.ensures) ∙ sym c.must_be_dead.ensures ∙ c.in_ok-must_be_dead.was)) in
    ap (λ (es : List Entry). record (group_of c.self.inside) { version = c.self.inside.version + 1; entries = es }) (c.erase.ensures ∙ erased_entries (group_of c.self.inside) c.args.id.0 was.dead)
    ∙ ap (λ (g : Group). erased g c.args.id.0) c.self.view_is
