use Rattle.std.proofs.Common.{◌∙◌, ◌+◌, ap, sym, subst, arith, List}
use Rattle.std.proofs.lemmas.Result.{err_from_is_err_and}
use Rattle.group_view.specs.declared.entry.Entry.{Entry}
use Rattle.group_view.specs.Ring.{AreDistinct}
use Rattle.group_view.specs.View.{Group, ids}
use Rattle.group_view.specs.Kept.{IsGroup}
use Rattle.group_view.specs.Seen.{group_of}
use Rattle.group_view.specs.Change.{admit_refusal, admitted, with_entry, answer_of}
use Rattle.group_view.proofs.Groups.{small_version, fault_told}
use Rattle.group_view.proofs.Joining.{MayAdmit, admits, not_yet, distinct_with_entry, admitted_entries, admitted_is}
use Rattle.group_view.proofs.view.View.admit.Goals as goal

pub returns-in_err-may_admit-clause-fault : goal.returns-in_err-may_admit-clause-fault
returns-in_err-may_admit-clause-fault c =
    let told = err_from_is_err_and c.from_residual.result c.from_residual.ensures.1 in
    rw (told.1) (fault_told (admit_refusal c.args.self.now.entries c.args.by.0 c.args.name) c.in_err-may_admit.field-0.0 told.0
    (ap (λ (g : Group). answer_of (admit_refusal g.entries c.args.by.0 c.args.name)) (sym c.self.view_is) ∙ ap (λ es. answer_of (admit_refusal es c.args.by.0 c.args.name)) (sym c.as_slice.ensures) ∙ sym c.may_admit.ensures ∙ c.in_err-may_admit.was)
    told.2)

pub overflow_add-version : goal.overflow_add-version
overflow_add-version c = omega (arith, small_version (group_of c.self.inside) c.self.invariant)

pub date_right_of-requires : goal.date_right_of-requires
date_right_of-requires c =
    let k : MayAdmit (group_of c.self.inside) c.args.by.0 = admits (group_of c.self.inside) c.args.by.0 c.args.name c.as_slice.result.now c.self.invariant c.as_slice.ensures (sym c.may_admit.ensures ∙ c.in_ok-may_admit.was) in
    subst (λ es. AreDistinct (ids es)) (sym (c.in_ok-insert_right_of.ensures.ok ∙ ap (λ e. with_entry c.args.by.0 e c.self.inside.entries) c.admitted.ensures))
    (distinct_with_entry c.args.by.0 _ c.self.inside.entries c.self.invariant.distinct (not_yet (group_of c.self.inside) c.args.by.0 c.args.name k))

pub invariant_of-self-2 : goal.invariant_of-self-2
invariant_of-self-2 c =
    let k : MayAdmit (group_of c.self.inside) c.args.by.0 = admits (group_of c.self.inside) c.args.by.0 c.args.name c.as_slice.result.now c.self.invariant c.as_slice.ensures (sym c.may_admit.ensures ∙ c.in_ok-may_admit.was) in
    subst (λ (es : List Entry). IsGroup (record (group_of c.self.inside) { version = c.self.inside.version + 1; entries = es; next_id = c.self.inside.next_id + 1 }))
    (sym (admitted_entries (group_of c.self.inside) c.args.by.0 c.args.name c.admitted.result c.insert_right_of.new.self c.date_right_of.new.self k c.admitted.ensures c.in_ok-insert_right_of.ensures.ok c.date_right_of.ensures))
    (admitted_is (group_of c.self.inside) c.args.by.0 c.args.name k)

pub returns-clause-ok : goal.returns-clause-ok
returns-clause-ok c =
    let k : MayAdmit (group_of c.self.inside) c.args.by.0 = admits (group_of c.self.inside) c.args.by.0 c.args.name c.as_slice.result.now c.self.invariant c.as_slice.ensures (sym c.may_admit.ensures ∙ c.in_ok-may_admit.was) in
    ap (λ (es : List Entry). record (group_of c.self.inside) { version = c.self.inside.version + 1; entries = es; next_id = c.self.inside.next_id + 1 })
    (admitted_entries (group_of c.self.inside) c.args.by.0 c.args.name c.admitted.result c.insert_right_of.new.self c.date_right_of.new.self k c.admitted.ensures c.in_ok-insert_right_of.ensures.ok c.date_right_of.ensures)
    ∙ ap (λ (g : Group). admitted g c.args.by.0 c.args.name) c.self.view_is
