use Rattle.std.proofs.Common.{◌∙◌, ◌+◌, ap, sym, subst, arith, List}
use Rattle.group_view.specs.declared.entry.Entry.{Entry}
use Rattle.group_view.specs.View.{Group}
use Rattle.group_view.specs.Kept.{IsGroup}
use Rattle.group_view.specs.Seen.{group_of}
use Rattle.group_view.specs.Change.{sync_refusal, registered, answer_of}
use Rattle.group_view.proofs.Groups.{small_version, answer_none}
use Rattle.group_view.proofs.Syncing.{Unsynced, sync_none, registered_entries, registered_is}
use Rattle.group_view.proofs.view.View.mark_synced.Goals as goal

pub overflow_add-self : goal.overflow_add-self
overflow_add-self c = omega (arith, small_version (group_of c.self.inside) c.self.invariant)

pub invariant_of-self : goal.invariant_of-self
invariant_of-self c =
    let was : Unsynced c.self.inside.entries c.args.id.0 = sync_none c.self.inside.entries c.args.id.0 (answer_none _ _ (ap (λ es. answer_of (sync_refusal es c.args.id.0)) (sym c.as_slice.ensures) ∙ sym c.may_sync.ensures ∙ c.in_ok-may_sync.was)) in
    subst (λ (es : List Entry). IsGroup (record (group_of c.self.inside) { version = c.self.inside.version + 1; entries = es }))
    (sym (c.mark_synced.ensures ∙ registered_entries (group_of c.self.inside) c.args.id.0)) (registered_is (group_of c.self.inside) c.args.id.0 c.self.invariant was)

pub returns-clause-ok : goal.returns-clause-ok
returns-clause-ok c =
    ap (λ (es : List Entry). record (group_of c.self.inside) { version = c.self.inside.version + 1; entries = es }) (c.mark_synced.ensures ∙ registered_entries (group_of c.self.inside) c.args.id.0)
    ∙ ap (λ (g : Group). registered g c.args.id.0) c.self.view_is
