use Rattle.std.proofs.Common.{◌≡◌, None, sym, ap, subst, ◌∙◌, refl}
use Rattle.std.specs.Map.{lookup}
use Rattle.indexmap.proofs.CallerLemmas.{insert_entry-new}
use Rattle.group_view.proofs.Truth.{none_there}
use Rattle.activity.specs.LastSent.{KeepsSent, has_row, origins_sent}
use Rattle.activity.specs.Shown.{last_sent_rows}
use Rattle.activity.proofs.Rows.{same, row_added, none_sent, row_there}
use Rattle.activity.proofs.Order.{sent_added_order, sent_there_order}
use Rattle.activity.proofs.sent.make_row.Goals as goal

pub returns-in_ok-insert-clause-ok : goal.returns-in_ok-insert-clause-ok
returns-in_ok-insert-clause-ok c =
    let absent : lookup (same c.args.origin) c.args.rows.now.entries ≡ None = none_there (lookup (same c.args.origin) c.args.rows.now.entries) (sym c.contains_key.ensures ∙ c.if-not-contains_key.true) in
    ap (λ es. has_row (last_sent_rows es) c.args.origin.0) (c.in_ok-insert.ensures.entries ∙ insert_entry-new same c.args.rows.now c.args.origin _ absent) ∙ row_added c.args.origin c.args.rows.now.entries _ absent

pub returns-in_ok-insert-clause-kept : goal.returns-in_ok-insert-clause-kept
returns-in_ok-insert-clause-kept c =
    let absent : lookup (same c.args.origin) c.args.rows.now.entries ≡ None = none_there (lookup (same c.args.origin) c.args.rows.now.entries) (sym c.contains_key.ensures ∙ c.if-not-contains_key.true) in
    subst (λ es. KeepsSent (last_sent_rows c.args.rows.now.entries) (last_sent_rows es)) (sym (c.in_ok-insert.ensures.entries ∙ insert_entry-new same c.args.rows.now c.args.origin _ absent))
    (none_sent c.args.origin c.args.rows.now.entries _ absent refl)

pub returns-else-not-contains_key-clause-ok : goal.returns-else-not-contains_key-clause-ok
returns-else-not-contains_key-clause-ok c = row_there c.args.origin c.args.rows.now.entries (sym c.contains_key.ensures ∙ c.if-not-contains_key.false)

pub returns-in_ok-insert-clause-order : goal.returns-in_ok-insert-clause-order
returns-in_ok-insert-clause-order c =
    let absent : lookup (same c.args.origin) c.args.rows.now.entries ≡ None = none_there (lookup (same c.args.origin) c.args.rows.now.entries) (sym c.contains_key.ensures ∙ c.if-not-contains_key.true) in
    ap (λ es. origins_sent (last_sent_rows es)) (c.in_ok-insert.ensures.entries ∙ insert_entry-new same c.args.rows.now c.args.origin _ absent) ∙ sent_added_order c.args.origin c.args.rows.now.entries _ absent

pub returns-else-not-contains_key-clause-order : goal.returns-else-not-contains_key-clause-order
returns-else-not-contains_key-clause-order c = sent_there_order c.args.origin c.args.rows.now.entries (sym c.contains_key.ensures ∙ c.if-not-contains_key.false)
