use Rattle.std.proofs.Common.{◌≡◌, None, sym, ap, subst, ◌∙◌}
use Rattle.std.specs.Map.{lookup}
use Rattle.indexmap.proofs.CallerLemmas.{insert_entry-new}
use Rattle.group_view.proofs.Truth.{none_there}
use Rattle.activity.specs.Kept.{KeepsRows, has_room, origins_of}
use Rattle.activity.specs.Shown.{kept_rows}
use Rattle.activity.proofs.Rows.{same, room_added, none_kept, room_there, started}
use Rattle.activity.proofs.Order.{kept_added_order, kept_there_order}
use Rattle.activity.proofs.tables.make_row.Goals as goal

pub returns-in_ok-insert-clause-ok : goal.returns-in_ok-insert-clause-ok
returns-in_ok-insert-clause-ok c =
    let absent : lookup (same c.args.origin) c.args.rows.now.entries ≡ None = none_there (lookup (same c.args.origin) c.args.rows.now.entries) (sym c.contains_key.ensures ∙ c.if-not-contains_key.true) in
    ap (λ es. has_room (kept_rows es) c.args.origin.0 0) (c.in_ok-insert.ensures.entries ∙ insert_entry-new same c.args.rows.now c.args.origin _ absent) ∙ room_added c.args.origin c.args.rows.now.entries _ absent

pub returns-in_ok-insert-clause-kept : goal.returns-in_ok-insert-clause-kept
returns-in_ok-insert-clause-kept c =
    let absent : lookup (same c.args.origin) c.args.rows.now.entries ≡ None = none_there (lookup (same c.args.origin) c.args.rows.now.entries) (sym c.contains_key.ensures ∙ c.if-not-contains_key.true) in
    subst (λ es. KeepsRows (kept_rows c.args.rows.now.entries) (kept_rows es)) (sym (c.in_ok-insert.ensures.entries ∙ insert_entry-new same c.args.rows.now c.args.origin _ absent))
    (none_kept c.args.origin c.args.rows.now.entries _ absent (started 0 0 c.starting-table.result c.starting-table.ensures.store c.starting-table.ensures.retired c.starting-table.ensures.base))

pub returns-else-not-contains_key-clause-ok : goal.returns-else-not-contains_key-clause-ok
returns-else-not-contains_key-clause-ok c = room_there c.args.origin c.args.rows.now.entries (sym c.contains_key.ensures ∙ c.if-not-contains_key.false)

pub returns-in_ok-insert-clause-order : goal.returns-in_ok-insert-clause-order
returns-in_ok-insert-clause-order c =
    let absent : lookup (same c.args.origin) c.args.rows.now.entries ≡ None = none_there (lookup (same c.args.origin) c.args.rows.now.entries) (sym c.contains_key.ensures ∙ c.if-not-contains_key.true) in
    ap (λ es. origins_of (kept_rows es)) (c.in_ok-insert.ensures.entries ∙ insert_entry-new same c.args.rows.now c.args.origin _ absent) ∙ kept_added_order c.args.origin c.args.rows.now.entries _ absent

pub returns-else-not-contains_key-clause-order : goal.returns-else-not-contains_key-clause-order
returns-else-not-contains_key-clause-order c = kept_there_order c.args.origin c.args.rows.now.entries (sym c.contains_key.ensures ∙ c.if-not-contains_key.false)
