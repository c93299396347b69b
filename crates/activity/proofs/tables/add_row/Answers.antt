use Rattle.std.proofs.Common.{◌≡◌, None, cond, nat_eq, ap, ◌∙◌}
use Rattle.std.specs.Map.{lookup}
use Rattle.indexmap.proofs.CallerLemmas.{insert_entry-new}
use Rattle.activity.specs.Kept.{has_room, kept_of, origins_of}
use Rattle.activity.specs.Shown.{kept_rows}
use Rattle.activity.proofs.Rows.{same, row_absent, kept_push, room_at_push, room_others_push, reserved_start}
use Rattle.activity.proofs.Order.{kept_pushed_order}
use Rattle.activity.proofs.tables.add_row.Goals as goal

pub returns-clause-kept : goal.returns-clause-kept
returns-clause-kept c = λ p.
    let absent : lookup (same c.args.origin) c.args.rows.now.entries ≡ None = row_absent c.args.origin c.args.rows.now.entries c.requires.absent in
    ap (λ es. kept_of (kept_rows es) p) (c.in_ok-insert.ensures.entries ∙ insert_entry-new same c.args.rows.now c.args.origin _ absent)
    ∙ kept_push c.args.origin c.args.rows.now.entries _ absent p
    ∙ ap (λ k. cond (nat_eq p c.args.origin.0) k (kept_of (kept_rows c.args.rows.now.entries) p)) (reserved_start c.args.lo c.args.base c.starting-table.result c.reserve.new.self c.starting-table.ensures.store c.starting-table.ensures.retired c.starting-table.ensures.base c.reserve.ensures.kept)

pub returns-clause-room : goal.returns-clause-room
returns-clause-room c =
    let absent : lookup (same c.args.origin) c.args.rows.now.entries ≡ None = row_absent c.args.origin c.args.rows.now.entries c.requires.absent in
    ap (λ es. has_room (kept_rows es) c.args.origin.0 c.args.n) (c.in_ok-insert.ensures.entries ∙ insert_entry-new same c.args.rows.now c.args.origin _ absent)
    ∙ room_at_push c.args.origin c.args.rows.now.entries _ c.args.n absent c.in_ok-reserve.ensures.ok

pub returns-clause-others : goal.returns-clause-others
returns-clause-others c = λ p m apart.
    let absent : lookup (same c.args.origin) c.args.rows.now.entries ≡ None = row_absent c.args.origin c.args.rows.now.entries c.requires.absent in
    ap (λ es. has_room (kept_rows es) p m) (c.in_ok-insert.ensures.entries ∙ insert_entry-new same c.args.rows.now c.args.origin _ absent)
    ∙ room_others_push c.args.origin c.args.rows.now.entries _ absent p m apart

pub returns-clause-order : goal.returns-clause-order
returns-clause-order c =
    let absent : lookup (same c.args.origin) c.args.rows.now.entries ≡ None = row_absent c.args.origin c.args.rows.now.entries c.requires.absent in
    ap (λ es. origins_of (kept_rows es)) (c.in_ok-insert.ensures.entries ∙ insert_entry-new same c.args.rows.now c.args.origin _ absent)
    ∙ kept_pushed_order c.args.origin c.args.rows.now.entries _
