use Rattle.std.proofs.Common.{sym, ap, subst, ◌∙◌, refl, true≢false}
use Rattle.activity.specs.Kept.{KeepsRows, has_room, origins_of}
use Rattle.activity.specs.Shown.{kept_rows}
use Rattle.activity.proofs.Rows.{on_ok, room_none, row_reserved, keeps_reserved, kept_again}
use Rattle.activity.proofs.Order.{kept_set_order}
use Rattle.activity.proofs.tables.reserve_row.Goals as goal

pub returns-in_default-clause-ok : goal.returns-in_default-clause-ok
returns-in_default-clause-ok c = absurd (true≢false (sym c.requires ∙ room_none c.args.origin c.args.rows.now.entries 0 (sym c.in_default.ensures.value)))

pub returns-clause-ok : goal.returns-clause-ok
returns-clause-ok c = on_ok c.reserve.result (λ room. ap (λ es. has_room (kept_rows es) c.args.origin.0 c.args.n) (c.get_mut.follows.holds (record { store = c.reserve.new.self; retired = c.in-Some.table.now.retired; base = c.in-Some.table.now.base })).0
    ∙ row_reserved c.args.origin c.args.rows.now.entries c.args.n c.in-Some.table.now (record { store = c.reserve.new.self; retired = c.in-Some.table.now.retired; base = c.in-Some.table.now.base }) (sym c.in-Some.ensures.value) room) c.reserve.ensures.ok

pub returns-clause-kept : goal.returns-clause-kept
returns-clause-kept c = subst (λ es. KeepsRows (kept_rows c.args.rows.now.entries) (kept_rows es)) (sym (c.get_mut.follows.holds (record { store = c.reserve.new.self; retired = c.in-Some.table.now.retired; base = c.in-Some.table.now.base })).0)
    (keeps_reserved c.args.origin c.args.rows.now.entries c.in-Some.table.now (record { store = c.reserve.new.self; retired = c.in-Some.table.now.retired; base = c.in-Some.table.now.base }) (sym c.in-Some.ensures.value)
    (kept_again c.in-Some.table.now (record { store = c.reserve.new.self; retired = c.in-Some.table.now.retired; base = c.in-Some.table.now.base }) c.reserve.ensures.kept refl refl) c.reserve.ensures.spare)

pub returns-clause-order : goal.returns-clause-order
returns-clause-order c = ap (λ es. origins_of (kept_rows es)) (c.get_mut.follows.holds (record { store = c.reserve.new.self; retired = c.in-Some.table.now.retired; base = c.in-Some.table.now.base })).0
    ∙ kept_set_order c.args.origin c.args.rows.now.entries (record { store = c.reserve.new.self; retired = c.in-Some.table.now.retired; base = c.in-Some.table.now.base })
