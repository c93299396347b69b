use Rattle.std.proofs.Common.{◌<◌, ◌^◌, sym, ap, subst, ◌∙◌, refl, true≢false, arith}
use Rattle.activity.specs.Kept.{got_of, kept_of, origins_of, joined}
use Rattle.activity.specs.Shown.{kept_rows}
use Rattle.activity.proofs.Rows.{room_none, room_spare, kept_found, kept_written, kept_joins}
use Rattle.activity.proofs.Order.{kept_set_order}
use Rattle.activity.proofs.tables.push_message.Goals as goal

pub returns-in_default-clause-kept : goal.returns-in_default-clause-kept
returns-in_default-clause-kept c = absurd (true≢false (sym c.requires.room ∙ room_none c.args.origin c.args.rows.now.entries 1 (sym c.in_default.ensures.value)))

pub push-requires-clause-room : goal.push-requires-clause-room
push-requires-clause-room c = omega (arith, room_spare c.args.origin c.args.rows.now.entries 1 c.in-Some.table.now (sym c.in-Some.ensures.value) c.requires.room)

pub push-requires-clause-below : goal.push-requires-clause-below
push-requires-clause-below c = subst (λ k. got_of k < 2 ^ 63) (kept_found c.args.origin c.args.rows.now.entries c.in-Some.table.now (sym c.in-Some.ensures.value)) c.requires.below

pub returns-clause-kept : goal.returns-clause-kept
returns-clause-kept c = λ p. ap (λ es. kept_of (kept_rows es) p) (c.get_mut.follows.holds (record { store = c.push.new.self; retired = c.in-Some.table.now.retired; base = c.in-Some.table.now.base })).0
    ∙ kept_written c.args.origin c.args.rows.now.entries c.in-Some.table.now (record { store = c.push.new.self; retired = c.in-Some.table.now.retired; base = c.in-Some.table.now.base }) (joined c.args.message) (sym c.in-Some.ensures.value)
    (kept_joins c.args.message c.in-Some.table.now (record { store = c.push.new.self; retired = c.in-Some.table.now.retired; base = c.in-Some.table.now.base }) c.push.ensures.gains refl refl) p

pub returns-clause-order : goal.returns-clause-order
returns-clause-order c = ap (λ es. origins_of (kept_rows es)) (c.get_mut.follows.holds (record { store = c.push.new.self; retired = c.in-Some.table.now.retired; base = c.in-Some.table.now.base })).0
    ∙ kept_set_order c.args.origin c.args.rows.now.entries (record { store = c.push.new.self; retired = c.in-Some.table.now.retired; base = c.in-Some.table.now.base })
