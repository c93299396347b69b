use Rattle.std.proofs.Common.{sym, ap, ◌∙◌, true≢false}
use Rattle.activity.specs.Kept.{kept_of, has_room, origins_of}
use Rattle.activity.specs.Plan.{change_of, changed, arrivals}
use Rattle.activity.specs.Shown.{kept_rows}
use Rattle.activity.proofs.Rows.{room_none, room_spare, kept_found, kept_written, room_others}
use Rattle.activity.proofs.Order.{kept_set_order}
use Rattle.activity.proofs.tables.apply_line.Goals as goal

pub returns-in_default-clause-kept : goal.returns-in_default-clause-kept
returns-in_default-clause-kept c = absurd (true≢false (sym c.requires.room ∙ room_none c.args.origin c.args.rows.now.entries (arrivals c.args.change) (sym c.in_default.ensures.value)))

pub accept-requires-clause-planned : goal.accept-requires-clause-planned
accept-requires-clause-planned c = (c.requires.planned.0, ap (λ k. change_of c.requires.planned.0 k c.args.line) (sym (kept_found c.args.origin c.args.rows.now.entries c.in-Some.table.now (sym c.in-Some.ensures.value))) ∙ c.requires.planned.1)

pub accept-requires-clause-room : goal.accept-requires-clause-room
accept-requires-clause-room c = room_spare c.args.origin c.args.rows.now.entries (arrivals c.args.change) c.in-Some.table.now (sym c.in-Some.ensures.value) c.requires.room

pub returns-clause-kept : goal.returns-clause-kept
returns-clause-kept c = λ p. ap (λ es. kept_of (kept_rows es) p) (c.get_mut.follows.holds c.accept.new.self).0
    ∙ kept_written c.args.origin c.args.rows.now.entries c.in-Some.table.now c.accept.new.self (λ k. changed k c.args.line c.args.change) (sym c.in-Some.ensures.value) c.accept.ensures p

pub returns-clause-room : goal.returns-clause-room
returns-clause-room c = λ p n apart. ap (λ es. has_room (kept_rows es) p n) (c.get_mut.follows.holds c.accept.new.self).0
    ∙ room_others c.args.origin c.args.rows.now.entries c.in-Some.table.now c.accept.new.self (sym c.in-Some.ensures.value) p n apart

pub returns-clause-order : goal.returns-clause-order
returns-clause-order c = ap (λ es. origins_of (kept_rows es)) (c.get_mut.follows.holds c.accept.new.self).0 ∙ kept_set_order c.args.origin c.args.rows.now.entries c.accept.new.self
