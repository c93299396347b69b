use Rattle.std.proofs.Common.{sym, ap, ◌∙◌, nat_eq, true≢false}
use Rattle.group_view.proofs.Truth.{later_true}
use Rattle.activity.specs.Shown.{last_sent_rows}
use Rattle.activity.specs.LastSent.{sent_of, has_row, origins_sent}
use Rattle.activity.proofs.Rows.{sent_set, row_set, row_none}
use Rattle.activity.proofs.Order.{sent_set_order}
use Rattle.activity.proofs.sent.write_row.Goals as goal

pub returns-in_default-clause-sent : goal.returns-in_default-clause-sent
returns-in_default-clause-sent c = absurd (true≢false (sym c.requires ∙ row_none c.args.origin c.args.rows.now.entries (sym c.in_default.ensures.value)))

pub returns-clause-sent : goal.returns-clause-sent
returns-clause-sent c = λ p. ap (λ es. sent_of (last_sent_rows es) p) (c.get_mut.follows.holds c.args.last).0
    ∙ sent_set c.args.origin c.args.rows.now.entries c.in-Some.row.now c.args.last (sym c.in-Some.ensures.value) p

pub returns-clause-kept : goal.returns-clause-kept
returns-clause-kept c = λ p h. ap (λ es. has_row (last_sent_rows es) p) (c.get_mut.follows.holds c.args.last).0
    ∙ row_set c.args.origin c.args.rows.now.entries c.in-Some.row.now c.args.last (sym c.in-Some.ensures.value) p ∙ later_true (nat_eq p c.args.origin.0) h

pub returns-clause-order : goal.returns-clause-order
returns-clause-order c = ap (λ es. origins_sent (last_sent_rows es)) (c.get_mut.follows.holds c.args.last).0 ∙ sent_set_order c.args.origin c.args.rows.now.entries c.args.last
