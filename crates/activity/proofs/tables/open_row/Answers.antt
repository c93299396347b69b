use Rattle.std.proofs.Common.{Some, cond, [], ◌∷◌, ◌++◌, sym, ap, ◌∙◌}
use Rattle.activity.specs.Kept.{no_kept, origins_of}
use Rattle.activity.specs.Packets.{got_in}
use Rattle.activity.specs.Plan.{opened}
use Rattle.activity.specs.Shown.{kept_rows}
use Rattle.activity.proofs.Rows.{on_ok}
use Rattle.activity.proofs.Begin.{absent_stays}
use Rattle.activity.proofs.Order.{used_alone, passed_alone}
use Rattle.activity.proofs.tables.open_row.Goals as goal

pub returns-then-not-begins-clause-kept : goal.returns-then-not-begins-clause-kept
returns-then-not-begins-clause-kept c = absent_stays (kept_rows c.args.rows.now.entries) c.args.line.now.origin.0 (opened (Some c.args.line.now)) c.requires
    (ap (λ b. cond b (record { forgot = c.args.line.now.lo; messages = []; retired = 0; base = got_in c.args.line.now }) no_kept) (sym c.begins.ensures ∙ c.if-not-begins.true))

pub returns-then-not-begins-clause-order : goal.returns-then-not-begins-clause-order
returns-then-not-begins-clause-order c = passed_alone c.args.line.now (origins_of (kept_rows c.args.rows.now.entries)) (sym c.begins.ensures ∙ c.if-not-begins.true)

pub returns-clause-order : goal.returns-clause-order
returns-clause-order c = on_ok c.add_row.result (λ e. e ∙ ap (λ p. origins_of (kept_rows c.args.rows.now.entries) ++ p ∷ []) (ap (λ l. l.origin.0) c.line.view_is) ∙ used_alone c.args.line.now (origins_of (kept_rows c.args.rows.now.entries)) (sym c.begins.ensures ∙ c.if-not-begins.false)) c.add_row.ensures.order
