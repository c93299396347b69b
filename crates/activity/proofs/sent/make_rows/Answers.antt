use Rattle.std.proofs.Common.{◌≡◌, true, take, sym, ap, ◌∙◌, subst, refl}
use Rattle.activity.specs.LastSent.{has_row, origins_sent}
use Rattle.activity.specs.Packets.{HasRows}
use Rattle.activity.specs.Shown.{last_sent_rows}
use Rattle.activity.proofs.Lists.{take_next}
use Rattle.activity.proofs.Lines.{has_rows_push, has_rows_kept, sent_trans}
use Rattle.activity.proofs.Order.{line_next, if_err}
use Rattle.activity.proofs.sent.make_rows.Goals as goal

pub loop-line-init : goal.loop-line-init
loop-line-init c = record { there = tt; order = refl; kept = record { sent = λ p. refl; rows = λ p h. h } }

pub loop-line-preserved : goal.loop-line-preserved
loop-line-preserved c =
    let inv = c.loop-line.invariant in
    let step = c.in_ok-make_row.ensures in
    record {
      there = subst (HasRows (last_sent_rows c.make_row.new.rows.entries)) (sym (take_next c.args.lines.now c.loop-line.line-index c.line-item.result c.loop-line-test.true c.line-item.is))
          (has_rows_push (last_sent_rows c.make_row.new.rows.entries) (take c.loop-line.line-index c.args.lines.now) c.line-item.result
          (has_rows_kept (last_sent_rows c.loop-line.rows.entries) (last_sent_rows c.make_row.new.rows.entries) (take c.loop-line.line-index c.args.lines.now) step.kept.rows inv.there)
          (subst (λ l. has_row (last_sent_rows c.make_row.new.rows.entries) l.origin.0 ≡ true) c.line.view_is step.ok));
      order = line_next c.args.lines.now c.loop-line.line-index c.line-item.result c.line.inside.origin.0 (origins_sent (last_sent_rows c.args.rows.now.entries)) (origins_sent (last_sent_rows c.loop-line.rows.entries)) (origins_sent (last_sent_rows c.make_row.new.rows.entries))
          c.loop-line-test.true c.line-item.is (ap (λ l. l.origin.0) c.line.view_is) inv.order step.order;
      kept = sent_trans (last_sent_rows c.args.rows.now.entries) (last_sent_rows c.loop-line.rows.entries) (last_sent_rows c.make_row.new.rows.entries) inv.kept step.kept;
    }

pub returns-in_err-make_row-clause-err : goal.returns-in_err-make_row-clause-err
returns-in_err-make_row-clause-err c = if_err c.from_residual.result (c.loop-line.line-index, c.in_err-make_row.ensures.err ∙ c.loop-line.invariant.order)
