use Rattle.std.proofs.Common.{◌+◌, drop, subst}
use Rattle.activity.specs.Kept.{origins_of}
use Rattle.activity.specs.Shown.{kept_rows}
use Rattle.activity.proofs.Lists.{drop_next}
use Rattle.activity.proofs.Begin.{Opening, open_absent, open_line}
use Rattle.activity.proofs.Order.{opened_next}
use Rattle.activity.proofs.tables.open_rows.Goals as goal

pub open_row-requires : goal.open_row-requires
open_row-requires c = open_absent (kept_rows c.loop-line.rows.entries) c.args.lines.now c.line-item.result (drop (c.loop-line.line-index + 1) c.args.lines.now)
    (subst (Opening (kept_rows c.loop-line.rows.entries) c.args.lines.now) (drop_next c.args.lines.now c.loop-line.line-index c.line-item.result c.loop-line-test.true c.line-item.is) c.loop-line.invariant.opening)

pub loop-line-preserved : goal.loop-line-preserved
loop-line-preserved c = record {
  opening = open_line (kept_rows c.loop-line.rows.entries) c.args.lines.now c.line-item.result (drop (c.loop-line.line-index + 1) c.args.lines.now)
      (subst (Opening (kept_rows c.loop-line.rows.entries) c.args.lines.now) (drop_next c.args.lines.now c.loop-line.line-index c.line-item.result c.loop-line-test.true c.line-item.is) c.loop-line.invariant.opening)
      (kept_rows c.open_row.new.rows.entries) c.in_ok-open_row.ensures.kept c.in_ok-open_row.ensures.room c.in_ok-open_row.ensures.others;
  order = opened_next c.args.lines.now c.loop-line.line-index c.line-item.result (origins_of (kept_rows c.loop-line.rows.entries)) (origins_of (kept_rows c.open_row.new.rows.entries))
      c.loop-line-test.true c.line-item.is c.loop-line.invariant.order c.in_ok-open_row.ensures.order;
}
