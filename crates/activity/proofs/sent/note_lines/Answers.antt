use Rattle.std.proofs.Common.{◌∷◌, ◌+◌, ◌∙◌, subst, drop}
use Rattle.activity.specs.Shown.{last_sent_rows}
use Rattle.activity.proofs.Lists.{drop_next}
use Rattle.activity.proofs.Lines.{Noting, noted_line}
use Rattle.activity.proofs.sent.note_lines.Goals as goal

pub note_line-requires : goal.note_line-requires
note_line-requires c =
    let inv : Noting (last_sent_rows c.args.rows.now.entries) (last_sent_rows c.loop-line.rows.entries) c.args.lines.now (c.line-item.result ∷ drop (c.loop-line.line-index + 1) c.args.lines.now) = subst (Noting (last_sent_rows c.args.rows.now.entries) (last_sent_rows c.loop-line.rows.entries) c.args.lines.now) (drop_next c.args.lines.now c.loop-line.line-index c.line-item.result c.loop-line-test.true c.line-item.is) c.loop-line.invariant.noting in
    inv.rows.0

pub loop-line-preserved : goal.loop-line-preserved
loop-line-preserved c = record {
  noting = noted_line (last_sent_rows c.args.rows.now.entries) (last_sent_rows c.loop-line.rows.entries) (last_sent_rows c.note_line.new.rows.entries) c.args.lines.now c.line-item.result (drop (c.loop-line.line-index + 1) c.args.lines.now)
      (subst (Noting (last_sent_rows c.args.rows.now.entries) (last_sent_rows c.loop-line.rows.entries) c.args.lines.now) (drop_next c.args.lines.now c.loop-line.line-index c.line-item.result c.loop-line-test.true c.line-item.is) c.loop-line.invariant.noting)
      c.note_line.ensures.sent c.note_line.ensures.kept;
  order = c.note_line.ensures.order ∙ c.loop-line.invariant.order;
}
