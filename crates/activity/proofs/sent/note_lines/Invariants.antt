use Rattle.std.proofs.Common.{◌≡◌, drop}
use Rattle.activity.specs.LastSent.{origins_sent}
use Rattle.activity.specs.Shown.{last_sent_rows}
use Rattle.activity.proofs.Lines.{Noting}
use Rattle.activity.proofs.sent.note_lines.Given as goal

abbrev pub invariant-loop-line : goal.invariant-loop-line
invariant-loop-line l = record {
  noting : Noting (last_sent_rows l.fn.rows.entries) (last_sent_rows l.rows.entries) l.lines (drop l.line-index l.lines);
  order : origins_sent (last_sent_rows l.rows.entries) ≡ origins_sent (last_sent_rows l.fn.rows.entries);
}
