use Rattle.std.proofs.Common.{◌≡◌}
use Rattle.activity.specs.Kept.{origins_of}
use Rattle.activity.specs.Shown.{kept_rows}
use Rattle.activity.proofs.Begin.{Filling}
use Rattle.activity.proofs.tables.fill_lines.Given as goal

abbrev pub invariant-loop-line : goal.invariant-loop-line
invariant-loop-line l = record {
  runs : (goal.iterator-loop-line).can_next l.line-iterator;
  ends : (goal.iterator-loop-line).is_finite l.line-iterator;
  order : origins_of (kept_rows l.rows.entries) ≡ origins_of (kept_rows l.fn.rows.entries);
  filling : Filling (kept_rows l.rows.entries) l.fn.lines.items l.line-iterator.rest.items;
}
