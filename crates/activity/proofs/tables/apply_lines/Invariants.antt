use Rattle.std.proofs.Common.{◌≡◌, ℕ, Bool, drop}
use Rattle.activity.specs.Kept.{origins_of}
use Rattle.activity.specs.Plan.{changes_of}
use Rattle.activity.specs.Shown.{kept_rows}
use Rattle.activity.proofs.Lines.{Applying}
use Rattle.activity.proofs.tables.apply_lines.Given as goal

abbrev pub invariant-loop-line : goal.invariant-loop-line
invariant-loop-line l = record {
  runs : (goal.iterator-loop-line).can_next l.line-iterator;
  ends : (goal.iterator-loop-line).is_finite l.line-iterator;
  order : origins_of (kept_rows l.rows.entries) ≡ origins_of (kept_rows l.fn.rows.entries);
  applying : (own : ℕ → Bool) → l.changes ≡ changes_of own (kept_rows l.fn.rows.entries) l.fn.lines.items
      → Applying own (kept_rows l.fn.rows.entries) (kept_rows l.rows.entries) l.fn.lines.items l.line-iterator.rest.items (drop l.next l.changes);
}
