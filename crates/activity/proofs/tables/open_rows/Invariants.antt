use Rattle.std.proofs.Common.{◌≡◌, take, drop}
use Rattle.std.specs.List.{filter}
use Rattle.activity.specs.Kept.{origins_of}
use Rattle.activity.specs.Packets.{origins}
use Rattle.activity.specs.Plan.{begins}
use Rattle.activity.specs.Shown.{kept_rows}
use Rattle.activity.proofs.Begin.{Opening}
use Rattle.activity.proofs.tables.open_rows.Given as goal

abbrev pub invariant-loop-line : goal.invariant-loop-line
invariant-loop-line l = record {
  opening : Opening (kept_rows l.rows.entries) l.lines (drop l.line-index l.lines);
  order : origins_of (kept_rows l.rows.entries) ≡ origins (filter begins (take l.line-index l.lines));
}
