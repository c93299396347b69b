use Rattle.std.proofs.Common.{◌≡◌, take}
use Rattle.activity.specs.Kept.{origins_of, KeepsRows}
use Rattle.activity.specs.Plan.{AreReady, changed_origins}
use Rattle.activity.specs.Order.{with_origins}
use Rattle.activity.specs.Shown.{kept_rows}
use Rattle.activity.proofs.tables.reserve_all.Given as goal

abbrev pub invariant-loop-change : goal.invariant-loop-change
invariant-loop-change l = record {
  ready : AreReady (kept_rows l.rows.entries) (take l.change-index l.changes);
  order : origins_of (kept_rows l.rows.entries) ≡ with_origins (changed_origins (take l.change-index l.changes)) (origins_of (kept_rows l.fn.rows.entries));
  kept : KeepsRows (kept_rows l.fn.rows.entries) (kept_rows l.rows.entries);
}
