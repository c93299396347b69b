use Rattle.std.proofs.Common.{◌≡◌, ◌+◌, take, get_or, ⊎_elim, ◌∙◌, sym, ap, subst}
use Rattle.std.proofs.lemmas.List.{take_more}
use Rattle.activity.specs.declared.change.Change.TheVariants.{Receive}
use Rattle.activity.specs.Kept.{has_room, origins_of}
use Rattle.activity.specs.Plan.{AreReady, arrivals}
use Rattle.activity.specs.Order.{with_origin}
use Rattle.activity.specs.Shown.{kept_rows}
use Rattle.activity.proofs.Lines.{ready_push, ready_kept, rows_trans}
use Rattle.activity.proofs.Order.{change_next, if_err}
use Rattle.activity.proofs.tables.reserve_all.Goals as goal

pub loop-change-preserved : goal.loop-change-preserved
loop-change-preserved c =
    let inv = c.loop-change.invariant in
    let step = c.in_ok-reserve.ensures in
    let item = get_or c.args.changes.now c.loop-change.change-index (Receive (record { 0 = 0 }) 0 0 0) in
    record {
      ready = subst (AreReady (kept_rows c.reserve.new.rows.entries)) (sym (take_more c.args.changes.now c.loop-change.change-index (Receive (record { 0 = 0 }) 0 0 0) c.loop-change-test.true))
          (ready_push (kept_rows c.reserve.new.rows.entries) (take c.loop-change.change-index c.args.changes.now) item
          (ready_kept (kept_rows c.loop-change.rows.entries) (kept_rows c.reserve.new.rows.entries) (take c.loop-change.change-index c.args.changes.now) step.kept inv.ready)
          (ap (λ id. has_room (kept_rows c.reserve.new.rows.entries) id.0 (arrivals item)) (sym c.origin.ensures)
          ∙ ap (has_room (kept_rows c.reserve.new.rows.entries) c.origin.result.0) (sym c.arrivals.ensures) ∙ step.ok));
      order = change_next c.args.changes.now c.loop-change.change-index item c.origin.result.0 (origins_of (kept_rows c.args.rows.now.entries)) (origins_of (kept_rows c.loop-change.rows.entries)) (origins_of (kept_rows c.reserve.new.rows.entries))
          (take_more c.args.changes.now c.loop-change.change-index (Receive (record { 0 = 0 }) 0 0 0) c.loop-change-test.true) (ap (λ id. id.0) c.origin.ensures) inv.order step.order;
      kept = rows_trans (kept_rows c.args.rows.now.entries) (kept_rows c.loop-change.rows.entries) (kept_rows c.reserve.new.rows.entries) inv.kept step.kept;
    }

pub returns-in_err-reserve-clause-err : goal.returns-in_err-reserve-clause-err
returns-in_err-reserve-clause-err c =
    let item = get_or c.args.changes.now c.loop-change.change-index (Receive (record { 0 = 0 }) 0 0 0) in
    if_err c.from_residual.result
    (⊎_elim
    (λ (same : origins_of (kept_rows c.reserve.new.rows.entries) ≡ origins_of (kept_rows c.loop-change.rows.entries)). (c.loop-change.change-index, same ∙ c.loop-change.invariant.order))
    (λ (more : origins_of (kept_rows c.reserve.new.rows.entries) ≡ with_origin c.origin.result.0 (origins_of (kept_rows c.loop-change.rows.entries))). (
      c.loop-change.change-index + 1,
      change_next c.args.changes.now c.loop-change.change-index item c.origin.result.0 (origins_of (kept_rows c.args.rows.now.entries)) (origins_of (kept_rows c.loop-change.rows.entries)) (origins_of (kept_rows c.reserve.new.rows.entries))
          (take_more c.args.changes.now c.loop-change.change-index (Receive (record { 0 = 0 }) 0 0 0) c.loop-change-test.true) (ap (λ id. id.0) c.origin.ensures) c.loop-change.invariant.order more,
    ))
    c.in_err-reserve.ensures.err)
