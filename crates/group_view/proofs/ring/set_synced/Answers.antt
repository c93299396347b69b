use Rattle.std.proofs.Common.{◌∙◌, ◌++◌, ap, sym, map, cond, get_or, drop, true}
use Rattle.std.proofs.lemmas.List.{take_all, drop_all, append-nil}
use Rattle.group_view.specs.Change.{with_synced}
use Rattle.group_view.proofs.Marks.{over_more}
use Rattle.group_view.proofs.ring.set_synced.Goals as goal
use Rattle.group_view.proofs.ring.set_synced.Goals.{then-has_id, else-has_id}

pub loop-entry-preserved : goal.loop-entry-preserved
loop-entry-preserved c =
    elim c.if-has_id.branch [
      | then-has_id w ↦ over_more (with_synced c.args.id.0) c.args.entries.now c.loop-entry.entries c.if-has_id.entries c.loop-entry.entry-index c.entry-item.result (record (get_or c.loop-entry.entries c.loop-entry.entry-index c.entry-item.result) { synced = true }) c.loop-entry-test.true c.loop-entry.auto.entries c.loop-entry.invariant w.entries-is
          (ap (λ b. cond b (record (get_or c.loop-entry.entries c.loop-entry.entry-index c.entry-item.result) { synced = true }) (get_or c.loop-entry.entries c.loop-entry.entry-index c.entry-item.result)) (sym w.if-has_id.true ∙ c.has_id.ensures))
      | else-has_id w ↦ over_more (with_synced c.args.id.0) c.args.entries.now c.loop-entry.entries c.if-has_id.entries c.loop-entry.entry-index c.entry-item.result (get_or c.loop-entry.entries c.loop-entry.entry-index c.entry-item.result) c.loop-entry-test.true c.loop-entry.auto.entries c.loop-entry.invariant w.entries-is
          (ap (λ b. cond b (record (get_or c.loop-entry.entries c.loop-entry.entry-index c.entry-item.result) { synced = true }) (get_or c.loop-entry.entries c.loop-entry.entry-index c.entry-item.result)) (sym w.if-has_id.false ∙ c.has_id.ensures))
    ]

pub returns : goal.returns
returns c =
    c.loop-entry.invariant
    ∙ ap (λ us. map (with_synced c.args.id.0) us ++ drop c.loop-entry.entry-index c.args.entries.now) (take_all c.loop-entry.entry-index c.args.entries.now c.loop-entry-test.false)
    ∙ ap (λ us. map (with_synced c.args.id.0) c.args.entries.now ++ us) (drop_all c.loop-entry.entry-index c.args.entries.now c.loop-entry-test.false)
    ∙ append-nil (map (with_synced c.args.id.0) c.args.entries.now)
