use Rattle.std.proofs.Common.{true, false, sym, ◌∙◌}
use Rattle.group_view.proofs.Cuts.{last_live_more}
use Rattle.group_view.proofs.ring.last_live.Goals as goal
use Rattle.group_view.proofs.ring.last_live.Goals.{then-is_live, else-is_live}

pub loop-entry-preserved : goal.loop-entry-preserved
loop-entry-preserved c =
    elim c.if-is_live.branch [
      | then-is_live w ↦ rw w.found-is (sym (last_live_more c.args.entries.now c.loop-entry.entry-index c.entry-item.result true c.loop-entry-test.true c.entry-item.is (sym c.is_live.ensures ∙ w.if-is_live.true)))
      | else-is_live w ↦ rw w.found-is (c.loop-entry.invariant ∙ sym (last_live_more c.args.entries.now c.loop-entry.entry-index c.entry-item.result false c.loop-entry-test.true c.entry-item.is (sym c.is_live.ensures ∙ w.if-is_live.false)))
    ]
