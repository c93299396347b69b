use Rattle.ring_report.proofs.Telling.{told_more}
use Rattle.ring_report.proofs.refusals.push_refusals.Goals as goal

pub loop-refusal-preserved : goal.loop-refusal-preserved
loop-refusal-preserved c =
    told_more c.args.name.now c.args.out.now.items c.loop-refusal.out.items c.push_if_by.new.out.items c.args.refusals.now c.loop-refusal.refusal-index c.refusal-item.result
    c.loop-refusal-test.true c.refusal-item.is c.loop-refusal.invariant c.in_ok-push_if_by.ensures
