use Rattle.std.proofs.Common.{◌<◌, length, arith}
use Rattle.gm_member.proofs.Pruned.{judged_more}
use Rattle.gm_member.proofs.door.prune.Goals as goal

pub loop-link-preserved : goal.loop-link-preserved
loop-link-preserved g c =
    let l : c.loop-link._link < length c.args.door.now.items = omega (arith, c.loop-link-test.true, c.loop-link.auto._link-end, c.len-count.ensures, c.args.door.now.ok.0) in
    let j = judged_more c.args.view.now c.args.id.0 c.loop-link._link c.args.door.now.items c.loop-link.door.items c.judge.new.door.items c.args.left.now.items c.loop-link.left.items c.judge.new.left.items l c.loop-link.invariant.judged c.loop-link.invariant.left c.judge.ensures.judged in
    record {
      judged = j.door;
      left = j.gone;
      fewer = omega (arith, c.judge.ensures.fewer, c.loop-link.invariant.fewer);
      room = omega (arith, c.judge.ensures.room, c.loop-link.invariant.room);
    }
