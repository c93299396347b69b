use Rattle.std.proofs.Common.{arith, length-drop}
use Rattle.std.proofs.lemmas.List.{take_rest}
use Rattle.ring_io.proofs.Gaining.{Gains-take}
use Rattle.ring_io.proofs.whole.write_all.Goals as goal

pub loop-written-preserved : goal.loop-written-preserved
loop-written-preserved g c = record {
  within = omega (arith, c.in-Ok.ensures.bound, length-drop c.loop-written.written c.args.bytes.now);
  gained = Gains-take _ _ _ _ _ _ _ _ (take_rest c.args.bytes.now c.loop-written.written) c.loop-written.invariant.gained c.in-Ok.ensures.bytes;
  never_falls = omega (arith, c.in-Ok.ensures.never_falls, c.loop-written.invariant.never_falls);
}
