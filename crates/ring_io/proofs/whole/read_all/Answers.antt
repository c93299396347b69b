use Rattle.std.proofs.Common.{take, ◌++◌, arith}
use Rattle.std.proofs.lemmas.Grind.{common_steps}
use Rattle.std.proofs.KnownBytes.{Consumes-trans}
use Rattle.ring_io.proofs.whole.read_all.Goals as goal

pub returns-then-len-n-clause-in_part : goal.returns-then-len-n-clause-in_part
returns-then-len-n-clause-in_part g c =
    (c.loop-round.bytes.items ++ take c.in-Ok.n c.read.new.buf, grind (arith, common_steps), Consumes-trans _ _ _ _ _ c.loop-round.invariant.read c.in-Ok.ensures.bytes.0)

pub returns-in-Err-extend_from_slice-clause-in_part : goal.returns-in-Err-extend_from_slice-clause-in_part
returns-in-Err-extend_from_slice-clause-in_part g c =
    (c.loop-round.bytes.items ++ take c.in-Ok.n c.read.new.buf, grind (arith, common_steps), Consumes-trans _ _ _ _ _ c.loop-round.invariant.read c.in-Ok.ensures.bytes.0)
