use Rattle.std.proofs.Common.{length}
use Rattle.ring_script.proofs.Walk.{IsReadUpTo}
use Rattle.ring_script.proofs.text.read_text.Given as goal

abbrev pub invariant-lines : goal.invariant-lines
invariant-lines g l = IsReadUpTo g.S.Statement.grammar g.S.Statement.says l.fn.bytes l.rest l.number l.reader

abbrev pub decreases-lines : goal.decreases-lines
decreases-lines g l = length l.rest
