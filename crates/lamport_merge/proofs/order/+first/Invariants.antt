use Rattle.std.proofs.Common.{length}
use Rattle.lamport_merge.proofs.order.+first.Given as goal

abbrev pub decreases-first : goal.decreases-first
decreases-first l = length l.logs.now
