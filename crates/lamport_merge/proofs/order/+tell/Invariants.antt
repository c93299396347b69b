use Rattle.std.proofs.Common.{length}
use Rattle.lamport_merge.proofs.order.+tell.Given as goal

abbrev pub decreases-tell : goal.decreases-tell
decreases-tell l = length l.logs.now
