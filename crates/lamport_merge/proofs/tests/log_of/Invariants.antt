use Rattle.std.proofs.Common.{◌≡◌}
use Rattle.lamport_merge.proofs.tests.log_of.Given as goal

abbrev pub invariant-loop-time : goal.invariant-loop-time
invariant-loop-time l = l.log.party ≡ l.fn.party
