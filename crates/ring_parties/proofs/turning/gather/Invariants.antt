use Rattle.ring_parties.proofs.pairs.AllLogs.{LogsBelow}
use Rattle.ring_parties.proofs.turning.gather.Given as goal

abbrev pub invariant-loop-place : goal.invariant-loop-place
invariant-loop-place l = LogsBelow l.place l.fn.members l.members l.fn.logs l.logs
