use Rattle.ring_parties.proofs.pairs.Below.{MetBelow}
use Rattle.ring_parties.proofs.pairing.meet_pairs.Given as goal

abbrev pub invariant-loop-place : goal.invariant-loop-place
invariant-loop-place l = MetBelow l.place l.fn.members l.members
