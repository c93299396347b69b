use Rattle.ring_parties.specs.Turns.{Begun}
use Rattle.ring_parties.proofs.pairs.Done.{Done}
use Rattle.ring_parties.proofs.turning.begin_all.Given as goal

abbrev pub invariant-loop-place : goal.invariant-loop-place
invariant-loop-place l = Done (λ _ p q. Begun l.fn.number l.fn.turns p q) l.place l.fn.members l.members
