use Rattle.ring_parties.specs.Pairing.{IsHeardIf}
use Rattle.ring_parties.proofs.pairs.Done.{Done}
use Rattle.ring_parties.proofs.pairing.rest_unheard.Given as goal

abbrev pub invariant-loop-place : goal.invariant-loop-place
invariant-loop-place l = Done (λ _ p q. IsHeardIf l.fn.members p q) l.place l.fn.members l.members
