use Rattle.std.proofs.Common.{◌≡◌, take, map}
use Rattle.ring_parties.specs.Parties.{shown_in}
use Rattle.ring_parties.proofs.parties.Parties.names.Given as goal

abbrev pub invariant-loop-party : goal.invariant-loop-party
invariant-loop-party l = l.names.items ≡ map (λ p. (shown_in p).held.name) (take l.party-index l.party-items)
