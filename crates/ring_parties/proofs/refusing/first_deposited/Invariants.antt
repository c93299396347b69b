use Rattle.std.proofs.Common.{◌≡◌, drop, map}
use Rattle.ring_parties.specs.Parties.{shown_of, deposit_shown}
use Rattle.ring_parties.specs.Refused.{first_for}
use Rattle.ring_parties.proofs.refusing.first_deposited.Given as goal

abbrev pub invariant-loop-place : goal.invariant-loop-place
invariant-loop-place l = first_for (shown_of l.node).held (map deposit_shown l.registrar.links) ≡ first_for (shown_of l.node).held (drop l.place (map deposit_shown l.registrar.links))
