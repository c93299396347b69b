-- A link that hasn't reached the registrar yet, as it waits there behind the others.
use Rattle.std.specs.Prelude.{[], ◌∷◌, List, Option, Some, None}
use Rattle.ring_parties.specs.declared.pending_deposit.PendingDeposit.{PendingDeposit}
use Rattle.ring_parties.specs.Parties.{Deposit, in_seen}

-- the deposits that haven't reached the registrar: none or one
abbrev pub behind : Option PendingDeposit → List Deposit
behind None = []
behind (Some u) = record { name = u.name; end = Some (in_seen u.link) } ∷ []
