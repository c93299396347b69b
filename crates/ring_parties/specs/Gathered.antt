-- What the parties of a cluster are seen as.
use Rattle.std.specs.Prelude.{is_some, map}
use Rattle.ring_parties.specs.declared.parties.Parties.TheInside.{Inside}
use Rattle.ring_parties.specs.Parties.{PartiesSeen, parties, keeps_in}
use Rattle.ring_parties.specs.Behind.{behind}

-- they owe the registrar the link that they keep
abbrev pub gathered : Inside → PartiesSeen
gathered a = record { all = parties a.members.items a.registrar (behind a.pending_deposit); keeps = map keeps_in a.members.items; owes = is_some a.pending_deposit }
