-- What is seen of a cluster, and what it keeps.
use Rattle.ring_cluster.specs.declared.cluster.Cluster.TheInside.{Inside}
use Rattle.ring_cluster.specs.Seen.{Seen, collected_by}
use Rattle.ring_parties.specs.States.{state}
use Rattle.ring_parties.specs.Keeps.{KeepsStand}
use Rattle.ring_parties.specs.Standing.{StandAfter}

-- what is seen of a cluster: it owes what its parties owe, and its members have collected what stands at their doors
abbrev pub seen_of : Inside → Seen
seen_of a = record { credit = a.credit; names = a.names.items; events = a.journal.items; agendas = a.agendas; rounds = a.rounds; given = a.given.items; owes = a.parties.owes; collected = collected_by a.parties.all }

-- Its parties stand in the last state of its journal, and keep what their members have there.
pub record IsStanding (a : Inside) : Type 0 where
  pub standing : StandAfter a.credit a.names.items a.journal.items a.parties.all
  pub keeps : KeepsStand (state a.credit a.names.items a.journal.items) a.parties.keeps
