use Rattle.std.proofs.Common.{map, take}
use Rattle.ring_cluster.specs.Agendas.{AreFronts}
use Rattle.ring_cluster.proofs.agenda.Agendas.fronts.Given as goal

abbrev pub invariant-loop-name : goal.invariant-loop-name
invariant-loop-name l = AreFronts l.self (take l.name-index l.names) (map (λ t. t.now) l.fronts.items)
