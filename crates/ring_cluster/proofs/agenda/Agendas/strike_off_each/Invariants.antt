use Rattle.std.proofs.Common.{◌≡◌}
use Rattle.ring_cluster.specs.Agendas.{struck_off}
use Rattle.ring_cluster.proofs.agenda.Agendas.strike_off_each.Given as goal

abbrev pub invariant-loop-place : goal.invariant-loop-place
invariant-loop-place l = l.self ≡ struck_off l.place l.names l.counts l.initial.self
