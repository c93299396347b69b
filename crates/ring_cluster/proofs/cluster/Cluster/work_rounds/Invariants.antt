use Rattle.std.proofs.Common.{◌≡◌}
use Rattle.ring_cluster.specs.Plays.{HasGoneOn}
use Rattle.ring_cluster.specs.Rounds.{more_rounds}
use Rattle.ring_cluster.proofs.cluster.Cluster.work_rounds.Given as goal

abbrev pub invariant-loop-round : goal.invariant-loop-round
invariant-loop-round g l = record {
  goes : HasGoneOn l.initial.self l.self;
  given : (l.self).given ≡ (l.initial.self).given;
  rounds : (l.self).rounds ≡ more_rounds l._round (l.initial.self).rounds;
}
