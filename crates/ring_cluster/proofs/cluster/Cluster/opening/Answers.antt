use Rattle.std.proofs.Common.{sym, subst}
use Rattle.ring_cluster.specs.Plays.{PlaysSoFar}
use Rattle.ring_cluster.proofs.rounds.Playing.{opened_plays}
use Rattle.ring_cluster.proofs.cluster.Cluster.opening.Goals as goal

pub returns-clause-plays : goal.returns-clause-plays
returns-clause-plays c = subst PlaysSoFar (sym c.in_ok-cluster.ensures) (opened_plays c.args.credit c.args.members.now)
