use Rattle.std.proofs.Common.{ap, ◌∙◌}
use Rattle.ring_cluster.specs.Seen.{state_of}
use Rattle.ring_cluster.proofs.rounds.Named.{going_fit}
use Rattle.ring_cluster.proofs.rounds.Holding.{newest_version}
use Rattle.ring_cluster.proofs.driver.newest.Goals as goal

pub returns : goal.returns
returns c = ap (λ g. g.version) c.behind-cluster.view_is ∙ ap (λ g. g.version) c.view.ensures ∙ newest_version (state_of c.args.cluster.now) (going_fit c.args.cluster.now c.is_going.ensures)
