use Rattle.std.proofs.Common.{◌∙◌}
use Rattle.ring_cluster.proofs.cluster.Cluster.base.Goals as goal

pub returns : goal.returns
returns c = c.base.ensures ∙ c.in-Some.ensures.holds.base c.args.of.0 c.requires.origin.0 c.requires.origin.1
