use Rattle.std.proofs.Common.{◌∙◌}
use Rattle.ring_cluster.proofs.cluster.Cluster.got.Goals as goal

pub returns : goal.returns
returns c = c.got.ensures ∙ c.in-Some.ensures.holds.got c.args.of.0 c.requires.origin.0 c.requires.origin.1
