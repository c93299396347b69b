use Rattle.ring_world.proofs.code.Found.{link_some}
use Rattle.ring_world.proofs.refreshing.is_link_kept.Goals as goal

pub is_kept-requires-clause-some : goal.is_kept-requires-clause-some
is_kept-requires-clause-some c = link_some c.args.ring.now c.args.link c.index-plain.result.now c.requires.placed c.requires.link c.index-plain.ensures
