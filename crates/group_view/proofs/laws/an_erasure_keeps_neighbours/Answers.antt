use Rattle.group_view.proofs.Groups.{erased_neighbours}
use Rattle.group_view.proofs.laws.an_erasure_keeps_neighbours.Goals as goal

pub returns : goal.returns
returns c = erased_neighbours
