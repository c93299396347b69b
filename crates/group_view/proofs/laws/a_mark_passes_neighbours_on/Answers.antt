use Rattle.group_view.proofs.Passing.{marked_passes}
use Rattle.group_view.proofs.laws.a_mark_passes_neighbours_on.Goals as goal

pub returns : goal.returns
returns c = marked_passes
