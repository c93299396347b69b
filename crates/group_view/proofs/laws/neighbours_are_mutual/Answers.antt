use Rattle.group_view.proofs.Passing.{are_mutual}
use Rattle.group_view.proofs.laws.neighbours_are_mutual.Goals as goal

pub returns : goal.returns
returns c = are_mutual
