use Rattle.group_view.proofs.Arcs.{owner_is}
use Rattle.group_view.proofs.laws.owners_own_what_stands_between.Goals as goal

pub returns : goal.returns
returns c = owner_is
