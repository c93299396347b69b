use Rattle.queue_mirror.proofs.AllMirrors.{hold_the_same}
use Rattle.queue_mirror.proofs.laws.full_mirrors_hold_the_same.Goals as goal

pub returns : goal.returns
returns c = hold_the_same
