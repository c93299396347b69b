use Rattle.queue_mirror.proofs.AllMirrors.{holds_what_came}
use Rattle.queue_mirror.proofs.laws.a_mirror_holds_what_came.Goals as goal

pub returns : goal.returns
returns c = holds_what_came
