use Rattle.queue_mirror.proofs.AllMirrors.{holds_from_copy}
use Rattle.queue_mirror.proofs.laws.a_copied_mirror_holds_the_queue.Goals as goal

pub returns : goal.returns
returns c = holds_from_copy
