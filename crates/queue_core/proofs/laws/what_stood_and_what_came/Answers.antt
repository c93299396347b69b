use Rattle.queue_core.proofs.Split.{run-split}
use Rattle.queue_core.proofs.laws.what_stood_and_what_came.Goals as goal

pub returns : goal.returns
returns c = run-split
