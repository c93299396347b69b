use Rattle.ring_rules.proofs.runs.OfEvents.{run_queue_right}
use Rattle.ring_rules.proofs.laws.every_queue_is_right.Goals as goal

pub returns : goal.returns
returns c = λ credit names events are few run. run_queue_right credit names events are run few
