use Rattle.ring_rules.proofs.runs.OfEvents.{run_starts}
use Rattle.ring_rules.proofs.laws.later_masters_start_first.Goals as goal

pub returns : goal.returns
returns c = λ credit names events are run. run_starts credit names events are run
