use Rattle.ring_rules.proofs.runs.OfEvents.{run_idle_is_quiet}
use Rattle.ring_rules.proofs.laws.an_idle_ring_is_quiet.Goals as goal

pub returns : goal.returns
returns c = λ credit names events are few run idle. run_idle_is_quiet credit names events are run few idle
