use Rattle.ring_rules.proofs.runs.OfEvents.{reached_compact}
use Rattle.ring_rules.proofs.laws.packets_may_be_compact.Goals as goal

pub returns : goal.returns
returns c = λ credit names events are run. reached_compact credit names events are run
