use Rattle.ring_rules.proofs.runs.OfEvents.{every_state_lawful}
use Rattle.ring_rules.proofs.laws.every_state_is_lawful.Goals as goal

pub returns : goal.returns
returns c = λ credit names events are run. every_state_lawful credit names events are run
