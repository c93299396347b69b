use Rattle.ring_rules.proofs.runs.Bounded.{reached_bounded}
use Rattle.ring_rules.proofs.laws.every_number_is_bounded.Goals as goal

pub returns : goal.returns
returns c = λ credit names events are run. reached_bounded credit names events are run
