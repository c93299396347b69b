use Rattle.ring_rules.specs.Step.{opening}
use Rattle.ring_rules.specs.Event.{last}
use Rattle.ring_rules.proofs.runs.OfEvents.{reached_fit}
use Rattle.ring_rules.proofs.work.Settling.{repair_less}
use Rattle.ring_rules.proofs.laws.each_step_of_repair_leaves_less_to_do.Goals as goal

pub returns : goal.returns
returns c = λ credit names events are run. repair_less (last (opening credit names) events) (reached_fit credit names events are run)
