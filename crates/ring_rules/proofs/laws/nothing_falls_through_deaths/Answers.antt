use Rattle.ring_rules.proofs.runs.OfEvents.{every_run_goes_on}
use Rattle.ring_rules.proofs.laws.nothing_falls_through_deaths.Goals as goal

pub returns : goal.returns
returns c = λ credit names earlier later are run more. every_run_goes_on credit names earlier later are run more
