use Rattle.registrar.proofs.Steps.{own_stands}
use Rattle.registrar.proofs.laws.other_events_leave_the_registrar.Goals as goal

pub returns : goal.returns
returns g c = own_stands
