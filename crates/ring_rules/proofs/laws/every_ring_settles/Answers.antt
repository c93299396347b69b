use Rattle.std.proofs.Common.{arith}
use Rattle.ring_rules.specs.Step.{opening}
use Rattle.ring_rules.specs.Event.{last}
use Rattle.ring_rules.proofs.work.Settled.{here, repairs_lower, run_settled_quiet, run_settles}
use Rattle.ring_rules.proofs.laws.every_ring_settles.Goals as goal

pub returns-clause-ends : goal.returns-clause-ends
returns-clause-ends c credit names events steps are r k = omega (arith, repairs_lower credit names are (last (opening credit names) events) steps (here credit names are events r) k)

pub returns-clause-quiet : goal.returns-clause-quiet
returns-clause-quiet c credit names events steps are few r k none = run_settled_quiet credit names are events steps r few k none

pub returns-clause-settles : goal.returns-clause-settles
returns-clause-settles c credit names events are few r = run_settles credit names are events r few
