use Rattle.ring_copies.proofs.Beside.{idle_beside, repair_beside, ends_beside, settles_beside}
use Rattle.ring_copies.proofs.laws.a_ring_settles_beside_copies.Goals as goal

pub returns-clause-idle : goal.returns-clause-idle
returns-clause-idle c credit names events are few run = idle_beside credit names are events few run

pub returns-clause-repair : goal.returns-clause-repair
returns-clause-repair c credit names events are run = repair_beside credit names are events run

pub returns-clause-ends : goal.returns-clause-ends
returns-clause-ends c credit names events steps are run k = ends_beside credit names are events steps run k

pub returns-clause-settles : goal.returns-clause-settles
returns-clause-settles c credit names events are few run = settles_beside credit names are events few run
