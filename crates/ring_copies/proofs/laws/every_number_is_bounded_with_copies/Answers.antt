use Rattle.ring_copies.proofs.Beside.{bounded_beside}
use Rattle.ring_copies.proofs.laws.every_number_is_bounded_with_copies.Goals as goal

pub returns : goal.returns
returns c = λ credit names events are run. bounded_beside credit names events are run
