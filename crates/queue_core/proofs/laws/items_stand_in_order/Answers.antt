use Rattle.std.proofs.Common.{[], refl}
use Rattle.queue_core.proofs.Rises.{run_rises}
use Rattle.queue_core.proofs.laws.items_stand_in_order.Goals as goal

pub returns : goal.returns
returns c = λ l. run_rises [] l refl
