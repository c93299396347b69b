use Rattle.ring_journal.proofs.Within.{all_within}
use Rattle.ring_journal.proofs.laws.a_run_is_within.Goals as goal

pub returns : goal.returns
returns c = λ credit names events are run h. all_within events h (c.every_number_is_bounded.ensures credit names events are run)
