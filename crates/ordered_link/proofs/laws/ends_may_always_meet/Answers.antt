use Rattle.ordered_link.proofs.Order.{run_ends}
use Rattle.ordered_link.proofs.laws.ends_may_always_meet.Goals as goal

pub returns-clause-stay : goal.returns-clause-stay
returns-clause-stay T c out out' link link' steps e h = run_ends steps out out' link link' h e
