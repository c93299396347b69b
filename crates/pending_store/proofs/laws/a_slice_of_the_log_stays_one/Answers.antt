use Rattle.pending_store.proofs.Slices.{slice_gains, slice_answers}
use Rattle.pending_store.proofs.laws.a_slice_of_the_log_stays_one.Goals as goal

pub returns-clause-gains : goal.returns-clause-gains
returns-clause-gains g c = slice_gains

pub returns-clause-answers : goal.returns-clause-answers
returns-clause-answers g c = slice_answers
