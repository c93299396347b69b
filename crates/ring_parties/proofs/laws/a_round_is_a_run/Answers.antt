use Rattle.ring_parties.proofs.rounds.Merged.{round_runs}
use Rattle.ring_parties.proofs.laws.a_round_is_a_run.Goals as goal

pub returns : goal.returns
returns c = λ credit names before post logs a b are r h apart turns. round_runs credit names before post logs a b are r h apart turns
