use Rattle.ring_parties.proofs.rounds.Closed.{round_stands}
use Rattle.ring_parties.proofs.laws.parties_stand_after_a_round.Goals as goal

pub returns : goal.returns
returns c = λ credit names before q q' ks ks' logs a b p' h keeps seat are turns few closed. round_stands credit names before q q' ks ks' logs a b p' h keeps seat are turns few closed
