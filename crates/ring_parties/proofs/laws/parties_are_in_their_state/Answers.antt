use Rattle.ring_parties.proofs.rounds.Seated.{parties_seated}
use Rattle.ring_parties.proofs.laws.parties_are_in_their_state.Goals as goal

pub returns : goal.returns
returns c = λ initial w q ks h a keeps is. parties_seated initial w q ks h a keeps is
