use Rattle.ring_parties.proofs.rounds.Seated.{early_seated}
use Rattle.ring_parties.proofs.rounds.Empty.{nobody_took, empty_closed}
use Rattle.ring_parties.proofs.laws.an_empty_round_is_closed.Goals as goal

pub returns : goal.returns
returns c = λ initial w q ks h keeps. (early_seated w h.places q ks, nobody_took initial w q ks h keeps, empty_closed initial w q ks h keeps)
