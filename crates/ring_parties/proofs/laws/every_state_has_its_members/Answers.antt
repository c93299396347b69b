use Rattle.ring_parties.proofs.rounds.Merged.{configuration_is}
use Rattle.ring_parties.proofs.laws.every_state_has_its_members.Goals as goal

pub returns : goal.returns
returns c = λ w. configuration_is w
