use Rattle.promotion.proofs.Leading.{elected_leads}
use Rattle.promotion.proofs.laws.who_is_elected_lives_and_is_registered.Goals as goal

pub returns : goal.returns
returns c = elected_leads
