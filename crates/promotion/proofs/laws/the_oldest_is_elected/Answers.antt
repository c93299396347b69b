use Rattle.promotion.proofs.Elected.{is_elected}
use Rattle.promotion.proofs.laws.the_oldest_is_elected.Goals as goal

pub returns : goal.returns
returns c = is_elected
