use Rattle.group_view.proofs.KeptLeft.{since_is_keeping}
use Rattle.group_view.proofs.laws.since_says_who_was_left.Goals as goal

pub returns : goal.returns
returns c = since_is_keeping
