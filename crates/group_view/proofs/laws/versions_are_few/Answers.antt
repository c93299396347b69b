use Rattle.group_view.proofs.Groups.{small_version}
use Rattle.group_view.proofs.laws.versions_are_few.Goals as goal

pub returns : goal.returns
returns c = small_version
