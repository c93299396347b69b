use Rattle.group_view.proofs.Joining.{comes_between}
use Rattle.group_view.proofs.laws.an_admission_comes_between.Goals as goal

pub returns : goal.returns
returns c = comes_between
