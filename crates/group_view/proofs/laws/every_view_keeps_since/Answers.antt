use Rattle.group_view.proofs.AllViews.{views_are_history}
use Rattle.group_view.proofs.laws.every_view_keeps_since.Goals as goal

pub returns : goal.returns
returns c = views_are_history
