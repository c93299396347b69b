use Rattle.credit_flow.proofs.Links.{calls_keep}
use Rattle.credit_flow.proofs.laws.credit_is_kept.Goals as goal

pub returns : goal.returns
returns c = calls_keep
