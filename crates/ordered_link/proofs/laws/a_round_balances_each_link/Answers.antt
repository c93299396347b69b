use Rattle.ordered_link.proofs.Balances.{balances}
use Rattle.ordered_link.proofs.laws.a_round_balances_each_link.Goals as goal

pub returns : goal.returns
returns T c o o' i i' puts takes gives gains before grew met = balances o o' i i' puts takes gives gains before grew met
