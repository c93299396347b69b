use Rattle.std.proofs.Common.{inl, inr, ◌∙◌}
use Rattle.activity.proofs.Order.{if_ok, if_err}
use Rattle.activity.proofs.tables.reserve.Goals as goal

pub returns-clause-order : goal.returns-clause-order
returns-clause-order c = if_ok c.reserve_row.result (c.reserve_row.ensures.order ∙ c.in_ok-make_row.ensures.order)

pub returns-clause-err : goal.returns-clause-err
returns-clause-err c = if_err c.reserve_row.result (inr (c.reserve_row.ensures.order ∙ c.in_ok-make_row.ensures.order))

pub returns-in_err-make_row-clause-err : goal.returns-in_err-make_row-clause-err
returns-in_err-make_row-clause-err c = if_err c.from_residual.result (inl c.in_err-make_row.ensures.err)
