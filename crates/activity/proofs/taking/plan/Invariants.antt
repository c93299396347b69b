use Rattle.std.proofs.Common.{◌≡◌, take}
use Rattle.activity.specs.Plan.{changes_of, owns}
use Rattle.activity.proofs.taking.plan.Given as goal

abbrev pub invariant-loop-line : goal.invariant-loop-line
invariant-loop-line l = l.changes.items ≡ changes_of (owns l.view l.me.0 l.sender.0) l.tables (take l.line-index l.line-items)
