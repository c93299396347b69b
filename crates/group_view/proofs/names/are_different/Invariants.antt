use Rattle.std.proofs.Common.{◌≡◌, ℕ, ◌<◌, get_or, []}
use Rattle.group_view.proofs.names.are_different.Given as goal

abbrev pub invariant-loop-later : goal.invariant-loop-later
invariant-loop-later l = (j k : ℕ) → j < l.later → k < l.later → get_or l.names j [] ≡ get_or l.names k [] → j ≡ k

abbrev pub invariant-loop-earlier : goal.invariant-loop-earlier
invariant-loop-earlier l = (j : ℕ) → j < l.earlier → get_or l.names j [] ≡ get_or l.names l.later [] → j ≡ l.later
