use Rattle.std.proofs.Common.{◌≡◌, take}
use Rattle.promotion.specs.Elect.{elected}
use Rattle.promotion.proofs.election.elect.Given as goal

abbrev pub invariant-loop-entry : goal.invariant-loop-entry
invariant-loop-entry l = l.found ≡ elected (take l.entry-index l.view.entries)
