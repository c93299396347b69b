use Rattle.std.proofs.Common.{◌≡◌, take}
use Rattle.ring_report.specs.Lent.{lent_in}
use Rattle.ring_report.proofs.refusals.lent.Given as goal

abbrev pub invariant-loop-event : goal.invariant-loop-event
invariant-loop-event l = lent_in l.all.items ≡ take l.event-index l.events
