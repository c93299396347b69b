use Rattle.std.proofs.Common.{◌≡◌, take}
use Rattle.ring_rules.specs.Event.{refusals_of}
use Rattle.ring_report.specs.Lent.{lent_in}
use Rattle.ring_report.proofs.refusals.refusals_in.Given as goal

abbrev pub invariant-loop-event : goal.invariant-loop-event
invariant-loop-event l = lent_in l.all.items ≡ refusals_of (take l.event-index l.events)
