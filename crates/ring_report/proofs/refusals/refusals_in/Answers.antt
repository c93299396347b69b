use Rattle.std.proofs.Common.{◌∷◌, ◌++◌, [], ap, ◌∙◌}
use Rattle.ring_rules.specs.Event.{refusals_of}
use Rattle.ring_report.specs.Lent.{lent_in}
use Rattle.ring_report.proofs.Telling.{refusals_more}
use Rattle.ring_report.proofs.refusals.refusals_in.Goals as goal

pub loop-event-preserved : goal.loop-event-preserved
loop-event-preserved c =
    refusals_more c.args.events.now (lent_in c.note_refusal.new.all.items) c.loop-event.event-index c.event-item.result c.loop-event-test.true c.event-item.is
    (c.in_ok-note_refusal.ensures ∙ ap (λ es. es ++ refusals_of (c.event-item.result ∷ [])) c.loop-event.invariant)
