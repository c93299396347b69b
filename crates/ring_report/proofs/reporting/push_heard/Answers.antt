use Rattle.std.proofs.Common.{◌+◌, ◌++◌, ap, ◌∙◌}
use Rattle.ring_report.specs.Report.{heard_from}
use Rattle.ring_report.proofs.Telling.{ids_more}
use Rattle.ring_report.proofs.reporting.push_heard.Goals as goal

pub loop-place-preserved : goal.loop-place-preserved
loop-place-preserved c =
    let told = heard_from c.args.world.now.ring c.args.id.0 in
    let place = c.loop-place.place in
    c.in_ok-push_heard_of.ensures ∙ ap (λ t. t ++ told (place + 1)) c.loop-place.invariant ∙ ids_more told c.args.out.now.items place
