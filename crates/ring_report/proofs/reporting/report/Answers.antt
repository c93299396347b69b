use Rattle.std.proofs.Common.{◌+◌, ◌++◌, ap, ◌∙◌}
use Rattle.ring_report.specs.Lent.{lent_in}
use Rattle.ring_report.specs.Report.{ring_line, newest_view, lines_of_member}
use Rattle.ring_report.proofs.Telling.{ids_more}
use Rattle.ring_report.proofs.reporting.report.Goals as goal

pub loop-place-preserved : goal.loop-place-preserved
loop-place-preserved c =
    let w = c.args.world.now.ring in
    let told = lines_of_member w (lent_in c.as_slice-refusals.result.now) in
    let place = c.loop-place.place in
    c.in_ok-push_member.ensures ∙ ap (λ t. t ++ told (place + 1)) c.loop-place.invariant ∙ ids_more told (ring_line (newest_view w)) place
