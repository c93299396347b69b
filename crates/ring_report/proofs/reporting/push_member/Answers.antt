use Rattle.std.proofs.Common.{◌∙◌, ◌++◌, ap}
use Rattle.ring_rules.specs.Asked.{counts_at, state_at}
use Rattle.ring_report.specs.Lent.{lent_in}
use Rattle.ring_report.specs.Report.{item_lines, while_up}
use Rattle.ring_report.proofs.Telling.{lines_stand}
use Rattle.ring_report.proofs.reporting.push_member.Goals as goal

pub returns : goal.returns
returns c =
    let w = c.args.world.now.ring in
    let x = c.args.id.0 in
    let found = c.name_of-name.ensures.found in
    lines_stand w (lent_in c.args.refusals.now) x c.name_of-name.result.now c.view.result.now c.state-stands.result c.counts.result
    c.args.out.now.items c.push_state.new.out.items c.push_counts.new.out.items c.push_heard.new.out.items c.push_items.new.out.items c.push_refusals.new.out.items
    c.name_of-name.ensures.name c.view.ensures (c.state-stands.ensures ∙ ap (state_at w) found) (c.counts.ensures ∙ ap (counts_at w) found)
    c.in_ok-push_state.ensures c.in_ok-push_counts.ensures c.in_ok-push_heard.ensures (c.in_ok-push_items.ensures ∙ ap (λ m. c.push_heard.new.out.items ++ while_up c.state-stands.result (item_lines m.queue.items)) (c.mirror.ensures x found)) c.in_ok-push_refusals.ensures
