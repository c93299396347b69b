use Rattle.std.proofs.Common.{◌+◌, ◌++◌, sym, ◌∙◌, ap}
use Rattle.group_view.specs.View.{entry_in}
use Rattle.ring_cluster.specs.Seen.{state_of}
use Rattle.ring_report.specs.Lent.{lent_in}
use Rattle.ring_report.specs.Report.{member_line, heard_lines, item_lines, while_up, refusal_lines}
use Rattle.ring_report.proofs.Telling.{lines_stand}
use Rattle.ringplay.proofs.report.push_member.Goals as goal

pub returns : goal.returns
returns c =
    let w = state_of c.args.cluster.now in
    let x = c.args.place + 1 in
    let name = c.name.result.now in
    let stands = c.state_at-state.result in
    let out = c.args.out.now.items in
    let refusals = lent_in c.args.refusals.now in
    lines_stand w refusals x name c.view.result.now stands c.counts_at.result
    out c.push_state.new.out.items c.push_counts.new.out.items c.push_heard.new.out.items c.push_items.new.out.items c.push_refusals.new.out.items
    (c.name.ensures ∙ c.member_at-member.ensures.name) c.view.ensures c.state_at-state.ensures c.counts_at.ensures
    (c.in_ok-push_state.ensures ∙ ap (λ id. out ++ member_line name stands (entry_in c.view.result.now.entries id)) c.id_at-id.ensures)
    c.in_ok-push_counts.ensures
    (c.in_ok-push_heard.ensures ∙ ap (λ id. c.push_counts.new.out.items ++ while_up stands (heard_lines w id)) c.id_at-id.ensures)
    (c.in_ok-push_items.ensures ∙ ap (λ m. c.push_heard.new.out.items ++ while_up stands (item_lines m.queue.items)) c.mirror_at.ensures)
    (c.in_ok-push_refusals.ensures ∙ ap (λ n. c.push_items.new.out.items ++ refusal_lines n refusals) (c.name-2.ensures ∙ sym c.name.ensures))
