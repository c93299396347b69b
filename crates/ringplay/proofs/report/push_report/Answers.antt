use Rattle.std.proofs.Common.{◌≡◌, ◌-◌, ◌+◌, ◌++◌, ◌∙◌, ap, arith, append_assoc}
use Rattle.std.specs.List.{flat_map, range_with_len}
use Rattle.ring_rules.specs.Step.{size}
use Rattle.ring_rules.specs.Event.{refusals_of}
use Rattle.ring_cluster.specs.Seen.{state_of}
use Rattle.ring_report.specs.Lent.{lent_in}
use Rattle.ring_report.specs.Report.{ring_line, lines_of_member, report_of}
use Rattle.ring_report.proofs.Telling.{ids_more}
use Rattle.ringplay.proofs.Reports.{told_many}
use Rattle.ringplay.proofs.report.push_report.Goals as goal

pub push_member-requires-clause-within : goal.push_member-requires-clause-within
push_member-requires-clause-within c = omega (arith, c.loop-place-test.true, told_many (state_of c.args.cluster.now) c.in_ok-published.published.items c.in_ok-published.ensures)

pub loop-place-preserved : goal.loop-place-preserved
loop-place-preserved c =
    let w = state_of c.args.cluster.now in
    let lines = lines_of_member w (lent_in c.as_slice-refusals.result.now) in
    let place = c.loop-place.place in
    c.in_ok-push_member.ensures ∙ ap (λ xs. xs ++ lines (place + 1)) c.loop-place.invariant ∙ ids_more lines c.push_ring.new.out.items place

pub returns : goal.returns
returns c =
    let k = c.args.cluster.now in
    let w = state_of k in
    let all : c.loop-place.place ≡ size w - 1 = omega (arith, told_many w c.in_ok-published.published.items c.in_ok-published.ensures) in
    let lines = lines_of_member w (lent_in c.as_slice-refusals.result.now) in
    let told = flat_map lines (range_with_len 1 (size w - 1)) in
    let refused : lent_in c.as_slice-refusals.result.now ≡ refusals_of k.events = ap lent_in c.as_slice-refusals.ensures.value ∙ c.in_ok-all.ensures ∙ ap refusals_of c.events.ensures in
    c.loop-place.invariant ∙ ap (λ n. c.push_ring.new.out.items ++ flat_map lines (range_with_len 1 n)) all ∙ ap (λ xs. xs ++ told) c.in_ok-push_ring.ensures
    ∙ append_assoc c.args.out.now.items (ring_line c.view.result.now) told ∙ ap (λ v. c.args.out.now.items ++ (ring_line v ++ told)) c.view.ensures
    ∙ ap (λ rs. c.args.out.now.items ++ report_of w rs) refused
