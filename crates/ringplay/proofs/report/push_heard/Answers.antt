use Rattle.std.proofs.Common.{◌≡◌, ◌+◌, ◌-◌, ◌++◌, ◌∙◌, sym, ap, arith}
use Rattle.std.specs.List.{flat_map, range_with_len}
use Rattle.ring_rules.specs.Step.{size}
use Rattle.ring_cluster.specs.Seen.{state_of}
use Rattle.ring_report.specs.Report.{heard_from, heard_lines, while_up}
use Rattle.ring_report.proofs.Telling.{ids_more}
use Rattle.ringplay.proofs.Reports.{told_many}
use Rattle.ringplay.proofs.report.push_heard.Goals as goal

pub push_heard_of-requires-clause-origin : goal.push_heard_of-requires-clause-origin
push_heard_of-requires-clause-origin c =
    let k = c.args.cluster.now in
    omega (arith, c.loop-origin-test.true, told_many (state_of k) c.args.published.now c.requires.told)

pub loop-origin-preserved : goal.loop-origin-preserved
loop-origin-preserved c =
    let told = heard_from (state_of c.args.cluster.now) c.args.id.0 in
    let n = c.loop-origin.origin in
    c.in_ok-push_heard_of.ensures ∙ ap (λ xs. xs ++ told (n + 1)) c.loop-origin.invariant ∙ ids_more told c.args.out.now.items n

pub returns : goal.returns
returns c =
    let w = state_of c.args.cluster.now in
    let x = c.args.id.0 in
    let all : c.loop-origin.origin ≡ size w - 1 = omega (arith, told_many w c.args.published.now c.requires.told) in
    c.loop-origin.invariant ∙ ap (λ n. c.args.out.now.items ++ flat_map (heard_from w x) (range_with_len 1 n)) all
    ∙ ap (λ s. c.args.out.now.items ++ while_up s (heard_lines w x)) (sym c.in-Up.is)
