use Rattle.std.proofs.Common.{ap, ◌∙◌}
use Rattle.ring_rules.specs.Machine.{row_at, member_at}
use Rattle.ring_rules.specs.Step.{log_of}
use Rattle.ring_rules.specs.Asked.{counts_of}
use Rattle.ring_cluster.specs.Seen.{state_of}
use Rattle.ringplay.proofs.Reports.{counts_tell}
use Rattle.ringplay.proofs.report.counts_at.Goals as goal

pub returns : goal.returns
returns c =
    let w = state_of c.args.cluster.now in
    let x = c.id_at.result.0 in
    counts_tell c.totals-totals.result (row_at (member_at w x) x).forgot (log_of w x) (c.totals-totals.ensures ∙ c.in-Some.ensures.stands.totals)
    ∙ ap (λ y. counts_of y (member_at w y)) c.id_at.ensures
