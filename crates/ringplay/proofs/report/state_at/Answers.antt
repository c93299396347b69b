use Rattle.std.proofs.Common.{◌+◌, ◌∙◌, ap}
use Rattle.ring_rules.specs.Asked.{state_of as stands_of}
use Rattle.ring_rules.specs.Machine.{member_at}
use Rattle.ring_cluster.specs.Seen.{state_of}
use Rattle.ringplay.proofs.report.state_at.Goals as goal

pub returns : goal.returns
returns c =
    let w = state_of c.args.cluster.now in
    let x = c.args.place + 1 in
    c.stands.ensures ∙ ap (λ n. stands_of n c.phase.result) (c.missing-missing.ensures ∙ ap (λ m. m.missing) c.mirror_at.ensures)
    ∙ ap (stands_of (member_at w x).mirror.missing) (c.phase.ensures ∙ c.member_at.ensures.phase)
