use Rattle.std.proofs.Common.{◌≡◌, ◌+◌, ◌-◌, ap, arith, ◌∙◌}
use Rattle.ring_rules.specs.Machine.{member_at}
use Rattle.ring_cluster.specs.Seen.{state_of}
use Rattle.ring_cluster.proofs.driver.name_of.Goals as goal

pub returns : goal.returns
returns c =
    let back : c.args.id.0 - 1 + 1 ≡ c.args.id.0 = omega (arith, c.requires.0) in
    c.name_at.ensures ∙ ap (λ x. (member_at (state_of c.args.cluster.now) x).name) back
