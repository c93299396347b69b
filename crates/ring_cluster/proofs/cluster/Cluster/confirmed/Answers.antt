use Rattle.std.proofs.Common.{◌-◌, ap, ◌∙◌}
use Rattle.gm_member.specs.Packets.{known_at}
use Rattle.gm_member.specs.Shown.{held_of}
use Rattle.ring_cluster.proofs.cluster.Cluster.confirmed.Goals as goal

pub returns : goal.returns
returns c =
    let h = held_of c.in-Some.member.now in
    c.confirmed.ensures
    ∙ ap (λ x. (known_at h.known (x - 1)).forgot) c.in-Some.ensures.holds.id
    ∙ c.in-Some.ensures.holds.forgot c.args.id.0 c.requires.0 c.requires.1
