use Rattle.std.proofs.Common.{ap, not, ◌||◌, nat_eq, ◌∙◌}
use Rattle.gm_member.specs.Shown.{held_of}
use Rattle.ring_cluster.specs.Seen.{state_of}
use Rattle.ring_cluster.proofs.rounds.Named.{going_fit}
use Rattle.ring_cluster.proofs.rounds.Holding.{held_but_door, held_stale}
use Rattle.ring_cluster.proofs.driver.is_stale.Goals as goal

pub returns : goal.returns
returns c =
    c.either.ensures
    ∙ ap (λ b. not (nat_eq c.behind-member.inside.version c.behind-cluster.inside.version) || not b) c.is_some-sends.ensures
    ∙ held_stale (state_of c.args.cluster.now) c.args.id.0 c.behind-member.inside.version c.behind-cluster.inside.version c.out_name-name.result (held_of c.in-Some.member.now)
    (going_fit c.args.cluster.now c.is_going.ensures) (held_but_door (state_of c.args.cluster.now) c.args.id.0 (held_of c.in-Some.member.now) _ c.in-Some.ensures.stands)
    (ap (λ g. g.version) (c.behind-member.view_is ∙ c.view.ensures)) (ap (λ g. g.version) (c.behind-cluster.view_is ∙ c.view-2.ensures)) c.out_name-name.ensures
