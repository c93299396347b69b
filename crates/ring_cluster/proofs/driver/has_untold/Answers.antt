use Rattle.std.proofs.Common.{ap, ◌∙◌}
use Rattle.gm_member.specs.Shown.{held_of}
use Rattle.ring_cluster.specs.Seen.{state_of}
use Rattle.ring_cluster.proofs.rounds.Named.{going_fit}
use Rattle.ring_cluster.proofs.rounds.Holding.{held_but_door, held_untold}
use Rattle.ring_cluster.proofs.driver.has_untold.Goals as goal

pub returns : goal.returns
returns c =
    c.any_untold.ensures
    ∙ held_untold (state_of c.args.cluster.now) c.args.id.0 c.view.inside.version c.told.result c.as_slice.result.now (held_of c.in-Some.member.now)
    (going_fit c.args.cluster.now c.is_going.ensures) (held_but_door (state_of c.args.cluster.now) c.args.id.0 (held_of c.in-Some.member.now) _ c.in-Some.ensures.stands)
    (ap (λ g. g.version) (c.view.view_is ∙ c.view-view.ensures)) (c.as_slice.ensures ∙ ap (λ g. g.entries) (c.view.view_is ∙ c.view-view.ensures)) c.told.ensures
