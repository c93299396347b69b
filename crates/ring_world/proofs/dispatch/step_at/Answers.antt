use Rattle.std.proofs.Common.{◌≡◌, suc, OnOk, sym, subst, ◌∙◌}
use Rattle.ring_rules.specs.declared.kind.Kind.TheVariants as shown
use Rattle.ring_rules.specs.Kind.{kind_of}
use Rattle.ring_rules.specs.Event.{done_as}
use Rattle.ring_rules.proofs.events.Kinds.{kind_read}
use Rattle.ring_world.specs.Shows.{world_of}
use Rattle.ring_world.proofs.dispatch.step_at.Goals as goal

pub returns-in-Changes-clause-ok : goal.returns-in-Changes-clause-ok
returns-in-Changes-clause-ok c =
    let e = kind_read (kind_of c.args.event.now) (shown.Changes c.in-Changes.change) (sym c.in-Changes.is ∙ c.kind.ensures) in
    subst (λ k. OnOk c.change_view.result (world_of c.change_view.new.ring ≡ done_as (world_of c.args.ring.now) (suc c.args.place) k)) (sym e) c.change_view.ensures.ok
