use Rattle.std.proofs.Common.{nat_eq, nat_le, position, sym, ap, ◌∙◌}
use Rattle.std.specs.Prelude.{◌&&◌}
use Rattle.ring_rules.specs.View.{left_of}
use Rattle.ring_rules.proofs.rings.Maps.{position_map}
use Rattle.gm_member.specs.Held.{is_for}
use Rattle.gm_member.specs.View.{in_of}
use Rattle.gm_member.proofs.door.first_for.Goals as goal

pub returns-clause-place : goal.returns-clause-place
returns-clause-place g c =
    c.position_of.ensures.place
    ∙ ap (λ f. position (λ link. nat_eq link.from.0 f && nat_le c.since-start.result link.opened) c.args.door.now) c.left-from.ensures
    ∙ ap (λ s. position (λ link. nat_eq link.from.0 (left_of c.args.view.now c.args.id.0) && nat_le s link.opened) c.args.door.now) c.since-start.ensures
    ∙ sym (position_map (is_for c.args.view.now c.args.id.0) in_of c.args.door.now)
