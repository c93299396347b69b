use Rattle.std.proofs.Common.{◌+◌, bytes_eq, sym, ap, ◌∙◌}
use Rattle.std.specs.Prelude.{option_map, position}
use Rattle.ring_rules.proofs.rings.Maps.{position_map}
use Rattle.ring_parties.specs.Parties.{shown_in}
use Rattle.ring_parties.specs.Refused.{id_named}
use Rattle.ring_parties.proofs.parties.Parties.place_named.Goals as goal

pub returns-clause-place : goal.returns-clause-place
returns-clause-place c =
    ap (λ q. id_named q.all c.args.name.now) (sym c.self.view_is)
    ∙ ap (option_map (λ i. i + 1))
    (position_map (λ m. bytes_eq m.held.name c.args.name.now) shown_in c.self.inside.members.items
    ∙ ap (position (λ m. bytes_eq (shown_in m).held.name c.args.name.now)) (sym c.deref.ensures.value)
    ∙ sym c.first_named.ensures.place)
