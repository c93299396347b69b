use Rattle.std.proofs.Common.{map, ap, sym, ◌∙◌, arith}
use Rattle.std.proofs.lemmas.List.{take_all}
use Rattle.std.proofs.lemmas.Simd.{map-map}
use Rattle.ring_parties.specs.Parties.{Shown, PartiesSeen, shown_in, names_shown}
use Rattle.ring_parties.specs.declared.party.Party.{Party}
use Rattle.ring_parties.proofs.parties.Parties.names.Goals as goal

pub returns : goal.returns
returns c =
    c.loop-party.invariant
    ∙ ap (map (λ (p : Party). (shown_in p).held.name)) (take_all c.loop-party.party-index c.deref-party-items.result.now (omega (arith, c.loop-party-test.false)) ∙ c.deref-party-items.ensures.value)
    ∙ sym (map-map (λ (m : Shown). m.held.name) shown_in c.self.inside.members.items)
    ∙ ap (λ (x : PartiesSeen). names_shown x.all) c.self.view_is
