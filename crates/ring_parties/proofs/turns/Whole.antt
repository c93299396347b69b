-- The parties of a cluster, by the list of their members.
use Rattle.std.proofs.Common.{◌≡◌, ℕ, List, map, sym, ap, subst, ◌∙◌}
use Rattle.std.proofs.lemmas.Simd.{map-map}
use Rattle.ring_names.specs.declared.numbers.CreditSpec.{CreditSpec}
use Rattle.ring_rules.specs.declared.event.Event.{Event}
use Rattle.ring_parties.specs.declared.party.Party.{Party}
use Rattle.ring_parties.specs.Parties.{Shown, Parties, shown_in, names_shown}
use Rattle.ring_parties.specs.Standing.{StandAfter}
use Rattle.ring_parties.specs.Played.{name_by, with_nodes}

-- each of these members has the name that the parties show
pub called : (items members : List Party) (all : Parties) → members ≡ items → map shown_in items ≡ all.nodes → map name_by members ≡ names_shown all
called items members all same is =
    ap (map name_by) same ∙ sym (map-map (λ (m : Shown). m.held.name) shown_in items) ∙ ap (map (λ (m : Shown). m.held.name)) is

-- they stand so
pub stood : (credit : CreditSpec) (names : List (List ℕ)) (before after : List Event) (items members : List Party) (rest all : Parties) → after ≡ before → members ≡ items → with_nodes rest items ≡ all
    → StandAfter credit names before all → StandAfter credit names after (with_nodes rest members)
stood credit names before after items members rest all later same is h =
    subst (λ es. StandAfter credit names es (with_nodes rest members)) (sym later)
    (subst (λ ms. StandAfter credit names before (with_nodes rest ms)) (sym same)
    (subst (StandAfter credit names before) (sym is) h))
