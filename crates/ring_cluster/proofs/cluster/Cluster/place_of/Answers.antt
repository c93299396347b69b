use Rattle.std.proofs.Common.{◌≡◌, ◌+◌, subst}
use Rattle.std.specs.Prelude.{option_map}
use Rattle.ring_rules.specs.Event.{by_of}
use Rattle.ring_cluster.specs.Agendas.{place_among}
use Rattle.ring_cluster.specs.Published.{names_in}
use Rattle.ring_parties.specs.Refused.{id_named}
use Rattle.ring_cluster.specs.Seen.{state_of}
use Rattle.ring_cluster.proofs.rounds.Holding.{place_is}
use Rattle.ring_cluster.proofs.rounds.Members.{event_place_in}
use Rattle.ring_cluster.proofs.cluster.Cluster.place_of.Goals as goal

pub returns : goal.returns
returns c =
    event_place_in (state_of c.args.self.now) c.args.event.now c.place_named.result
    (subst (λ x. c.place_named.result ≡ place_among (names_in (state_of x)) (by_of c.args.event.now)) c.self.view_is
    (place_is c.self.inside.credit c.self.inside.names.items c.self.inside.journal.items (c.self.inside.parties).all (by_of c.args.event.now) c.place_named.result c.self.invariant.standing
    (subst (λ n. id_named (c.self.inside.parties).all n ≡ option_map (λ i. i + 1) c.place_named.result) c.by.ensures c.place_named.ensures.place)))
