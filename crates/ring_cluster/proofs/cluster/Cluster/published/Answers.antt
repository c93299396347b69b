use Rattle.std.proofs.Common.{◌≡◌, map, ap, sym, subst, ◌∙◌}
use Rattle.group_view.specs.Change.{AreDifferent}
use Rattle.ring_rules.specs.Published.{published_in}
use Rattle.ring_parties.specs.Parties.{names_shown}
use Rattle.ring_cluster.specs.Seen.{Seen, state_of}
use Rattle.ring_cluster.specs.Published.{names_in}
use Rattle.ring_cluster.proofs.rounds.Holding.{names_are}
use Rattle.ring_cluster.proofs.rounds.Members.{all_logs, going_different}
use Rattle.ring_cluster.proofs.cluster.Cluster.published.Goals as goal

pub told_of-requires : goal.told_of-requires
told_of-requires c =
    let q = (c.self.inside.parties).all in
    let is : c.deref.result.now ≡ names_in (state_of c.args.self.now) =
    c.deref.ensures.value ∙ c.in_ok-names.ensures ∙ subst (λ (x : Seen). names_shown q ≡ names_in (state_of x)) c.self.view_is (names_are c.self.inside.credit c.self.inside.names.items c.self.inside.journal.items q c.self.invariant.standing) in
    subst AreDifferent (sym is) (going_different c.args.self.now c.is_going.ensures)

pub returns : goal.returns
returns c =
    let q = (c.self.inside.parties).all in
    let is : c.deref.result.now ≡ names_in (state_of c.args.self.now) =
    c.deref.ensures.value ∙ c.in_ok-names.ensures ∙ subst (λ (x : Seen). names_shown q ≡ names_in (state_of x)) c.self.view_is (names_are c.self.inside.credit c.self.inside.names.items c.self.inside.journal.items q c.self.invariant.standing) in
    c.in_ok-all.ensures
    ∙ ap (λ names. map (λ name. published_in name c.events.result.now) names) is
    ∙ ap (λ events. map (λ name. published_in name events) (names_in (state_of c.args.self.now))) c.events.ensures
    ∙ all_logs c.args.self.now c.is_going.ensures
