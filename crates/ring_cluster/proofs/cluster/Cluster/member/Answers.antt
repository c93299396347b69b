use Rattle.std.proofs.Common.{◌≡◌, ◌-◌, ap, arith, sym, subst}
use Rattle.std.specs.Prelude.{IfSome}
use Rattle.gm_member.specs.Shown.{held_of, ends_of}
use Rattle.ring_cluster.specs.Holds.{HoldsOf, ShowsOf}
use Rattle.ring_parties.specs.Parties.{shown_of, ends_seen, node_at}
use Rattle.ring_rules.specs.Step.{size}
use Rattle.ring_cluster.specs.Seen.{state_of, collected_at}
use Rattle.ring_parties.proofs.lists.Lists.{if_some_from}
use Rattle.ring_cluster.proofs.rounds.Holding.{StandsIn, parties_many, member_stands, member_holds, member_shows}
use Rattle.ring_cluster.proofs.cluster.Cluster.member.Goals as goal

pub returns-clause-there : goal.returns-clause-there
returns-clause-there c =
    let count = parties_many c.self.inside.credit c.self.inside.names.items c.self.inside.journal.items (c.self.inside.parties).all c.self.invariant.standing in
    (λ some. let w = c.member.ensures.there.0 some in (w.0, omega (arith, w.1, count, ap (λ x. size (state_of x)) c.self.view_is)), λ w. c.member.ensures.there.1 (w.0, omega (arith, w.1, count, ap (λ x. size (state_of x)) c.self.view_is)))

pub returns-clause-stands : goal.returns-clause-stands
returns-clause-stands c =
    let q = (c.self.inside.parties).all in
    let count = parties_many c.self.inside.credit c.self.inside.names.items c.self.inside.journal.items q c.self.invariant.standing in
    subst (λ x. IfSome c.member.result (λ m. StandsIn (state_of x) c.args.id.0 (collected_at x c.args.id.0) (held_of m.now))) c.self.view_is
    (if_some_from (λ m. shown_of m.now ≡ node_at q (c.args.id.0 - 1)) _ c.member.result
    (λ some m e.
    subst (StandsIn _ c.args.id.0 _) (sym (ap (λ s. s.held) e))
    (member_stands c.self.inside.credit c.self.inside.names.items c.self.inside.journal.items q c.args.id.0 c.self.invariant.standing
    (c.member.ensures.there.0 some).0 (omega (arith, (c.member.ensures.there.0 some).1, count))))
    c.member.ensures.shown)

pub returns-clause-holds : goal.returns-clause-holds
returns-clause-holds c =
    let q = (c.self.inside.parties).all in
    let count = parties_many c.self.inside.credit c.self.inside.names.items c.self.inside.journal.items q c.self.invariant.standing in
    subst (λ x. IfSome c.member.result (λ m. HoldsOf (state_of x) c.args.id.0 (held_of m.now))) c.self.view_is
    (if_some_from (λ m. shown_of m.now ≡ node_at q (c.args.id.0 - 1)) _ c.member.result
    (λ some m e.
    subst (HoldsOf _ c.args.id.0) (sym (ap (λ s. s.held) e))
    (member_holds c.self.inside.credit c.self.inside.names.items c.self.inside.journal.items q c.args.id.0 c.self.invariant.standing
    (c.member.ensures.there.0 some).0 (omega (arith, (c.member.ensures.there.0 some).1, count))))
    c.member.ensures.shown)

pub returns-clause-shows : goal.returns-clause-shows
returns-clause-shows c =
    let q = (c.self.inside.parties).all in
    let count = parties_many c.self.inside.credit c.self.inside.names.items c.self.inside.journal.items q c.self.invariant.standing in
    subst (λ x. IfSome c.member.result (λ m. ShowsOf (state_of x) c.args.id.0 (collected_at x c.args.id.0) (ends_seen (ends_of m.now)))) c.self.view_is
    (if_some_from (λ m. shown_of m.now ≡ node_at q (c.args.id.0 - 1)) _ c.member.result
    (λ some m e.
    subst (ShowsOf _ c.args.id.0 _) (sym (ap (λ s. s.ends) e))
    (member_shows c.self.inside.credit c.self.inside.names.items c.self.inside.journal.items q c.args.id.0 c.self.invariant.standing
    (c.member.ensures.there.0 some).0 (omega (arith, (c.member.ensures.there.0 some).1, count))))
    c.member.ensures.shown)
