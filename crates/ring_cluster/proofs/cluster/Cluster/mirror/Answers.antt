use Rattle.std.proofs.Common.{◌≡◌, ◌-◌, ap, arith, subst, ◌∙◌}
use Rattle.std.specs.Prelude.{IfSome}
use Rattle.ring_rules.specs.Machine.{member_at}
use Rattle.ring_rules.specs.Step.{size}
use Rattle.ring_parties.specs.Parties.{Keeps}
use Rattle.ring_parties.specs.Keeps.{keeps_at}
use Rattle.ring_cluster.specs.Seen.{state_of}
use Rattle.ring_parties.proofs.lists.Lists.{if_some_from}
use Rattle.ring_cluster.proofs.rounds.Holding.{parties_many}
use Rattle.ring_cluster.proofs.cluster.Cluster.mirror.Goals as goal

pub returns-clause-there : goal.returns-clause-there
returns-clause-there c =
    let count = parties_many c.self.inside.credit c.self.inside.names.items c.self.inside.journal.items (c.self.inside.parties).all c.self.invariant.standing in
    (λ some. let w = c.mirror.ensures.there.0 some in (w.0, omega (arith, w.1, count, ap (λ x. size (state_of x)) c.self.view_is)), λ w. c.mirror.ensures.there.1 (w.0, omega (arith, w.1, count, ap (λ x. size (state_of x)) c.self.view_is)))

pub returns-clause-stands : goal.returns-clause-stands
returns-clause-stands c =
    let count = parties_many c.self.inside.credit c.self.inside.names.items c.self.inside.journal.items (c.self.inside.parties).all c.self.invariant.standing in
    subst (λ x. IfSome c.mirror.result (λ m. (m.now).mirror ≡ (member_at (state_of x) c.args.id.0).mirror)) c.self.view_is
    (if_some_from (λ m. (m.now).mirror ≡ (keeps_at (c.self.inside.parties).keeps (c.args.id.0 - 1)).mirror) _ c.mirror.result
    (λ some m e.
    e ∙ ap (λ (k : Keeps). k.mirror) (c.self.invariant.keeps.each c.args.id.0 (c.mirror.ensures.there.0 some).0 (omega (arith, (c.mirror.ensures.there.0 some).1, count))))
    c.mirror.ensures.kept)
