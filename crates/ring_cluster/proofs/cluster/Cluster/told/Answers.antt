use Rattle.std.proofs.Common.{ap, arith, ◌∙◌}
use Rattle.ring_rules.specs.Machine.{member_at}
use Rattle.ring_rules.specs.Step.{size}
use Rattle.ring_parties.specs.Parties.{Keeps}
use Rattle.ring_cluster.specs.Seen.{Seen, state_of}
use Rattle.ring_cluster.proofs.rounds.Holding.{parties_many}
use Rattle.ring_cluster.proofs.cluster.Cluster.told.Goals as goal

pub told-requires : goal.told-requires
told-requires c =
    let count = parties_many c.self.inside.credit c.self.inside.names.items c.self.inside.journal.items (c.self.inside.parties).all c.self.invariant.standing in
    (c.requires.0, omega (arith, c.requires.1, count, ap (λ (x : Seen). size (state_of x)) c.self.view_is))

pub returns : goal.returns
returns c =
    let count = parties_many c.self.inside.credit c.self.inside.names.items c.self.inside.journal.items (c.self.inside.parties).all c.self.invariant.standing in
    c.told.ensures
    ∙ ap (λ (k : Keeps). k.told) (c.self.invariant.keeps.each c.args.id.0 c.requires.0 (omega (arith, c.requires.1, ap (λ (x : Seen). size (state_of x)) c.self.view_is)))
    ∙ ap (λ (x : Seen). (member_at (state_of x) c.args.id.0).told) c.self.view_is
