use Rattle.std.proofs.Common.{ap, arith}
use Rattle.ring_rules.specs.Step.{size}
use Rattle.ring_cluster.specs.Seen.{state_of}
use Rattle.ring_cluster.proofs.rounds.Holding.{parties_many}
use Rattle.ring_cluster.proofs.rounds.Members.{members_few}
use Rattle.ring_cluster.proofs.cluster.Cluster.members.Goals as goal

pub overflow_cast-result : goal.overflow_cast-result
overflow_cast-result c =
    let count = parties_many c.self.inside.credit c.self.inside.names.items c.self.inside.journal.items (c.self.inside.parties).all c.self.invariant.standing in
    omega (arith, c.count.ensures, count, ap (λ x. size (state_of x)) c.self.view_is, members_few c.args.self.now c.is_going.ensures)

pub returns-clause-value : goal.returns-clause-value
returns-clause-value c =
    let count = parties_many c.self.inside.credit c.self.inside.names.items c.self.inside.journal.items (c.self.inside.parties).all c.self.invariant.standing in
    omega (arith, c.count.ensures, count, ap (λ x. size (state_of x)) c.self.view_is)

pub returns-clause-few : goal.returns-clause-few
returns-clause-few c =
    let count = parties_many c.self.inside.credit c.self.inside.names.items c.self.inside.journal.items (c.self.inside.parties).all c.self.invariant.standing in
    omega (arith, c.count.ensures, count, ap (λ x. size (state_of x)) c.self.view_is, members_few c.args.self.now c.is_going.ensures)
