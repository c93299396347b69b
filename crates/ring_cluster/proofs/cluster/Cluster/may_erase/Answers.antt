use Rattle.std.proofs.Common.{ap, subst, arith}
use Rattle.ring_rules.specs.Step.{size}
use Rattle.ring_cluster.specs.Seen.{Seen, state_of}
use Rattle.ring_parties.specs.Standing.{StandAfter}
use Rattle.ring_cluster.proofs.rounds.Asking.{none_told, some_told}
use Rattle.ring_cluster.proofs.rounds.Holding.{parties_many}
use Rattle.ring_cluster.proofs.rounds.Resting.{erase_told}
use Rattle.ring_cluster.proofs.cluster.Cluster.may_erase.Goals as goal

pub erase_refusal-refusal-requires-clause-within : goal.erase_refusal-refusal-requires-clause-within
erase_refusal-refusal-requires-clause-within c =
    let count = parties_many c.self.inside.credit c.self.inside.names.items c.self.inside.journal.items (c.self.inside.parties).all c.self.invariant.standing in
    omega (arith, c.requires, count, ap (λ (x : Seen). size (state_of x)) c.self.view_is)

pub returns-clause-may : goal.returns-clause-may
returns-clause-may c =
    none_told c.erase_refusal-refusal.result _ c.is_none.result c.is_none.ensures
    (erase_told c.args.self.now (c.self.inside.parties).all c.args.place c.args.origin.now c.erase_refusal-refusal.result c.requires
    (subst (λ (x : Seen). StandAfter x.credit x.names x.events (c.self.inside.parties).all) c.self.view_is c.self.invariant.standing)
    c.erase_refusal-refusal.ensures)

pub returns-clause-may_not : goal.returns-clause-may_not
returns-clause-may_not c =
    some_told c.erase_refusal-refusal.result _ c.is_none.result c.is_none.ensures
    (erase_told c.args.self.now (c.self.inside.parties).all c.args.place c.args.origin.now c.erase_refusal-refusal.result c.requires
    (subst (λ (x : Seen). StandAfter x.credit x.names x.events (c.self.inside.parties).all) c.self.view_is c.self.invariant.standing)
    c.erase_refusal-refusal.ensures)
