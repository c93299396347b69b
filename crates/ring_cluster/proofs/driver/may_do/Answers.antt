use Rattle.ring_cluster.specs.Seen.{state_of}
use Rattle.ring_cluster.proofs.rounds.Asking.{none_told, some_told}
use Rattle.ring_cluster.proofs.rounds.Members.{event_at_place}
use Rattle.ring_cluster.proofs.driver.may_do.Goals as goal

pub refusal-refusal-requires : goal.refusal-refusal-requires
refusal-refusal-requires c = event_at_place (state_of c.args.cluster.now) c.args.event.now c.args.id.0 c.requires.within.0 c.requires.within.1 c.requires.named

pub returns-clause-may : goal.returns-clause-may
returns-clause-may c = none_told _ _ c.is_none.result c.is_none.ensures c.refusal-refusal.ensures

pub returns-clause-may_not : goal.returns-clause-may_not
returns-clause-may_not c = some_told _ _ c.is_none.result c.is_none.ensures c.refusal-refusal.ensures
