use Rattle.ring_rules.proofs.runs.OfEvents.{run_worked_rests}
use Rattle.ring_cluster.proofs.laws.an_idle_ring_is_at_rest.Goals as goal

pub returns : goal.returns
returns c credit names events are r = run_worked_rests credit names events are r
