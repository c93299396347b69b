use Rattle.ring_cluster.proofs.work.Heard.{run_quiet_has_heard}
use Rattle.ring_cluster.proofs.laws.a_quiet_ring_has_heard_all.Goals as goal

pub returns : goal.returns
returns c = run_quiet_has_heard
