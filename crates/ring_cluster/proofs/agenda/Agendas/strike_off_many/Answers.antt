use Rattle.ring_cluster.proofs.lists.Struck.{strike_next}
use Rattle.ring_cluster.proofs.agenda.Agendas.strike_off_many.Goals as goal

pub loop-task-preserved : goal.loop-task-preserved
loop-task-preserved c = strike_next c.args.self.now c.loop-task.self c.strike_off.new.self c.args.name.now c.loop-task._task c.loop-task.invariant c.strike_off.ensures
