use Rattle.std.proofs.Common.{◌≡◌, drop}
use Rattle.ring_cluster.specs.Agendas.{tasks_in, with_tasks}
use Rattle.ring_cluster.proofs.agenda.Agendas.strike_off_many.Given as goal

abbrev pub invariant-loop-task : goal.invariant-loop-task
invariant-loop-task l = l.self ≡ with_tasks l.initial.self l.name (drop l._task (tasks_in l.initial.self l.name))
