use Rattle.std.proofs.Common.{◌≡◌, ◌≤◌, length}
use Rattle.queue_mirror.specs.Mirror.{apply_ops}
use Rattle.ring_world.proofs.operations.apply_all.Given as goal

abbrev pub invariant-loop-operation : goal.invariant-loop-operation
invariant-loop-operation l = record {
  runs : (goal.iterator-loop-operation).can_next l.operation-iterator;
  ends : (goal.iterator-loop-operation).is_finite l.operation-iterator;
  taken : apply_ops l.mirror.mirror l.operation-iterator.rest.items ≡ apply_ops l.fn.mirror.mirror l.fn.operations.items;
  room : length l.operation-iterator.rest.items ≤ l.mirror.room;
}
