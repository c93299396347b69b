use Rattle.std.proofs.Common.{◌≡◌, ◌≤◌, length}
use Rattle.queue_sync.specs.Copy.{apply_all}
use Rattle.queue_sync.proofs.receiver.take_all.Given as goal

abbrev pub invariant-loop-op : goal.invariant-loop-op
invariant-loop-op l = record {
  runs : (goal.iterator-loop-op).can_next l.op-iterator;
  ends : (goal.iterator-loop-op).is_finite l.op-iterator;
  room : length l.op-iterator.rest.items ≤ l.queue.room;
  later : apply_all l.op-iterator.rest.items l.queue.queue ≡ apply_all l.fn.since.items l.fn.queue.queue;
}
