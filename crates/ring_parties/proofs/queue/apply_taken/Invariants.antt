use Rattle.std.proofs.Common.{◌≡◌, ◌≤◌, length}
use Rattle.queue_mirror.specs.Mirror.{apply_ops}
use Rattle.ring_parties.specs.Keeps.{ops_taken}
use Rattle.ring_parties.proofs.queue.apply_taken.Given as goal

abbrev pub invariant-loop-one : goal.invariant-loop-one
invariant-loop-one l = record {
  runs : (goal.iterator-loop-one).can_next l.one-iterator;
  ends : (goal.iterator-loop-one).is_finite l.one-iterator;
  taken : apply_ops l.mirror.mirror (ops_taken l.one-iterator.rest.items) ≡ apply_ops l.fn.mirror.mirror (ops_taken l.fn.taken.items);
  room : length l.one-iterator.rest.items ≤ l.mirror.room;
}
