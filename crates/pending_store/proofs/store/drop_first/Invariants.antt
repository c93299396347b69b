use Rattle.std.proofs.Common.{◌≡◌, ◌+◌, drop, deque_len, deque_capacity}
use Rattle.pending_store.proofs.store.drop_first.Given as goal

abbrev pub invariant-loop-dropped : goal.invariant-loop-dropped
invariant-loop-dropped g l = record {
  rest : l.messages.items ≡ drop l._dropped l.initial.messages.items;
  count : deque_len l.messages + l._dropped ≡ deque_len l.initial.messages;
  room : deque_capacity l.messages ≡ deque_capacity l.initial.messages;
}
