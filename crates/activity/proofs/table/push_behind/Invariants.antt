use Rattle.std.proofs.Common.{◌≡◌, ◌+◌, ◌-◌, ◌≤◌, ◌^◌, ◌++◌, drop, length}
use Rattle.activity.proofs.table.push_behind.Given as goal

abbrev pub invariant-loop-message : goal.invariant-loop-message
invariant-loop-message l = record {
  runs : (goal.iterator-loop-message).can_next l.message-iterator;
  ends : (goal.iterator-loop-message).is_finite l.message-iterator;
  place : l.place + length l.message-iterator.rest.items ≡ length l.fn.messages.items;
  forgot : l.store.forgot ≡ l.fn.store.forgot;
  messages : l.store.messages ++ drop (l.n - l.place) l.message-iterator.rest.items ≡ l.fn.store.messages ++ drop l.n l.fn.messages.items;
  room : length l.message-iterator.rest.items - (l.n - l.place) ≤ l.store.spare;
  few : length l.store.messages + (length l.message-iterator.rest.items - (l.n - l.place)) ≤ 2 ^ 63 - l.fn.store.forgot;
}
