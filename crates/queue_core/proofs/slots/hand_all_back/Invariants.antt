use Rattle.std.proofs.Common.{◌≡◌, ◌++◌, map, take, drop, deque_len, deque_capacity}
use Rattle.queue_core.specs.Slots.{again}
use Rattle.queue_core.proofs.slots.hand_all_back.Given as goal

-- the items before the place are ready again
abbrev pub invariant-loop-place : goal.invariant-loop-place
invariant-loop-place l = record {
  items : l.slots.items ≡ map again (take l.place l.initial.slots.items) ++ drop l.place l.initial.slots.items;
  count : deque_len l.slots ≡ deque_len l.initial.slots;
  room : deque_capacity l.slots ≡ deque_capacity l.initial.slots;
}
