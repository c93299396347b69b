use Rattle.std.proofs.Common.{◌≡◌, ◌+◌, ◌≤◌, drop, take, vec_len, vec_capacity}
use Rattle.pending_store.proofs.store.copied_range.Given as goal

abbrev pub invariant-loop-i : goal.invariant-loop-i
invariant-loop-i g l = record {
  copied : l.copies.items ≡ drop l.first (take l.i l.messages.items);
  count : vec_len l.copies + l.first ≡ l.i;
  room : l.end ≤ vec_capacity l.copies + l.first;
}
