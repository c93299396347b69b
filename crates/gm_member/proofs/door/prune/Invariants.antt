use Rattle.std.proofs.Common.{◌≡◌, ◌+◌, ◌≤◌, ◌++◌, take, drop, vec_len, vec_capacity}
use Rattle.gm_member.specs.View.{kept_links, left_links}
use Rattle.gm_member.proofs.door.prune.Given as goal

abbrev pub invariant-loop-link : goal.invariant-loop-link
invariant-loop-link g l = record {
  judged : l.door.items ≡ drop l._link l.initial.door.items ++ kept_links l.view l.id.0 (take l._link l.initial.door.items);
  left : l.left.items ≡ l.initial.left.items ++ left_links l.view l.id.0 (take l._link l.initial.door.items);
  fewer : vec_len l.left + vec_len l.door ≤ vec_len l.initial.left + vec_len l.initial.door;
  room : vec_capacity l.initial.left ≤ vec_capacity l.left;
}
