use Rattle.std.proofs.Common.{◌≡◌, ◌+◌, ◌≤◌, ◌++◌, length, vec_len, vec_capacity}
use Rattle.std.specs.Vec.Iter.{into_iter_items, into_iter_len}
use Rattle.gm_member.specs.Arrivals.{joined_links, turned_ends}
use Rattle.gm_member.proofs.arrivals.arrive_all.Given as goal

abbrev pub invariant-loop-link : goal.invariant-loop-link
invariant-loop-link g l = record {
  door : l.door.items ++ joined_links l.view l.id.0 l.credit (into_iter_items l.link-iterator) ≡ l.initial.door.items ++ joined_links l.view l.id.0 l.credit (into_iter_items l.initial.link-iterator);
  left : l.left.items ++ turned_ends l.view l.id.0 (into_iter_items l.link-iterator) ≡ l.initial.left.items ++ turned_ends l.view l.id.0 (into_iter_items l.initial.link-iterator);
  rest : into_iter_len l.link-iterator ≡ length (into_iter_items l.link-iterator);
  more : vec_len l.left + vec_len l.door + length (into_iter_items l.link-iterator) ≡ vec_len l.initial.left + vec_len l.initial.door + length (into_iter_items l.initial.link-iterator);
  room : vec_len l.door + length (into_iter_items l.link-iterator) ≤ vec_capacity l.door;
  room_left : vec_len l.left + length (into_iter_items l.link-iterator) ≤ vec_capacity l.left;
  same : vec_capacity l.left ≡ vec_capacity l.initial.left;
}
