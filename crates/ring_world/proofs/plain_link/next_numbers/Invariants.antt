use Rattle.std.proofs.Common.{◌≡◌, map}
use Rattle.ring_world.specs.Shows.{row_of}
use Rattle.ring_world.proofs.code.Sent.{lines_to}
use Rattle.ring_world.proofs.plain_link.next_numbers.Given as goal

abbrev pub invariant-loop-id : goal.invariant-loop-id
invariant-loop-id l = l.numbers.items ≡ lines_to l.fresh (map row_of l.sender.rows.items) l.sent l.id
