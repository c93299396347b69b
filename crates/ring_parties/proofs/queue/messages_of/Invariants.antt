use Rattle.std.proofs.Common.{◌≡◌, ◌-◌, ◌^◌, length, take}
use Rattle.std.specs.Prelude.{min}
use Rattle.std.specs.List.{sum_by}
use Rattle.activity.specs.Packets.{LineSeen}
use Rattle.ring_parties.proofs.queue.messages_of.Given as goal

abbrev pub invariant-loop-line : goal.invariant-loop-line
invariant-loop-line l = l.count ≡ min (sum_by (λ (line : LineSeen). length line.messages) (take l.line-index l.lines)) (2 ^ 64 - 1)
