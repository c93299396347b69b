use Rattle.std.proofs.Common.{◌≡◌, map, take}
use Rattle.queue_core.specs.Shown.{item_of}
use Rattle.ring_report.proofs.Passing.{Passes}
use Rattle.ring_report.proofs.items.held_in.Given as goal

abbrev pub invariant-loop-place : goal.invariant-loop-place
invariant-loop-place l = record {
  held : map item_of l.all.items ≡ take l._place l.queue.queue.items;
  passes : Passes l.queue.queue.items l._place l.from;
}
