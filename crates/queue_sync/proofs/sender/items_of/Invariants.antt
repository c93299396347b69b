use Rattle.std.proofs.Common.{◌≡◌, map, take}
use Rattle.queue_sync.specs.Copy.{item_of}
use Rattle.queue_sync.proofs.Sent.{Parts}
use Rattle.queue_sync.proofs.sender.items_of.Given as goal

abbrev pub invariant-loop-place : goal.invariant-loop-place
invariant-loop-place l = record {
  copied : map item_of l.items.items ≡ take l._place l.queue.queue.items;
  parts : Parts l.from.0 l.queue.queue.items l._place;
}
