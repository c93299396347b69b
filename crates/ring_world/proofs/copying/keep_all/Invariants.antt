use Rattle.std.proofs.Common.{◌≡◌, map, take}
use Rattle.queue_sync.specs.Copy.{item_of}
use Rattle.ring_copies.specs.Copies.{all_kept}
use Rattle.ring_world.proofs.copying.keep_all.Given as goal

abbrev pub invariant-loop-item : goal.invariant-loop-item
invariant-loop-item l = l.taken ≡ record l.initial.taken { aside = all_kept (map item_of (take l.item-index l.items)) l.initial.taken.aside }
