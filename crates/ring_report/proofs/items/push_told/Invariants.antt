use Rattle.std.proofs.Common.{◌≡◌, ◌++◌, map, take}
use Rattle.std.specs.List.{flat_map}
use Rattle.queue_core.specs.Shown.{item_of}
use Rattle.ring_report.specs.Report.{told_line}
use Rattle.ring_report.proofs.items.push_told.Given as goal

abbrev pub invariant-loop-held : goal.invariant-loop-held
invariant-loop-held l = l.out.items ≡ l.initial.out.items ++ flat_map (told_line l.handed) (map item_of (take l.held-index l.all))
