use Rattle.std.proofs.Common.{◌≡◌, ◌++◌, take}
use Rattle.std.specs.List.{flat_map}
use Rattle.ring_cluster.specs.Published.{told_with}
use Rattle.ring_report.specs.Report.{cast_line}
use Rattle.ringplay.proofs.report.push_casts.Given as goal

abbrev pub invariant-loop-body : goal.invariant-loop-body
invariant-loop-body l = l.out.items ≡ l.initial.out.items ++ flat_map (cast_line l.origin) (told_with (take l.body-index l.bodies))
