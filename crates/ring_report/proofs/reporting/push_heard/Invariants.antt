use Rattle.std.proofs.Common.{◌≡◌, ◌++◌}
use Rattle.std.specs.List.{flat_map, range_with_len}
use Rattle.ring_report.specs.Report.{heard_from}
use Rattle.ring_report.proofs.reporting.push_heard.Given as goal

abbrev pub invariant-loop-place : goal.invariant-loop-place
invariant-loop-place l = l.out.items ≡ l.initial.out.items ++ flat_map (heard_from l.world.ring l.id.0) (range_with_len 1 l.place)
