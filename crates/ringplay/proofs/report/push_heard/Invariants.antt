use Rattle.std.proofs.Common.{◌≡◌, ◌++◌}
use Rattle.std.specs.List.{flat_map, range_with_len}
use Rattle.ring_cluster.specs.Seen.{state_of}
use Rattle.ring_report.specs.Report.{heard_from}
use Rattle.ringplay.proofs.report.push_heard.Given as goal

abbrev pub invariant-loop-origin : goal.invariant-loop-origin
invariant-loop-origin l = l.out.items ≡ l.initial.out.items ++ flat_map (heard_from (state_of l.cluster) l.id.0) (range_with_len 1 l.origin)
