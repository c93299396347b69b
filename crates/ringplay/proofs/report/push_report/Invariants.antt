use Rattle.std.proofs.Common.{◌≡◌, ◌++◌}
use Rattle.std.specs.List.{flat_map, range_with_len}
use Rattle.ring_cluster.specs.Seen.{state_of}
use Rattle.ring_report.specs.Lent.{lent_in}
use Rattle.ring_report.specs.Report.{lines_of_member}
use Rattle.ringplay.proofs.report.push_report.Given as goal

abbrev pub invariant-loop-place : goal.invariant-loop-place
invariant-loop-place l = l.out.items ≡ l.initial.out.items ++ flat_map (lines_of_member (state_of l.cluster) (lent_in l.refusals)) (range_with_len 1 l.place)
