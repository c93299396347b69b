use Rattle.std.proofs.Common.{◌≡◌, map}
use Rattle.std.specs.List.{range_with_len}
use Rattle.ring_cluster.specs.Seen.{state_of}
use Rattle.ring_report.specs.Report.{stands_at}
use Rattle.ring_report.specs.Summary.{published_by}
use Rattle.ringplay.proofs.summing.summary.Given as goal

abbrev pub invariant-loop-place : goal.invariant-loop-place
invariant-loop-place l = record {
  states : l.states.items ≡ map (stands_at (state_of l.cluster)) (range_with_len 1 l.place);
  counts : l.counts.items ≡ map (published_by (state_of l.cluster)) (range_with_len 1 l.place);
}
