use Rattle.std.proofs.Common.{◌≡◌, ◌≤◌, ◌*◌, take}
use Rattle.std.specs.List.{sum_by}
use Rattle.ring_report.specs.Summary.{number_of}
use Rattle.ring_report.proofs.summing.total.Given as goal

abbrev pub invariant-loop-of_one : goal.invariant-loop-of_one
invariant-loop-of_one l = record {
  sum : l.sum ≡ sum_by (number_of l.counted) (take l.of_one-index l.counts);
  bound : l.sum ≤ l.of_one-index * 18446744073709551615;
}
