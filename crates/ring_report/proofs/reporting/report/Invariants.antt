use Rattle.std.proofs.Common.{◌≡◌, ◌++◌}
use Rattle.std.specs.List.{flat_map, range_with_len}
use Rattle.ring_report.specs.Lent.{lent_in}
use Rattle.ring_report.specs.Report.{ring_line, newest_view, lines_of_member}
use Rattle.ring_report.proofs.reporting.report.Given as goal

abbrev pub invariant-loop-place : goal.invariant-loop-place
invariant-loop-place l = l.text.items ≡ ring_line (newest_view l.world.ring) ++ flat_map (lines_of_member l.world.ring (lent_in l.refusals)) (range_with_len 1 l.place)
