use Rattle.std.proofs.Common.{◌≡◌, take}
use Rattle.activity.specs.Diff.{lines_of}
use Rattle.activity.proofs.sending.next_lines.Given as goal

abbrev pub invariant-loop-place : goal.invariant-loop-place
invariant-loop-place l = l.lines.items ≡ lines_of l.first l.sent (take l.place l.tables)
