use Rattle.std.proofs.Common.{◌≡◌, ◌+◌, ◌≤◌, length}
use Rattle.ring_script.specs.Words.{lines_of}
use Rattle.ring_script.proofs.text.line_count.Given as goal

abbrev pub invariant-lines : goal.invariant-lines
invariant-lines l = record {
  all : l.count + length (lines_of l.rest) ≡ length (lines_of l.fn.bytes);
  few : l.count + length l.rest ≤ length l.fn.bytes;
}

abbrev pub decreases-lines : goal.decreases-lines
decreases-lines l = length l.rest
