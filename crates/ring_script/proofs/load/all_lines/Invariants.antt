use Rattle.std.proofs.Common.{◌≡◌, ◌*◌, ◌≤◌, length}
use Rattle.std.specs.List.{flat_map, enumerate_from, range_with_len}
use Rattle.ring_script.specs.Load.{block_of}
use Rattle.ring_script.proofs.load.all_lines.Given as goal

abbrev pub invariant-loop-before : goal.invariant-loop-before
invariant-loop-before l = record {
  lines : l.lines.items ≡ enumerate_from 2 (flat_map (block_of l.blocks l.seed) (range_with_len 1 l.before));
  few : length l.lines.items ≤ 10 * l.before;
}
