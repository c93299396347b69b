use Rattle.std.proofs.Common.{◌≤◌, vec_len}
use Rattle.std.specs.Io.KnownBytes.{Consumes}
use Rattle.ring_io.proofs.whole.read_all.Given as goal

-- what was read is kept, and each round read one byte at least
abbrev pub invariant-loop-round : goal.invariant-loop-round
invariant-loop-round g l = record {
  rounds : l._round ≤ vec_len l.bytes;
  within : vec_len l.bytes ≤ l.most;
  read : Consumes (g.S.Source.remaining l.fn.source) (g.S.Source.remaining l.source) l.bytes.items;
  never_falls : g.S.Source.faults l.fn.source ≤ g.S.Source.faults l.source;
}
