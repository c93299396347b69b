use Rattle.std.proofs.Common.{◌≤◌, ◌-◌, length, take}
use Rattle.ring_io.specs.Contents.{Gains}
use Rattle.ring_io.proofs.whole.write_all.Given as goal

-- the sink has gained what was written
abbrev pub invariant-loop-written : goal.invariant-loop-written
invariant-loop-written g l = record {
  within : l.written ≤ length l.bytes;
  gained : Gains g.K.Sink.may_lose_track (g.K.Sink.contents l.fn.sink) (g.K.Sink.contents l.sink) (take l.written l.bytes);
  never_falls : g.K.Sink.faults l.fn.sink ≤ g.K.Sink.faults l.sink;
}

abbrev pub decreases-loop-written : goal.decreases-loop-written
decreases-loop-written g l = length l.bytes - l.written
