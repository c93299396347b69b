use Rattle.std.proofs.Common.{◌≡◌, ◌++◌, length}
use Rattle.std.specs.List.{All}
use Rattle.ring_cluster.specs.Plays.{PlaysSoFar}
use Rattle.ringplay.specs.Performed.{SameRing, HasTurns, commands_on}
use Rattle.ringplay.proofs.play.perform.Given as goal

abbrev pub invariant-loop-command : goal.invariant-loop-command
invariant-loop-command g l = record {
  ring : SameRing l.initial.cluster l.cluster;
  all : l.fn.lines.items ≡ l.yielded ++ l.command-iterator.rest.items;
  len : l.command-iterator.rest.len ≡ length l.command-iterator.rest.items;
  turns : All (λ line. HasTurns line.1) l.command-iterator.rest.items;
  given : l.cluster.given ≡ l.initial.cluster.given ++ commands_on l.yielded;
  plays : PlaysSoFar l.cluster;
}
