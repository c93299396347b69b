use Rattle.std.proofs.Common.{map}
use Rattle.ring_parties.proofs.pairs.AllTurns.{TurnsBelow}
use Rattle.ring_parties.proofs.turning.take_turns_here.Given as goal

abbrev pub invariant-loop-place : goal.invariant-loop-place
invariant-loop-place g l = TurnsBelow l.fn.turns (map (λ t. t.now) l.fn.tasks) l.place l.fn.members l.members l.done
