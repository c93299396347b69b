use Rattle.ring_parties.proofs.turns.Rounds.{Going}
use Rattle.ring_parties.proofs.turn.turns_of.Given as goal

abbrev pub invariant-loop-turn : goal.invariant-loop-turn
invariant-loop-turn g l = Going l.turn l.tasks l.done l.initial.party l.party
