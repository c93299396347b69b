use Rattle.ring_parties.proofs.turns.Passing.{acted_none}
use Rattle.ring_parties.proofs.turns.Tries.{tries_not}
use Rattle.ring_parties.proofs.turn.start.Goals as goal

pub returns-then-is_some : goal.returns-then-is_some
returns-then-is_some c = tries_not _ c.args.party.now c.args.party.now (acted_none c.args.party.now c.requires.may)
