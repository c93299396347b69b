use Rattle.ring_parties.proofs.turns.Passing.{acted_none}
use Rattle.ring_parties.proofs.turns.Tries.{tries_not, tries_failed}
use Rattle.ring_parties.proofs.turn.answer.Goals as goal

pub returns-in_err-event : goal.returns-in_err-event
returns-in_err-event c = tries_failed _ _ c.args.party.now c.args.party.now c.from_residual.result c.from_residual.ensures.1 (acted_none c.args.party.now c.requires.may)

pub returns-then-not-says : goal.returns-then-not-says
returns-then-not-says c = tries_not _ c.args.party.now c.args.party.now (acted_none c.args.party.now c.requires.may)

pub returns-then-is_passing : goal.returns-then-is_passing
returns-then-is_passing c = tries_not _ c.args.party.now c.args.party.now (acted_none c.args.party.now c.requires.may)
