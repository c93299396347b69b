use Rattle.ring_script.proofs.LoadPlayable.{made_playable}
use Rattle.ring_script.proofs.load.load_script.Goals as goal

pub returns-clause-playable : goal.returns-clause-playable
returns-clause-playable c = made_playable c.args.blocks c.args.seed c.make_script.result c.requires.1 c.make_script.ensures
