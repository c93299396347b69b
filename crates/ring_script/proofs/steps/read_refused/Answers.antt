use Rattle.std.proofs.Common.{sym, ap, ◌∙◌}
use Rattle.ring_script.specs.Place.{left_in}
use Rattle.ring_script.specs.Vocabulary.{client_said}
use Rattle.ring_script.proofs.Phrases.{tells_client}
use Rattle.ring_script.proofs.steps.read_refused.Goals as goal

pub unreachable-requires : goal.unreachable-requires
unreachable-requires c = tells_client c.args.word (left_in c.args.rest) c.requires.asked (ap client_said (sym c.in_ok-phrase.ensures.phrase) ∙ sym c.in-None.ensures)
