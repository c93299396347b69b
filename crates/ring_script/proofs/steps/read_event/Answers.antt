use Rattle.std.proofs.Common.{sym, ap, ◌∙◌}
use Rattle.ring_script.specs.Place.{left_in}
use Rattle.ring_script.specs.Vocabulary.{event_said}
use Rattle.ring_script.proofs.Phrases.{tells_event}
use Rattle.ring_script.proofs.steps.read_event.Goals as goal

pub unreachable-requires : goal.unreachable-requires
unreachable-requires c = tells_event c.args.word (left_in c.args.rest) (ap event_said (sym c.in_ok-phrase.ensures.phrase) ∙ sym c.in-None.ensures)
