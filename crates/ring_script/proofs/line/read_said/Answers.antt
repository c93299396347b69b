use Rattle.ring_script.proofs.Bodies.{further_text}
use Rattle.ring_script.proofs.line.read_said.Goals as goal

pub read_by-requires : goal.read_by-requires
read_by-requires g c =
    record { text = further_text c.of-words.result.line.now c.args.line.now _ c.of-words.result.at c.of-words.ensures.place c.of-words.ensures.line c.first-word.ensures.left c.requires.text }
