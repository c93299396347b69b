use Rattle.ring_script.specs.Place.{left_in}
use Rattle.ring_script.proofs.Bodies.{body_text}
use Rattle.ring_script.proofs.phrase.read_with_body.Goals as goal

pub read_body-requires : goal.read_body-requires
read_body-requires c = record { text = body_text (left_in c.args.rest) (left_in c.next_word.new.self) c.body.result.now c.next_word.ensures.left c.body.ensures c.requires.text }
