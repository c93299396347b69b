use Rattle.std.proofs.Common.{◌≡◌, true, sym, subst}
use Rattle.std.specs.List.{list_all}
use Rattle.ring_script.specs.Words.{is_text_byte}
use Rattle.ring_script.specs.Place.{left_in}
use Rattle.ring_script.proofs.Bodies.{behind_word_text}
use Rattle.ring_script.proofs.steps.read_refuse.Goals as goal

pub read_refused-requires-clause-text : goal.read_refused-requires-clause-text
read_refused-requires-clause-text c =
    let first : list_all is_text_byte (left_in c.next_word.new.self) ≡ true =
    subst (λ t. list_all is_text_byte t ≡ true) (sym c.next_word.ensures.left) (behind_word_text (left_in c.args.rest) c.requires.text) in
    subst (λ t. list_all is_text_byte t ≡ true) (sym c.next_word-2.ensures.left) (behind_word_text (left_in c.next_word.new.self) first)
