-- What is read behind a word: the member's name and what further stands there, and what is wrong with it.
use Rattle.std.specs.Prelude.{ℕ, Option, unwrap_or, List}
use Rattle.std.specs.Option.{option_or}
use Rattle.ring_script.specs.declared.fault.Kind.{Kind}
use Rattle.ring_script.specs.declared.phrase.Names.{Names}
use Rattle.ring_script.specs.declared.phrase.Names.TheVariants as names
use Rattle.ring_script.specs.declared.vocabulary.Further.{Further}
use Rattle.ring_script.specs.declared.vocabulary.Further.TheVariants as further
use Rattle.ring_script.specs.declared.vocabulary.Phrase.{Phrase}
use Rattle.ring_script.specs.declared.vocabulary.Shape.{Shape}
use Rattle.ring_script.specs.declared.vocabulary.Shape.TheVariants as shape
use Rattle.ring_script.specs.declared.vocabulary.Word.{Word}
use Rattle.ring_script.specs.Words.{words_of, number_of}
use Rattle.ring_script.specs.Line.{operand_in, second_in, body_in, one_word, two_words, name_fault, known_fault, further_fault, number_fault, cast_fault}
use Rattle.ring_script.specs.Vocabulary.{shape_of, most_position, most_version, most_code, phrase}

-- what is wrong with the number of a refusal, and then with the name of the member of which it was asked
abbrev pub refused_name_fault : List ℕ → List ℕ → Option Kind
refused_name_fault code by = option_or (number_fault most_code code) (name_fault by)

-- what is wrong with a word as the member's name
abbrev pub by_fault : Names → List ℕ → Option Kind
by_fault names.Any = name_fault
by_fault (names.Known known) = known_fault known.now
by_fault (names.Behind code) = refused_name_fault code.now

-- as a newcomer's
abbrev pub newcomer_fault : Names → List ℕ → Option Kind
newcomer_fault (names.Known known) = further_fault known.now
newcomer_fault _ = name_fault

-- what is wrong with the rest of a line behind a word of this shape, where the member's name is judged so, and a newcomer's so
abbrev pub phrase_fault : (List ℕ → Option Kind) → (List ℕ → Option Kind) → Shape → List ℕ → Option Kind
phrase_fault by newcomer shape.Nothing rest = one_word by (words_of rest)
phrase_fault by newcomer shape.Body rest = cast_fault by (body_in rest) (words_of rest)
phrase_fault by newcomer shape.Name rest = two_words (λ one other. option_or (by one) (name_fault other)) (words_of rest)
phrase_fault by newcomer shape.Newcomer rest = two_words (λ one other. option_or (by one) (newcomer other)) (words_of rest)
phrase_fault by newcomer shape.Position rest = two_words (λ one at. option_or (by one) (number_fault most_position at)) (words_of rest)
phrase_fault by newcomer shape.Version rest = two_words (λ one version. option_or (by one) (number_fault most_version version)) (words_of rest)

-- what stands behind the member's name
abbrev pub further_in : Shape → List ℕ → Further
further_in shape.Nothing rest = further.Nothing
further_in shape.Body rest = further.Body (body_in rest)
further_in shape.Name rest = further.Name (second_in rest)
further_in shape.Newcomer rest = further.Name (second_in rest)
further_in shape.Position rest = further.Position (record { 0 = unwrap_or (number_of most_position (second_in rest)) 0 })
further_in shape.Version rest = further.Version (unwrap_or (number_of most_version (second_in rest)) 0)

-- the phrase of a word and the rest of its line
abbrev pub phrase_in : Word → List ℕ → Phrase
phrase_in w rest = phrase w (operand_in rest) (further_in (shape_of w) rest)
