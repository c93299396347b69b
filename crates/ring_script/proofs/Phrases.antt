-- What a right phrase has, and what phrases tell.
use Rattle.std.proofs.Common.{◌≡◌, ℕ, true, List, [], ◌∷◌, Option, None, get_or}
use Rattle.std.specs.Option.{option_or}
use Rattle.ring_script.specs.declared.fault.Kind.{Kind}
use Rattle.ring_script.specs.declared.vocabulary.Shape.{Shape}
use Rattle.ring_script.specs.declared.vocabulary.Shape.TheVariants as shape
use Rattle.ring_script.specs.declared.vocabulary.Word.{Word}
use Rattle.ring_script.specs.declared.vocabulary.Word.TheVariants as word
use Rattle.ring_script.specs.Words.{words_of}
use Rattle.ring_script.specs.Line.{operand_in, body_in, one_word, two_words, name_fault, number_fault, body_fault, cast_fault}
use Rattle.ring_script.specs.Vocabulary.{most_position, most_version, most_code, event_said, client_said}
use Rattle.ring_script.specs.Phrase.{refused_name_fault, phrase_fault, phrase_in}
use Rattle.ring_script.specs.Steps.{is_asked_step}
use Rattle.ring_script.proofs.Names.{none_of_both}

-- ---- what is judged

-- one right word
pub one_right : (by : List ℕ → Option Kind) (words : List (List ℕ)) → one_word by words ≡ None → by (get_or words 0 []) ≡ None
one_right by [] e = cc
one_right by (one ∷ []) e = e
one_right by (one ∷ other ∷ words) e = cc

-- two right words
pub two_right : (by further : List ℕ → Option Kind) (words : List (List ℕ)) → two_words (λ one other. option_or (by one) (further other)) words ≡ None
    → (by (get_or words 0 []) ≡ None) × (further (get_or words 1 []) ≡ None)
two_right by further [] e = cc
two_right by further (one ∷ []) e = cc
two_right by further (one ∷ other ∷ []) e = none_of_both (by one) (further other) e
two_right by further (one ∷ other ∷ third ∷ words) e = cc

-- a right word and a right body
pub body_right : (by : List ℕ → Option Kind) (body : List ℕ) (words : List (List ℕ)) → cast_fault by body words ≡ None
    → (by (get_or words 0 []) ≡ None) × (body_fault body ≡ None)
body_right by body [] e = cc
body_right by body (one ∷ words) e = none_of_both (by one) (body_fault body) e

-- in a right phrase the member's name is right
pub by_right : (by newcomer : List ℕ → Option Kind) (s : Shape) (rest : List ℕ) → phrase_fault by newcomer s rest ≡ None → by (operand_in rest) ≡ None
by_right by newcomer shape.Nothing rest e = one_right by (words_of rest) e
by_right by newcomer shape.Body rest e = (body_right by (body_in rest) (words_of rest) e).0
by_right by newcomer shape.Name rest e = (two_right by name_fault (words_of rest) e).0
by_right by newcomer shape.Newcomer rest e = (two_right by newcomer (words_of rest) e).0
by_right by newcomer shape.Position rest e = (two_right by (number_fault most_position) (words_of rest) e).0
by_right by newcomer shape.Version rest e = (two_right by (number_fault most_version) (words_of rest) e).0

-- and so is the number of a refusal in front of it
pub number_right : (code : List ℕ) (s : Shape) (rest : List ℕ) → phrase_fault (refused_name_fault code) name_fault s rest ≡ None → number_fault most_code code ≡ None
number_right code s rest e = (none_of_both (number_fault most_code code) (name_fault (operand_in rest)) (by_right (refused_name_fault code) name_fault s rest e)).0

-- ---- what is told

-- each word tells an event
pub tells_event : (w : Word) (rest : List ℕ) → event_said (phrase_in w rest) ≡ None → ⊥
tells_event word.Cast rest e = cc
tells_event w rest e = cc

-- and one that clients ask for asks that
pub tells_client : (w : Word) (rest : List ℕ) → is_asked_step w ≡ true → client_said (phrase_in w rest) ≡ None → ⊥
tells_client word.Cast rest a e = cc
tells_client w rest a e = cc
