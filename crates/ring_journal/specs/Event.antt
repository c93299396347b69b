-- The event that a JSON value is: a phrase of the ring's words, or the refusal of one.
use Rattle.std.specs.Prelude.{ℕ, ◌+◌, ◌==◌, if◌then◌else◌, Option, Some, None, option_map, option_and_then, List, codes, bytes_eq}
use Rattle.serde_json.specs.Data.{Data}
use Rattle.ring_rules.specs.declared.event.Event.{Event}
use Rattle.ring_rules.specs.declared.event.Event.TheVariants.{Refuse}
use Rattle.ring_script.specs.declared.vocabulary.Further.{Further}
use Rattle.ring_script.specs.declared.vocabulary.Further.TheVariants as further
use Rattle.ring_script.specs.declared.vocabulary.Phrase.{Phrase}
use Rattle.ring_script.specs.declared.vocabulary.Shape.{Shape}
use Rattle.ring_script.specs.declared.vocabulary.Shape.TheVariants as shape
use Rattle.ring_script.specs.declared.vocabulary.Word.{Word}
use Rattle.ring_script.specs.Steps.{most_code}
use Rattle.ring_script.specs.Vocabulary.{word_of, shape_of, most_version, phrase, event_said, client_said}
use Rattle.ring_journal.specs.Fields.{count, text_at, name_at, body_at, number_at, position_at}

-- how many fields a phrase has: its word, the member's name, and what stands behind the name
abbrev pub fields_of : Shape → ℕ
fields_of shape.Nothing = 2
fields_of s = 3

-- what stands at a place behind the name
abbrev pub further_at : Shape → ℕ → Data → Option Further
further_at shape.Nothing place d = Some further.Nothing
further_at shape.Body place d = option_map further.Body (body_at place d)
further_at shape.Name place d = option_map further.Name (name_at place d)
further_at shape.Newcomer place d = option_map further.Name (name_at place d)
further_at shape.Position place d = option_map further.Position (position_at place d)
further_at shape.Version place d = option_map further.Version (number_at most_version place d)

-- the phrase that a word of this shape begins at a place, where no field stands behind it
abbrev pub phrase_by : ℕ → Data → Word → Shape → Option Phrase
phrase_by place d w s =
    if count d == place + fields_of s then option_and_then (λ by. option_map (phrase w by) (further_at s (place + 2) d)) (name_at (place + 1) d) else None

-- the phrase that begins at a place
abbrev pub phrase_at : ℕ → Data → Option Phrase
phrase_at place d = option_and_then (λ w. phrase_by place d w (shape_of w)) (option_and_then word_of (text_at place d))

-- a refusal: behind its word stand its number, and the phrase of what a client asked for
abbrev pub refusal_in : Data → Option Event
refusal_in d = option_and_then (λ code. option_map (Refuse code) (option_and_then client_said (phrase_at 2 d))) (number_at most_code 1 d)

-- the event that a value with this word is
abbrev pub event_by : Data → List ℕ → Option Event
event_by d word = if bytes_eq word (codes "refuse") then refusal_in d else option_and_then event_said (phrase_at 0 d)

-- the event that a value is, if it is one: its first field is the word
abbrev pub event_in : Data → Option Event
event_in d = option_and_then (event_by d) (text_at 0 d)
