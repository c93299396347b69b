-- What a line of a step file says behind the opening ones, and what is wrong with it. Its names need only be names: who
-- plays the event says whether they are the ring's.
use Rattle.std.specs.Prelude.{ℕ, Bool, true, false, if◌then◌else◌, Option, Some, None, unwrap_or, option_and_then, List, [], ◌∷◌, codes, bytes_eq}
use Rattle.ring_rules.specs.declared.event.Client.{Client}
use Rattle.ring_rules.specs.declared.event.Client.TheVariants as client
use Rattle.ring_rules.specs.declared.event.Event.{Event}
use Rattle.ring_rules.specs.declared.event.Event.TheVariants as event
use Rattle.ring_script.specs.declared.fault.Kind.{Kind}
use Rattle.ring_script.specs.declared.fault.Kind.TheVariants.{UnknownCommand, MissingWord}
use Rattle.ring_script.specs.declared.vocabulary.Word.{Word}
use Rattle.ring_script.specs.declared.vocabulary.Word.TheVariants as word
use Rattle.ring_script.specs.Words.{words_of, behind_word, number_of}
use Rattle.ring_script.specs.Line.{Grammar, operand_in, second_in, name_fault}
use Rattle.ring_script.specs.Vocabulary.{word_of, shape_of, event_said, client_said}
pub use Rattle.ring_script.specs.Vocabulary.{most_code}
use Rattle.ring_script.specs.Phrase.{refused_name_fault, phrase_fault, phrase_in}

-- step files have the words of what members do; they don't copy a queue yet
abbrev pub is_step : Word → Bool
is_step word.Sync = false
is_step word.SyncPut = false
is_step word.SyncTake = false
is_step word.SyncGain = false
is_step w = true

-- the word that a text is, if step files have it
abbrev pub step_word : List ℕ → Option Word
step_word text = option_and_then (λ w. if is_step w then Some w else None) (word_of text)

-- behind `refuse` they have those that clients ask for
abbrev pub is_asked_step : Word → Bool
is_asked_step word.Cast = true
is_asked_step word.Publish = true
is_asked_step word.Get = true
is_asked_step word.Pop = true
is_asked_step word.Ack = true
is_asked_step word.Requeue = true
is_asked_step word.Stop = true
is_asked_step word.Admit = true
is_asked_step w = false

-- the word that a text is, if clients ask for it
abbrev pub asked_word : List ℕ → Option Word
asked_word text = option_and_then (λ w. if is_asked_step w then Some w else None) (word_of text)

-- what is wrong with an event, by its word and its rest
abbrev pub event_fault : Option Word → List ℕ → Option Kind
event_fault (Some w) rest = phrase_fault name_fault name_fault (shape_of w) rest
event_fault None rest = Some UnknownCommand

-- with what a client asked, by its word and its rest; its name is judged behind this word, the number of a refusal
abbrev pub client_fault : List ℕ → Option Word → List ℕ → Option Kind
client_fault code (Some w) rest = phrase_fault (refused_name_fault code) name_fault (shape_of w) rest
client_fault code None rest = Some UnknownCommand

-- `refuse` has a number, and what a client asked
abbrev pub refuse_fault : List ℕ → List (List ℕ) → Option Kind
refuse_fault rest [] = Some MissingWord
refuse_fault rest (code ∷ []) = Some MissingWord
refuse_fault rest (code ∷ asked ∷ words) = client_fault code (asked_word asked) (behind_word (behind_word rest))

-- what is wrong with a line, by its first word and its rest: `refuse`, or the word of an event
abbrev pub step_fault : List ℕ → List ℕ → Option Kind
step_fault text rest = if bytes_eq text (codes "refuse") then refuse_fault rest (words_of rest) else event_fault (step_word text) rest

-- no line asks whether a name is known, and none makes one known
abbrev pub step_grammar : Grammar
step_grammar = record { fault = λ known text rest. step_fault text rest; joins = λ text rest. [] }

-- the event that a line tells, by its word and its rest
abbrev pub event_by : Option Word → List ℕ → Event
event_by w rest = unwrap_or (option_and_then (λ w. event_said (phrase_in w rest)) w) (event.Put (operand_in rest))

-- what a client asked, by its word and its rest
abbrev pub client_by : Option Word → List ℕ → Client
client_by w rest = unwrap_or (option_and_then (λ w. client_said (phrase_in w rest)) w) (client.Stop (operand_in rest))

-- its refusal with the number that a word writes
abbrev pub refused_by : List ℕ → Option Word → List ℕ → Event
refused_by code w rest = event.Refuse (unwrap_or (number_of most_code code) 0) (client_by w rest)

-- the refusal that a line tells behind `refuse`
abbrev pub refusal_in : List ℕ → Event
refusal_in rest = refused_by (operand_in rest) (asked_word (second_in rest)) (behind_word (behind_word rest))

-- the event that a line tells, by its first word and its rest
abbrev pub event_of : List ℕ → List ℕ → Event
event_of text rest = if bytes_eq text (codes "refuse") then refusal_in rest else event_by (step_word text) rest
