-- The events of a step file name positions that a line can name.
use Rattle.std.proofs.Common.{◌≡◌, ℕ, ◌++◌, ◌∷◌, [], Bool, true, false, List, Option, Some, None, get_or, refl, sym, ap, subst, if◌then◌else◌, codes, bytes_eq}
use Rattle.std.proofs.lemmas.List.Elements.{All-nil, All-push}
use Rattle.ring_rules.specs.declared.event.Event.{Event}
use Rattle.ring_script.specs.declared.fault.Kind.{Kind}
use Rattle.ring_script.specs.declared.line.Head.{Head}
use Rattle.ring_script.specs.declared.line.Head.TheVariants as head
use Rattle.ring_script.specs.declared.text.Text.{Text}
use Rattle.ring_script.specs.declared.vocabulary.Shape.{Shape}
use Rattle.ring_script.specs.declared.vocabulary.Shape.TheVariants as shape
use Rattle.ring_script.specs.declared.vocabulary.Word.{Word}
use Rattle.ring_script.specs.declared.vocabulary.Word.TheVariants as word
use Rattle.ring_script.specs.Words.{words_of, first_word, behind_word}
use Rattle.ring_script.specs.Line.{second_in, head_in, name_fault, number_fault}
use Rattle.ring_script.specs.Vocabulary.{shape_of, most_position, asked_phrase, IsFitPosition, HasNameablePositions}
use Rattle.ring_script.specs.Phrase.{refused_name_fault, phrase_fault, further_in}
use Rattle.ring_script.specs.Steps.{step_word, asked_word, event_fault, client_fault, refuse_fault, step_fault, step_grammar, event_by, client_by, refusal_in, event_of}
use Rattle.ring_script.specs.Reading.{statements_of, AreStepsOf, HaveNameablePositions}
use Rattle.ring_script.proofs.Numbers.{number_fits}
use Rattle.ring_script.proofs.Phrases.{two_right}
use Rattle.ring_script.proofs.Taking.{fault_as, said_on, members_taken, credit_taken, statement_taken}
use Rattle.ring_script.proofs.Fitting.{text_fits}

-- ---- a line

-- what stands behind the name in a right phrase
fits : (by newcomer : List ℕ → Option Kind) (s : Shape) (rest : List ℕ) → phrase_fault by newcomer s rest ≡ None → IsFitPosition (further_in s rest)
fits by newcomer shape.Position rest e = number_fits most_position (second_in rest) (two_right by (number_fault most_position) (words_of rest) e).1
fits by newcomer s rest e = tt

-- an event names that
said_names : (w : Word) (rest : List ℕ) → IsFitPosition (further_in (shape_of w) rest) → HasNameablePositions (event_by (Some w) rest)
said_names word.Ack rest h = h
said_names word.Requeue rest h = h
said_names w rest h = tt

by_word : (o : Option Word) (rest : List ℕ) → event_fault o rest ≡ None → HasNameablePositions (event_by o rest)
by_word None rest e = tt
by_word (Some w) rest e = said_names w rest (fits name_fault name_fault (shape_of w) rest e)

-- and so does what a client asked
asked_names : (w : Word) (rest : List ℕ) → IsFitPosition (further_in (shape_of w) rest) → IsFitPosition (asked_phrase (client_by (Some w) rest)).further
asked_names word.Ack rest h = h
asked_names word.Requeue rest h = h
asked_names w rest h = tt

by_asked : (code : List ℕ) (o : Option Word) (rest : List ℕ) → client_fault code o rest ≡ None → IsFitPosition (asked_phrase (client_by o rest)).further
by_asked code None rest e = tt
by_asked code (Some w) rest e = asked_names w rest (fits (refused_name_fault code) name_fault (shape_of w) rest e)

by_words : (rest : List ℕ) (words : List (List ℕ)) → words_of rest ≡ words → refuse_fault rest words ≡ None → HasNameablePositions (refusal_in rest)
by_words rest [] is e = cc
by_words rest (code ∷ []) is e = cc
by_words rest (code ∷ asked ∷ words) is e =
    let behind : List ℕ = behind_word (behind_word rest) in
    subst (λ o. IsFitPosition (asked_phrase (client_by o behind)).further) (ap (λ ws. asked_word (get_or ws 1 [])) (sym is)) (by_asked code (asked_word asked) behind e)

by_test : (text rest : List ℕ) (b : Bool) → (if b then refuse_fault rest (words_of rest) else event_fault (step_word text) rest) ≡ None
    → HasNameablePositions (if b then refusal_in rest else event_by (step_word text) rest)
by_test text rest true e = by_words rest (words_of rest) refl e
by_test text rest false e = by_word (step_word text) rest e

step_names : (text rest : List ℕ) → step_fault text rest ≡ None → HasNameablePositions (event_of text rest)
step_names text rest e = by_test text rest (bytes_eq text (codes "refuse")) e

-- ---- all lines

-- the events of used lines do
abbrev AreNameable : List (ℕ × List ℕ) → Type 0
AreNameable used = HaveNameablePositions (statements_of event_of used)

names_by : (used : List (ℕ × List ℕ)) (number : ℕ) (line : List ℕ) → AreNameable used → fault_as step_grammar used line (head_in line) ≡ None → (h : Head) → head_in line ≡ h
    → AreNameable (used ++ (number, line) ∷ [])
names_by used number line all e head.Members k =
    let adds = members_taken step_grammar event_of used number line k e in
    subst HaveNameablePositions (sym adds.lines) (All-nil (λ (l : ℕ × Event). HasNameablePositions l.1))
names_by used number line all e head.Credit k =
    let adds = credit_taken step_grammar event_of used number line k e in
    subst HaveNameablePositions (sym adds.lines) all
names_by used number line all e head.Statement k =
    let adds = statement_taken step_grammar event_of used number line k e in
    subst HaveNameablePositions (sym adds.lines)
    (All-push (λ (l : ℕ × Event). HasNameablePositions l.1) (statements_of event_of used) (said_on event_of (number, line)) all (step_names (first_word line) (behind_word line) adds.right.1))

-- those of a step file do
pub steps_nameable : (bytes : List ℕ) (steps : Text Event) → AreStepsOf bytes steps → HaveNameablePositions steps.lines
steps_nameable bytes steps h =
    subst HaveNameablePositions (sym h.lines)
    (text_fits step_grammar AreNameable (All-nil (λ (l : ℕ × Event). HasNameablePositions l.1)) (λ used number line all text e. names_by used number line all e (head_in line) refl) bytes h.right)
