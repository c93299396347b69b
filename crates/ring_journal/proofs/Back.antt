-- What is written is read back: each line, and the whole journal.
use Rattle.std.proofs.Common.{◌≡◌, ℕ, ◌+◌, true, false, ◌==◌, List, [], ◌∷◌, ◌++◌, codes, Ok, refl, ap, ◌∙◌, arith}
use Rattle.std.specs.List.{list_all}
use Rattle.std.proofs.lemmas.Bool.{and_parts}
use Rattle.std.proofs.lemmas.Bool.Decides.{nat_tests}
use Rattle.ring_rules.specs.declared.event.Event.{Event}
use Rattle.ring_rules.specs.declared.event.Event.TheVariants.{Refuse}
use Rattle.ring_world.specs.Reached.{WorldSeen, with_copies}
use Rattle.ring_copies.specs.Runs.{refusal}
use Rattle.serde_json.specs.Data.{Data, string, no_items}
use Rattle.serde_json.specs.View.{items_of}
use Rattle.serde_json.specs.Written.{compact_text}
use Rattle.ring_script.specs.declared.vocabulary.Further.{Further}
use Rattle.ring_script.specs.declared.vocabulary.Further.TheVariants as further
use Rattle.ring_script.specs.declared.vocabulary.Phrase.{Phrase}
use Rattle.ring_script.specs.Vocabulary.{text_of, asked_phrase, phrase_of}
use Rattle.ring_script.specs.Words.{is_text_byte, lines_of}
use Rattle.ring_journal.specs.Text.{value_on, event_on, event_or_fault, said_by, judged, behind, unless_wrong, unless_refused}
use Rattle.ring_journal.specs.Event.{event_in}
use Rattle.ring_journal.specs.Written.{whole, further_fields, phrase_fields, data_of, events_text}
use Rattle.ring_journal.specs.Played.{played, IsWritableFurther, IsWritable}
use Rattle.ring_journal.proofs.Ascii.{IsUtf8-text}
use Rattle.ring_journal.proofs.Lines.{value_on-read}
use Rattle.ring_journal.proofs.ReadBack.{AreSaid, IsSpelled, read-compact_text, said-string, said-whole, said-nil, said-cons, said-array, spelled_from}
use Rattle.ring_journal.proofs.EventBack.{event_in-data_of}
use Rattle.ring_journal.proofs.Sized.{Fits, text-data_of}

-- ---- lines

text_no_feed : (b : ℕ) → is_text_byte b ≡ true → (b == 10) ≡ false
text_no_feed b h = grind (arith, nat_tests)

-- a text that a line feed follows is the first line
pub lines_of-line : (s rest : List ℕ) → list_all is_text_byte s ≡ true → lines_of (s ++ 10 ∷ rest) ≡ s ∷ lines_of rest
lines_of-line [] rest h = refl
lines_of-line (b ∷ s) rest h =
    let both = and_parts (is_text_byte b) (list_all is_text_byte s) h in
    rw (text_no_feed b both.0, lines_of-line s rest both.1) refl

-- a value that fits is what its line says
pub value_on-compact_text : (d : Data) → Fits 2000 d → IsSpelled d → value_on (compact_text d) ≡ Ok d
value_on-compact_text d fits spelled = value_on-read (compact_text d) d fits.text.few (IsUtf8-text (compact_text d) fits.text.text) (read-compact_text d spelled)

-- ---- events

said_further : (f : Further) → IsWritableFurther f → AreSaid 0 (items_of (further_fields f))
said_further further.Nothing h = said-nil
said_further (further.Body body) h = said-cons 0 (string body) no_items (said-string body) said-nil
said_further (further.Name name) h = said-cons 0 (string name) no_items (said-string name) said-nil
said_further (further.Position at) h = said-cons 0 (whole at.0) no_items (said-whole at.0 (omega (arith, h.1))) said-nil
said_further (further.Version version) h = said-cons 0 (whole version) no_items (said-whole version (omega (arith, h.1))) said-nil

said_phrase : (p : Phrase) → IsWritableFurther p.further → AreSaid 0 (items_of (phrase_fields p))
said_phrase p h = said-cons 0 (string (text_of p.word)) _ (said-string (text_of p.word)) (said-cons 0 (string p.by) _ (said-string p.by) (said_further p.further h))

spelled-data_of : (e : Event) → IsWritable e → IsSpelled (data_of e)
spelled-data_of (Refuse code inner) h =
    spelled_from 1 _ (omega arith) (said-array 0 _ (said-cons 0 (string (codes "refuse")) _ (said-string (codes "refuse")) (said-cons 0 (whole code) _ (said-whole code (omega (arith, h.0.1))) (said_phrase (asked_phrase inner) h.2))))
spelled-data_of e h = spelled_from 1 _ (omega arith) (said-array 0 _ (said_phrase (phrase_of e) h.2))

-- the line of an event says the event
pub event_on-line : (e : Event) → IsWritable e → event_on (compact_text (data_of e)) ≡ Ok e
event_on-line e h =
    ap (said_by (λ d. event_or_fault (event_in d))) (value_on-compact_text (data_of e) (text-data_of e h) (spelled-data_of e h))
    ∙ ap event_or_fault (event_in-data_of e h)

-- ---- the lines of events

abbrev pub AreWritable : List Event → Type 0
AreWritable [] = Unit {0}
AreWritable (e ∷ es) = IsWritable e × AreWritable es

pub judged-events_text : (w : WorldSeen) (done : List Event) (number : ℕ) (es : List Event) → AreWritable es → judged w done number (lines_of (events_text es)) ≡ played w done number es
judged-events_text w done number [] h = refl
judged-events_text w done number (e ∷ es) h =
    ap (judged w done number) (lines_of-line (compact_text (data_of e)) (events_text es) (text-data_of e h.0).text.text)
    ∙ ap (λ r. unless_wrong w number r (λ f. judged (behind w f) (done ++ f ∷ []) (number + 1) (lines_of (events_text es)))) (event_on-line e h.0)
    ∙ ap (unless_refused number (refusal (with_copies w) e)) (judged-events_text (behind w e) (done ++ e ∷ []) (number + 1) es h.1)
