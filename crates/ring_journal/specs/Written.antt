-- The text of a journal.
use Rattle.std.specs.Prelude.{◌≤◌, ℕ, List, [], ◌∷◌, ◌++◌, map, codes, ⊤}
use Rattle.ring_names.specs.declared.numbers.CreditSpec.{CreditSpec}
use Rattle.ring_rules.specs.declared.event.Event.{Event}
use Rattle.ring_rules.specs.declared.event.Event.TheVariants.{Refuse}
use Rattle.ring_script.specs.declared.vocabulary.Further.{Further}
use Rattle.ring_script.specs.declared.vocabulary.Further.TheVariants as further
use Rattle.ring_script.specs.declared.vocabulary.Phrase.{Phrase}
use Rattle.ring_script.specs.Steps.{most_code}
use Rattle.ring_script.specs.Vocabulary.{text_of, most_version, phrase_of, IsNameable}
use Rattle.serde_json.specs.Data.{Data, string, number, unsigned, array, object, no_members, member}
use Rattle.serde_json.specs.View.{items_of}
use Rattle.serde_json.specs.Written.{compact_text}

-- an array of these
abbrev pub fields : List Data → Data
fields ds = array (items_of ds)

-- a whole number
abbrev pub whole : ℕ → Data
whole n = number (unsigned n)

-- what stands behind the member's name
abbrev pub further_fields : Further → List Data
further_fields further.Nothing = []
further_fields (further.Body body) = string body ∷ []
further_fields (further.Name name) = string name ∷ []
further_fields (further.Position at) = whole at.0 ∷ []
further_fields (further.Version version) = whole version ∷ []

-- a phrase: its word, the member's name, and what stands behind the name
abbrev pub phrase_fields : Phrase → List Data
phrase_fields p = string (text_of p.word) ∷ string p.by ∷ further_fields p.further

-- what stands in front of an event's phrase: of a refusal its word and its number
abbrev pub front_of : Event → List Data
front_of (Refuse code inner) = string (codes "refuse") ∷ whole code ∷ []
front_of e = []

-- the value of an event: an array of these
abbrev pub data_of : Event → Data
data_of e = fields (front_of e ++ phrase_fields (phrase_of e))

-- the value of the first line
abbrev pub header_data : List (List ℕ) → CreditSpec → Data
header_data members credit = object (
    member (codes "credit") (fields (whole credit.initial ∷ whole credit.more ∷ []))
    (member (codes "members") (fields (map string members))
    (member (codes "v") (whole 1) no_members)))

-- the lines of these events, each with its line feed
abbrev pub events_text : List Event → List ℕ
events_text [] = []
events_text (e ∷ es) = compact_text (data_of e) ++ 10 ∷ events_text es

-- the whole journal
abbrev pub journal_text : List (List ℕ) → CreditSpec → List Event → List ℕ
journal_text members credit events = compact_text (header_data members credit) ++ 10 ∷ events_text events

-- a number behind a name is within its limit: a position, or a version
abbrev pub IsFitNumber : Further → Type 0
IsFitNumber (further.Position at) = IsNameable at
IsFitNumber (further.Version version) = (1 ≤ version) × (version ≤ most_version)
IsFitNumber f = ⊤

-- the number of a refusal is within its limit
abbrev pub HasFitCode : Event → Type 0
HasFitCode (Refuse code inner) = (1 ≤ code) × (code ≤ most_code)
HasFitCode e = ⊤

-- the numbers of an event are within the limits of a journal: the number of its refusal, its position, and its version
abbrev pub IsWithin : Event → Type 0
IsWithin e = HasFitCode e × IsFitNumber (phrase_of e).further
