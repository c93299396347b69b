-- The words of the ring's texts: how each is written, what stands behind the member's name, and what a phrase tells.
use Rattle.std.specs.Prelude.{◌≤◌, ℕ, Option, Some, None, option_and_then, List, [], ◌∷◌, find, codes, bytes_eq, ⊤}
use Rattle.ring_names.specs.declared.numbers.Position.{Position}
use Rattle.ring_rules.specs.declared.event.Client.{Client}
use Rattle.ring_rules.specs.declared.event.Client.TheVariants as client
use Rattle.ring_rules.specs.declared.event.Event.{Event}
use Rattle.ring_rules.specs.declared.event.Event.TheVariants as event
use Rattle.ring_script.specs.declared.vocabulary.Further.{Further}
use Rattle.ring_script.specs.declared.vocabulary.Further.TheVariants as further
use Rattle.ring_script.specs.declared.vocabulary.Phrase.{Phrase}
use Rattle.ring_script.specs.declared.vocabulary.Shape.{Shape}
use Rattle.ring_script.specs.declared.vocabulary.Shape.TheVariants as shape
use Rattle.ring_script.specs.declared.vocabulary.Word.{Word}
use Rattle.ring_script.specs.declared.vocabulary.Word.TheVariants as word

-- ---- the table

-- a word as it is written
abbrev pub text_of : Word → List ℕ
text_of word.Cast = codes "cast"
text_of word.Publish = codes "publish"
text_of word.Get = codes "get"
text_of word.Pop = codes "pop"
text_of word.Ack = codes "ack"
text_of word.Requeue = codes "requeue"
text_of word.Depth = codes "depth"
text_of word.Start = codes "start"
text_of word.Sync = codes "sync"
text_of word.Put = codes "put"
text_of word.Take = codes "take"
text_of word.TakeEnd = codes "takeend"
text_of word.Gain = codes "gain"
text_of word.Stop = codes "stop"
text_of word.Mark = codes "mark"
text_of word.Refresh = codes "refresh"
text_of word.Admit = codes "admit"
text_of word.Pick = codes "pick"
text_of word.Erase = codes "erase"
text_of word.Synced = codes "synced"
text_of word.SyncPut = codes "syncput"
text_of word.SyncTake = codes "synctake"
text_of word.SyncGain = codes "syncgain"

-- all of them
abbrev pub all_words : List Word
all_words =
    word.Cast ∷ word.Publish ∷ word.Get ∷ word.Pop ∷ word.Ack ∷ word.Requeue ∷ word.Depth ∷ word.Start ∷ word.Sync ∷ word.Put ∷ word.Take ∷ word.TakeEnd
    ∷ word.Gain ∷ word.Stop ∷ word.Mark ∷ word.Refresh ∷ word.Admit ∷ word.Pick ∷ word.Erase ∷ word.Synced ∷ word.SyncPut ∷ word.SyncTake ∷ word.SyncGain ∷ []

-- the word that is written so
abbrev pub word_of : List ℕ → Option Word
word_of text = find (λ w. bytes_eq text (text_of w)) all_words

-- what stands behind the member's name
abbrev pub shape_of : Word → Shape
shape_of word.Cast = shape.Body
shape_of word.Publish = shape.Body
shape_of word.Ack = shape.Position
shape_of word.Requeue = shape.Position
shape_of word.Sync = shape.Name
shape_of word.Mark = shape.Name
shape_of word.Erase = shape.Name
shape_of word.Admit = shape.Newcomer
shape_of word.Refresh = shape.Version
shape_of w = shape.Nothing

-- the greatest position that a line can name
abbrev pub most_position : ℕ
most_position = 1000000

-- the greatest version that a line can name
abbrev pub most_version : ℕ
most_version = 1000000

-- the greatest number of a refusal that a line can name
abbrev pub most_code : ℕ
most_code = 99

-- ---- phrases

-- a word, the member's name, and what stands behind it
abbrev pub phrase : Word → List ℕ → Further → Phrase
phrase w by f = record { word = w; by = by; further = f }

-- the phrase of what a client asks
abbrev pub asked_phrase : Client → Phrase
asked_phrase (client.Cast by body) = phrase word.Cast by (further.Body body)
asked_phrase (client.Publish by body) = phrase word.Publish by (further.Body body)
asked_phrase (client.Get by) = phrase word.Get by further.Nothing
asked_phrase (client.Pop by) = phrase word.Pop by further.Nothing
asked_phrase (client.Ack by at) = phrase word.Ack by (further.Position at)
asked_phrase (client.Requeue by at) = phrase word.Requeue by (further.Position at)
asked_phrase (client.Sync by target) = phrase word.Sync by (further.Name target)
asked_phrase (client.Stop by) = phrase word.Stop by further.Nothing
asked_phrase (client.Admit by name) = phrase word.Admit by (further.Name name)

-- the phrase of an event; of a refusal that of what was asked
abbrev pub phrase_of : Event → Phrase
phrase_of (event.Cast by body) = phrase word.Cast by (further.Body body)
phrase_of (event.Publish by body) = phrase word.Publish by (further.Body body)
phrase_of (event.Get by) = phrase word.Get by further.Nothing
phrase_of (event.Pop by) = phrase word.Pop by further.Nothing
phrase_of (event.Ack by at) = phrase word.Ack by (further.Position at)
phrase_of (event.Requeue by at) = phrase word.Requeue by (further.Position at)
phrase_of (event.Depth by) = phrase word.Depth by further.Nothing
phrase_of (event.Start by) = phrase word.Start by further.Nothing
phrase_of (event.Sync by target) = phrase word.Sync by (further.Name target)
phrase_of (event.Put by) = phrase word.Put by further.Nothing
phrase_of (event.Take by) = phrase word.Take by further.Nothing
phrase_of (event.TakeEnd by) = phrase word.TakeEnd by further.Nothing
phrase_of (event.Gain by) = phrase word.Gain by further.Nothing
phrase_of (event.Stop by) = phrase word.Stop by further.Nothing
phrase_of (event.Mark by dead) = phrase word.Mark by (further.Name dead)
phrase_of (event.Refresh by version) = phrase word.Refresh by (further.Version version)
phrase_of (event.Admit by name) = phrase word.Admit by (further.Name name)
phrase_of (event.Pick by) = phrase word.Pick by further.Nothing
phrase_of (event.Erase by origin) = phrase word.Erase by (further.Name origin)
phrase_of (event.Synced by) = phrase word.Synced by further.Nothing
phrase_of (event.SyncPut by) = phrase word.SyncPut by further.Nothing
phrase_of (event.SyncTake by) = phrase word.SyncTake by further.Nothing
phrase_of (event.SyncGain by) = phrase word.SyncGain by further.Nothing
phrase_of (event.Refuse code inner) = asked_phrase inner

-- the event of a word and a name alone
abbrev pub event_alone : Word → List ℕ → Option Event
event_alone word.Get by = Some (event.Get by)
event_alone word.Pop by = Some (event.Pop by)
event_alone word.Depth by = Some (event.Depth by)
event_alone word.Start by = Some (event.Start by)
event_alone word.Put by = Some (event.Put by)
event_alone word.Take by = Some (event.Take by)
event_alone word.TakeEnd by = Some (event.TakeEnd by)
event_alone word.Gain by = Some (event.Gain by)
event_alone word.Stop by = Some (event.Stop by)
event_alone word.Pick by = Some (event.Pick by)
event_alone word.Synced by = Some (event.Synced by)
event_alone word.SyncPut by = Some (event.SyncPut by)
event_alone word.SyncTake by = Some (event.SyncTake by)
event_alone word.SyncGain by = Some (event.SyncGain by)
event_alone w by = None

-- with a body
abbrev pub event_of_body : Word → List ℕ → List ℕ → Option Event
event_of_body word.Cast by body = Some (event.Cast by body)
event_of_body word.Publish by body = Some (event.Publish by body)
event_of_body w by body = None

-- with a further name
abbrev pub event_of_name : Word → List ℕ → List ℕ → Option Event
event_of_name word.Sync by target = Some (event.Sync by target)
event_of_name word.Mark by dead = Some (event.Mark by dead)
event_of_name word.Erase by origin = Some (event.Erase by origin)
event_of_name word.Admit by name = Some (event.Admit by name)
event_of_name w by name = None

-- with a position
abbrev pub event_of_position : Word → List ℕ → Position → Option Event
event_of_position word.Ack by at = Some (event.Ack by at)
event_of_position word.Requeue by at = Some (event.Requeue by at)
event_of_position w by at = None

-- with a version
abbrev pub event_of_version : Word → List ℕ → ℕ → Option Event
event_of_version word.Refresh by version = Some (event.Refresh by version)
event_of_version w by version = None

-- the event of a word, the member's name, and what stands behind it
abbrev pub event_with : Word → List ℕ → Further → Option Event
event_with w by further.Nothing = event_alone w by
event_with w by (further.Body body) = event_of_body w by body
event_with w by (further.Name name) = event_of_name w by name
event_with w by (further.Position at) = event_of_position w by at
event_with w by (further.Version version) = event_of_version w by version

-- the event that a phrase tells, where its word has what stands behind the name
abbrev pub event_said : Phrase → Option Event
event_said p = event_with p.word p.by p.further

-- what a client asks by an event, where clients ask for it
abbrev pub asked_by : Event → Option Client
asked_by (event.Cast by body) = Some (client.Cast by body)
asked_by (event.Publish by body) = Some (client.Publish by body)
asked_by (event.Get by) = Some (client.Get by)
asked_by (event.Pop by) = Some (client.Pop by)
asked_by (event.Ack by at) = Some (client.Ack by at)
asked_by (event.Requeue by at) = Some (client.Requeue by at)
asked_by (event.Sync by target) = Some (client.Sync by target)
asked_by (event.Stop by) = Some (client.Stop by)
asked_by (event.Admit by name) = Some (client.Admit by name)
asked_by e = None

-- what a phrase asks as a client's
abbrev pub client_said : Phrase → Option Client
client_said p = option_and_then asked_by (event_said p)

-- ---- positions

-- a position that a line can name
abbrev pub IsNameable : Position → Type 0
IsNameable at = (1 ≤ at.0) × (at.0 ≤ most_position)

-- a position behind a name is one
abbrev pub IsFitPosition : Further → Type 0
IsFitPosition (further.Position at) = IsNameable at
IsFitPosition f = ⊤

-- the position that an event names is one
abbrev pub HasNameablePositions : Event → Type 0
HasNameablePositions e = IsFitPosition (phrase_of e).further
