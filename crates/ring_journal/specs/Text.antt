-- What a journal is, as text: its lines, and the first fault in it.
use Rattle.std.specs.Prelude.{◌≡◌, ℕ, ◌+◌, ◌++◌, nat_lt, if◌then◌else◌, Option, Some, None, Result, Ok, Err, List, [], ◌∷◌, length}
use Rattle.std.specs.Str.{is_utf8}
use Rattle.ring_names.specs.declared.reason.Reason.{Reason}
use Rattle.ring_rules.specs.declared.event.Event.{Event}
use Rattle.ring_world.specs.Reached.{WorldSeen, with_copies}
use Rattle.ring_rules.specs.Event.{refusals_of}
use Rattle.ring_copies.specs.Copies.{CopyWorld}
use Rattle.ring_copies.specs.Runs.{refusal, effect}
use Rattle.ring_rules.specs.Step.{opening}
use Rattle.ring_script.specs.Words.{lines_of}
use Rattle.ring_script.specs.Line.{most_line_bytes}
use Rattle.serde_json.specs.Data.{Data}
use Rattle.serde_json.specs.Read.{read}
use Rattle.ring_journal.specs.declared.fault.Kind.{Kind}
use Rattle.ring_journal.specs.declared.fault.Kind.TheVariants.{NotJson, NotAnEvent, BadHeader, LineTooLong}
use Rattle.ring_names.specs.declared.numbers.CreditSpec.{CreditSpec}
use Rattle.ring_journal.specs.declared.verdict.Verdict.{Verdict}
use Rattle.ring_journal.specs.declared.verdict.Verdict.TheVariants.{Legal, Illegal, Unreadable}
use Rattle.ring_journal.specs.Fault.{code_of}
use Rattle.ring_journal.specs.Event.{event_in}
use Rattle.ring_journal.specs.Header.{Opening, header_in}

-- ---- one line

-- the value that a line is, where it is JSON
abbrev pub value_of : List ℕ → Option Data
value_of line = if is_utf8 line then read line else None

-- or that it is no JSON
abbrev pub value_or_fault : Option Data → Result Data Kind
value_or_fault None = Err NotJson
value_or_fault (Some d) = Ok d

-- the value of a line, or what is wrong with its text
abbrev pub value_on : List ℕ → Result Data Kind
value_on line = if nat_lt most_line_bytes (length line) then Err LineTooLong else value_or_fault (value_of line)

-- what a line says, by what its value says
abbrev pub said_by : {A : Type 0} → (Data → Result A Kind) → Result Data Kind → Result A Kind
said_by says (Err kind) = Err kind
said_by says (Ok d) = says d

-- the event that a value is, or that it is none
abbrev pub event_or_fault : Option Event → Result Event Kind
event_or_fault None = Err NotAnEvent
event_or_fault (Some e) = Ok e

-- the event that a line says
abbrev pub event_on : List ℕ → Result Event Kind
event_on line = said_by (λ d. event_or_fault (event_in d)) (value_on line)

-- the opening that a line says
abbrev pub header_on : List ℕ → Result Opening Kind
header_on line = said_by header_in (value_on line)

-- ---- all lines

-- a world of which this is seen
abbrev pub seen_as : CopyWorld → List Event → WorldSeen
seen_as W refusals = record { ring = W.ring; copies = W.copies; refusals = refusals }

-- what is seen of a world behind an event
abbrev pub behind : WorldSeen → Event → WorldSeen
behind w e = seen_as (effect (with_copies w) e) (w.refusals ++ refusals_of (e ∷ []))

-- an event on the line of this number happens where it is enabled
abbrev pub unless_refused : ℕ → Option Reason → Verdict → Verdict
unless_refused number None later = later
unless_refused number (Some reason) later = Illegal number reason

-- what the line of this number says is judged, and then what stands behind it
abbrev pub unless_wrong : WorldSeen → ℕ → Result Event Kind → (Event → Verdict) → Verdict
unless_wrong w number (Err kind) later = Unreadable number (code_of kind)
unless_wrong w number (Ok e) later = unless_refused number (refusal (with_copies w) e) (later e)

-- the lines from this number on, behind these events: each is judged for its text, then for its event, before the next
abbrev pub judged : WorldSeen → List Event → ℕ → List (List ℕ) → Verdict
judged w events number [] = Legal w events
judged w events number (line ∷ lines) = unless_wrong w number (event_on line) (λ e. judged (behind w e) (events ++ e ∷ []) (number + 1) lines)

-- what is seen of the opening
abbrev pub opened : CreditSpec → List (List ℕ) → WorldSeen
opened credit names = record { ring = opening credit names; copies = []; refusals = [] }

-- the verdict on all lines behind the first, which says this: the opening is that of the credit of its two numbers
abbrev pub JudgedBehind : Result Opening Kind → List (List ℕ) → Verdict → Type 0
JudgedBehind (Err kind) lines verdict = verdict ≡ Unreadable 1 (code_of kind)
JudgedBehind (Ok o) lines verdict =
    (credit : CreditSpec) × (credit.initial ≡ o.initial) × (credit.more ≡ o.more) × (verdict ≡ judged (opened credit o.members) [] 2 lines)

-- on all lines
abbrev pub JudgedAll : List (List ℕ) → Verdict → Type 0
JudgedAll [] verdict = verdict ≡ Unreadable 1 (code_of BadHeader)
JudgedAll (line ∷ lines) verdict = JudgedBehind (header_on line) lines verdict

-- what the bytes are as a journal: that of a run, or wrong on their first line that is
abbrev pub IsVerdictOf : List ℕ → Verdict → Type 0
IsVerdictOf bytes verdict = JudgedAll (lines_of bytes) verdict
