-- What the top call answers, and why.
use Rattle.std.specs.Prelude.{◌≡◌, ◌⊎◌, ℕ, ◌<◌, ◌≤◌, List, [], length, take, Option, Some, None, IfSome, ⊤}
use Rattle.ring_names.specs.declared.reason.Reason.{Reason}
use Rattle.ring_names.specs.Reason.{code_of}
use Rattle.ring_script.specs.Words.{lines_of}
use Rattle.ring_script.specs.Script.{script_grammar}
use Rattle.ring_script.specs.Steps.{step_grammar}
use Rattle.ring_script.specs.Reading.{IsRight, IsFirstFault}
use Rattle.ring_rules.specs.declared.event.Event.{Event}
use Rattle.ring_journal.specs.declared.verdict.Verdict.TheVariants as verdicts
use Rattle.ring_journal.specs.Text.{IsVerdictOf}
use Rattle.ring_cluster.specs.Seen.{Seen}
use Rattle.ring_words.specs.declared.asked.Asked.{Asked}
use Rattle.ring_words.specs.declared.asked.Asked.TheVariants.{Play, Step, Check, Load}
use Rattle.ringplay.specs.declared.cause.Cause.{Cause}
use Rattle.ringplay.specs.declared.cause.Cause.TheVariants as causes
use Rattle.ringplay.specs.declared.call.Ended.{Ended}
use Rattle.ringplay.specs.Words.{Asks, AsksNothing}
use Rattle.ringplay.specs.Cause.{line_of}
use Rattle.ringplay.specs.Performed.{WasDone}

-- ---- what is read

-- a command has an input, which the source gives: each but `load`
abbrev pub HasInput : Asked → Type 0
HasInput (Load blocks seed) = ⊥
HasInput asked = ⊤

-- what is told of the input: what the source tells, or that it is empty, where there is none
abbrev pub input_told : Asked → Option (List ℕ) → Option (List ℕ)
input_told (Load blocks seed) told = Some []
input_told asked told = told

-- how many bytes of input are taken
abbrev pub most_bytes : Asked → ℕ
most_bytes (Play kept) = 1048576
most_bytes (Step kept) = 1048576
most_bytes Check = 16777216
most_bytes (Load blocks seed) = 0

-- how many lines
abbrev pub most_lines : Asked → ℕ
most_lines (Play kept) = 20000
most_lines (Step kept) = 20000
most_lines Check = 400000
most_lines (Load blocks seed) = 0

-- an input is within the limits
abbrev pub IsWithin : Asked → List ℕ → Type 0
IsWithin asked bytes = (length bytes ≤ most_bytes asked) × (length (lines_of bytes) ≤ most_lines asked)

-- it passes one of them
abbrev pub IsTooLarge : Asked → List ℕ → Type 0
IsTooLarge asked bytes = (most_bytes asked < length bytes) ⊎ (most_lines asked < length (lines_of bytes))

-- the input is these bytes, where it is told, and they are within the limits
pub record IsInput (asked : Asked) (told : Option (List ℕ)) (bytes : List ℕ) : Type 0 where
  pub is : IfSome (input_told asked told) (λ all. bytes ≡ all)
  pub within : IsWithin asked bytes

-- the words ask for something, and this holds of that and the input
pub record IsAsked (words : List (List ℕ)) (told : Option (List ℕ)) (holds : Asked → List ℕ → Type 0) : Type 0 where
  pub asked : Asked
  pub asks : Asks words asked
  pub bytes : List ℕ
  pub input : IsInput asked told bytes
  pub so : holds asked bytes

-- the input is in the grammar of what is asked for: a script, a step file, or a journal of which every line can be read up to
-- the first whose event isn't enabled
abbrev pub IsInGrammar : Asked → List ℕ → Type 0
IsInGrammar (Play kept) bytes = IsRight script_grammar bytes
IsInGrammar (Step kept) bytes = IsRight step_grammar bytes
IsInGrammar Check bytes = (line kind : ℕ) → IsVerdictOf bytes (verdicts.Unreadable line kind) → ⊥
IsInGrammar (Load blocks seed) bytes = ⊤

-- the first fault of a script or a step file
abbrev pub IsFaulty : Asked → List ℕ → ℕ → ℕ → Type 0
IsFaulty (Play kept) bytes line kind = IsFirstFault script_grammar bytes line kind
IsFaulty (Step kept) bytes line kind = IsFirstFault step_grammar bytes line kind
IsFaulty Check bytes line kind = ⊥
IsFaulty (Load blocks seed) bytes line kind = ⊥

-- the event on this line of a journal is refused with this number
abbrev pub IsIllegal : List ℕ → ℕ → ℕ → Type 0
IsIllegal bytes line code = (reason : Reason) × IsVerdictOf bytes (verdicts.Illegal line reason) × (code ≡ code_of reason)

-- the input is refused for this cause
abbrev pub IsRefusedFor : Asked → List ℕ → Cause → Type 0
IsRefusedFor asked bytes (causes.Script line kind) = IsFaulty asked bytes line kind
IsRefusedFor asked bytes (causes.Illegal line code) = (asked ≡ Check) × IsIllegal bytes line code
IsRefusedFor asked bytes (causes.Unreadable line kind) = (asked ≡ Check) × IsVerdictOf bytes (verdicts.Unreadable line kind)
IsRefusedFor asked bytes cause = ⊥

-- ---- causes

-- the words ask for what has an input
abbrev pub AskToRead : List (List ℕ) → Type 0
AskToRead words = (asked : Asked) × Asks words asked × HasInput asked

-- the words ask for nothing, or for what has no input
abbrev pub AskToReadNothing : List (List ℕ) → Type 0
AskToReadNothing words = AsksNothing words ⊎ ((asked : Asked) × Asks words asked × (HasInput asked → ⊥))

-- the words ask for something, and what is told of the input is too large for it
abbrev pub IsAskedTooMuch : List (List ℕ) → Option (List ℕ) → Type 0
IsAskedTooMuch words told = (asked : Asked) × Asks words asked × IfSome (input_told asked told) (IsTooLarge asked)

-- the words ask for something, and the input is refused for this cause
abbrev pub IsRefused : List (List ℕ) → Option (List ℕ) → Cause → Type 0
IsRefused words told cause = IsAsked words told (λ asked bytes. IsRefusedFor asked bytes cause)

-- Why an answer has this cause where nothing was done. Want of memory alone is free. `told` is what the source tells of its
-- bytes, and `rose` says that its count of faults rose.
abbrev pub IsWhy : List (List ℕ) → Option (List ℕ) → Type 0 → Cause → Type 0
IsWhy words told rose causes.Done = ⊥
IsWhy words told rose causes.Usage = AsksNothing words
IsWhy words told rose causes.ReadFault = AskToRead words × rose
IsWhy words told rose causes.WriteFault = ⊥
IsWhy words told rose causes.OutOfMemory = ⊤
IsWhy words told rose causes.TooLarge = IsAskedTooMuch words told
IsWhy words told rose cause = IsRefused words told cause

-- then it has no journal, one line and no cluster
pub record SaysOnly (words : List (List ℕ)) (told : Option (List ℕ)) (rose : Type 0) (cause : Cause) (journal : List Event) (text : List ℕ) (cluster : Option Seen) : Type 0 where
  pub because : IsWhy words told rose cause
  pub nothing : journal ≡ []
  pub nobody : cluster ≡ None
  pub says : text ≡ line_of cause

-- What is due before anything is written: what was done, or the line that says why nothing was.
abbrev pub IsDue : List (List ℕ) → Option (List ℕ) → Type 0 → Cause → List Event → List ℕ → Option Seen → Type 0
IsDue words told rose causes.Done journal text cluster = IsAsked words told (λ asked bytes. WasDone asked bytes journal text cluster)
IsDue words told rose cause journal text cluster = SaysOnly words told rose cause journal text cluster

-- a text was written whole, for this cause, or the sink failed (`rose`) and has gained the first bytes of it
abbrev pub IsWritten : Cause → List ℕ → (List ℕ → Type 0) → Type 0 → Ended → Type 0
IsWritten cause text gains rose ended =
    ((ended.cause ≡ cause) × (ended.written ≡ length text) × gains text)
    ⊎ ((ended.cause ≡ causes.WriteFault) × rose × (ended.written < length text) × gains (take ended.written text))

-- the answer: what was due was written
pub record Answers (words : List (List ℕ)) (told : Option (List ℕ)) (read_rose : Type 0) (gains : List ℕ → Type 0) (write_rose : Type 0) (ended : Ended) : Type 0 where
  pub cause : Cause
  pub text : List ℕ
  pub due : IsDue words told read_rose cause ended.journal text ended.cluster
  pub written : IsWritten cause text gains write_rose ended

-- this cause, but for a line that can't be written, and for want of memory
abbrev pub IsUnlessFailed : Cause → Cause → Type 0
IsUnlessFailed found due = (found ≡ due) ⊎ (found ≡ causes.WriteFault) ⊎ (found ≡ causes.OutOfMemory)

-- what is answered to an input in its grammar: it is done, or a journal's event isn't enabled, or memory was wanted
abbrev pub IsComplete : Asked → Cause → Type 0
IsComplete (Play kept) cause = (cause ≡ causes.Done) ⊎ (cause ≡ causes.OutOfMemory)
IsComplete (Step kept) cause = (cause ≡ causes.Done) ⊎ (cause ≡ causes.OutOfMemory)
IsComplete (Load blocks seed) cause = (cause ≡ causes.Done) ⊎ (cause ≡ causes.OutOfMemory)
IsComplete Check cause = (cause ≡ causes.Done) ⊎ (cause ≡ causes.OutOfMemory) ⊎ ((line : ℕ) × (code : ℕ) × (cause ≡ causes.Illegal line code))
