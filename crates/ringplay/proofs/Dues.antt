-- What is due, and what the answer says of it.
use Rattle.std.proofs.Common.{◌≡◌, ◌⊎◌, ℕ, ◌<◌, ◌≤◌, ◌==◌, true, false, List, Option, Some, None, IfSome, IfOk, Result, Ok, Err, ◌↔◌, length, codes, refl, sym, ap, ap₂, subst, ◌∙◌, ⊎_elim, inl, inr, arith}
use Rattle.std.specs.List.{slice_index}
use Rattle.std.proofs.lemmas.Option.{same_Some}
use Rattle.ring_names.specs.declared.reason.Reason.{Reason}
use Rattle.ring_names.specs.Reason.{code_of}
use Rattle.ring_names.specs.declared.memory.OutOfMemory.{OutOfMemory}
use Rattle.ring_script.specs.Words.{lines_of}
use Rattle.ring_script.specs.Script.{script_grammar}
use Rattle.ring_script.specs.Steps.{step_grammar}
use Rattle.ring_script.proofs.Exact.{right_has_no_fault, first_fault_is_one}
use Rattle.ring_rules.specs.declared.event.Event.{Event}
use Rattle.ring_journal.specs.declared.verdict.Verdict.{Verdict}
use Rattle.ring_journal.specs.declared.verdict.Verdict.TheVariants as verdicts
use Rattle.ring_journal.specs.Text.{IsVerdictOf}
use Rattle.ring_journal.proofs.OneVerdict.{one_verdict}
use Rattle.ring_cluster.specs.Seen.{Seen}
use Rattle.ring_words.specs.declared.asked.Asked.{Asked}
use Rattle.ring_words.specs.declared.asked.Asked.TheVariants.{Play, Step, Check, Load}
use Rattle.ring_words.specs.Words.{IsRefused, means, named_by}
use Rattle.ringplay.specs.declared.cause.Cause.{Cause}
use Rattle.ringplay.specs.declared.cause.Cause.TheVariants as causes
use Rattle.ringplay.specs.declared.call.Due.{Due}
use Rattle.ringplay.specs.declared.call.Ended.{Ended}
use Rattle.ringplay.specs.Words.{Asks, AsksNothing}
use Rattle.ringplay.specs.Cause.{line_of}
use Rattle.ringplay.specs.Performed.{WasDone}
use Rattle.ringplay.specs.Call.{IsDue, IsWhy, SaysOnly, IsAsked, IsInput, IsWithin, IsTooLarge, IsInGrammar, IsFaulty, IsRefusedFor, IsWritten, IsUnlessFailed, IsComplete, HasInput, AskToRead, AskToReadNothing, input_told, most_bytes, most_lines}
use Rattle.ringplay.specs.Due.{IsLineDue, IsDueToInput}

-- ---- the words

-- what texts ask for, the words with these bytes ask for
pub asks_so : (texts words : List (List ℕ)) (result : Result (Option Asked) OutOfMemory) → texts ≡ words → IfOk result (λ answer. (answer ≡ None) ↔ IsRefused texts)
    → IfOk result (λ answer. IfSome answer (λ asked. named_by texts ≡ Some (means asked))) → IfOk result (λ answer. IfSome answer (Asks words))
asks_so texts words (Err e) same usage named = tt
asks_so texts words (Ok None) same usage named = tt
asks_so texts words (Ok (Some asked)) same usage named =
    subst (λ ws. Asks ws asked) same (record { taken = λ refused. (let none : Some asked ≡ None = usage.1 refused in cc); named = named })

-- ---- an input

-- where nothing was done, the line of the cause is due
only_due : (words : List (List ℕ)) (told : Option (List ℕ)) (rose : Type 0) (cause : Cause) (journal : List Event) (text : List ℕ) (cluster : Option Seen) → SaysOnly words told rose cause journal text cluster
    → IsDue words told rose cause journal text cluster
only_due words told rose causes.Done journal text cluster s = absurd s.because
only_due words told rose causes.Usage journal text cluster s = s
only_due words told rose (causes.Script line kind) journal text cluster s = s
only_due words told rose causes.ReadFault journal text cluster s = s
only_due words told rose causes.WriteFault journal text cluster s = s
only_due words told rose causes.OutOfMemory journal text cluster s = s
only_due words told rose causes.TooLarge journal text cluster s = s
only_due words told rose (causes.Illegal line code) journal text cluster s = s
only_due words told rose (causes.Unreadable line kind) journal text cluster s = s

-- a line that is due for this cause is due, where there is reason for it, or memory was wanted
pub line_is_due : (words : List (List ℕ)) (told : Option (List ℕ)) (rose : Type 0) (cause : Cause) (due : Due) → IsLineDue cause due → IsWhy words told rose cause
    → IsDue words told rose due.cause due.journal.items due.text.items due.cluster
line_is_due words told rose cause due (nothing, nobody, says) why =
    only_due words told rose due.cause due.journal.items due.text.items due.cluster
    (⊎_elim
    (λ (this : _). record { because = subst (IsWhy words told rose) (sym this.0) why; nothing = nothing; nobody = nobody; says = this.1 ∙ ap line_of (sym this.0) })
    (λ (memory : _). record { because = subst (IsWhy words told rose) (sym memory.0) tt; nothing = nothing; nobody = nobody; says = memory.1 ∙ ap line_of (sym memory.0) })
    says)

-- an input is refused for a cause that can be told
refused_why : (words : List (List ℕ)) (told : Option (List ℕ)) (rose : Type 0) (asked : Asked) (bytes : List ℕ) (cause : Cause) → Asks words asked → IsInput asked told bytes
    → IsRefusedFor asked bytes cause ⊎ (cause ≡ causes.OutOfMemory) → IsWhy words told rose cause
refused_why words told rose asked bytes cause asks input (inr memory) = subst (IsWhy words told rose) (sym memory) tt
refused_why words told rose asked bytes (causes.Script line kind) asks input (inl h) = record { asked = asked; asks = asks; bytes = bytes; input = input; so = h }
refused_why words told rose asked bytes (causes.Illegal line code) asks input (inl h) = record { asked = asked; asks = asks; bytes = bytes; input = input; so = h }
refused_why words told rose asked bytes (causes.Unreadable line kind) asks input (inl h) = record { asked = asked; asks = asks; bytes = bytes; input = input; so = h }
refused_why words told rose asked bytes causes.Done asks input (inl h) = absurd h
refused_why words told rose asked bytes causes.Usage asks input (inl h) = absurd h
refused_why words told rose asked bytes causes.ReadFault asks input (inl h) = absurd h
refused_why words told rose asked bytes causes.WriteFault asks input (inl h) = absurd h
refused_why words told rose asked bytes causes.OutOfMemory asks input (inl h) = absurd h
refused_why words told rose asked bytes causes.TooLarge asks input (inl h) = absurd h

large_by : (asked : Asked) (told : Option (List ℕ)) (bytes : List ℕ) → IfSome told (λ all. bytes ≡ all) → most_lines asked < length (lines_of bytes) → IfSome told (IsTooLarge asked)
large_by asked None bytes e l = tt
large_by asked (Some all) bytes e l = inr (subst (λ bs. most_lines asked < length (lines_of bs)) e l)

-- an input of more bytes than are taken is too large
pub bytes_large : (asked : Asked) (told : Option (List ℕ)) (most : ℕ) → most ≡ most_bytes asked → IfSome told (λ bytes. most < length bytes) → IfSome told (IsTooLarge asked)
bytes_large asked None most e l = tt
bytes_large asked (Some all) most e l = inl (subst (λ n. n < length all) e l)

-- what is due to the bytes of an input is due to it
pub input_due : (words : List (List ℕ)) (told : Option (List ℕ)) (rose : Type 0) (asked : Asked) (bytes : List ℕ) (due : Due) → Asks words asked → length bytes ≤ most_bytes asked → IfSome (input_told asked told) (λ all. bytes ≡ all)
    → IsDueToInput asked bytes due → IsDue words told rose due.cause due.journal.items due.text.items due.cluster
input_due words told rose asked bytes due asks within is (inl (few, inl done)) =
    subst (λ c. IsDue words told rose c due.journal.items due.text.items due.cluster) (sym done.0)
    (record { asked = asked; asks = asks; bytes = bytes; input = record { is = is; within = (within, few) }; so = done.1 })
input_due words told rose asked bytes due asks within is (inl (few, inr (cause, refused, line))) =
    line_is_due words told rose cause due line (refused_why words told rose asked bytes cause asks (record { is = is; within = (within, few) }) refused)
input_due words told rose asked bytes due asks within is (inr (many, line)) =
    line_is_due words told rose causes.TooLarge due line (asked, asks, large_by asked (input_told asked told) bytes is many)

-- ---- an input that is refused

-- the texts of two flags differ
flags_differ : Some (codes "false") ≡ Some (codes "true") → ⊥
flags_differ e = cc

-- what is named is one thing alone
asked_one : (a b : Asked) → means a ≡ means b → a ≡ b
asked_one (Play false) (Play false) e = refl
asked_one (Play true) (Play true) e = refl
asked_one (Step false) (Step false) e = refl
asked_one (Step true) (Step true) e = refl
asked_one Check Check e = refl
asked_one (Load a s) (Load b t) e = ap₂ Load (same_Some a b (ap (λ m. m.size) e)) (same_Some s t (ap (λ m. m.seed) e))
asked_one (Play false) (Play true) e = absurd (flags_differ (ap (λ m. m.flag) e))
asked_one (Play true) (Play false) e = absurd (flags_differ (ap (λ m. m.flag) (sym e)))
asked_one (Step false) (Step true) e = absurd (flags_differ (ap (λ m. m.flag) e))
asked_one (Step true) (Step false) e = absurd (flags_differ (ap (λ m. m.flag) (sym e)))
asked_one (Play a) (Step b) e = let differ : true ≡ false = ap (λ m. slice_index m.name 0 == 112) e in cc
asked_one (Play a) Check e = let differ : true ≡ false = ap (λ m. slice_index m.name 0 == 112) e in cc
asked_one (Play a) (Load b t) e = let differ : true ≡ false = ap (λ m. slice_index m.name 0 == 112) e in cc
asked_one (Step a) (Play b) e = let differ : true ≡ false = ap (λ m. slice_index m.name 0 == 115) e in cc
asked_one (Step a) Check e = let differ : true ≡ false = ap (λ m. slice_index m.name 0 == 115) e in cc
asked_one (Step a) (Load b t) e = let differ : true ≡ false = ap (λ m. slice_index m.name 0 == 115) e in cc
asked_one Check (Play b) e = let differ : true ≡ false = ap (λ m. slice_index m.name 0 == 99) e in cc
asked_one Check (Step b) e = let differ : true ≡ false = ap (λ m. slice_index m.name 0 == 99) e in cc
asked_one Check (Load b t) e = let differ : true ≡ false = ap (λ m. slice_index m.name 0 == 99) e in cc
asked_one (Load a s) (Play b) e = let differ : true ≡ false = ap (λ m. slice_index m.name 0 == 108) e in cc
asked_one (Load a s) (Step b) e = let differ : true ≡ false = ap (λ m. slice_index m.name 0 == 108) e in cc
asked_one (Load a s) Check e = let differ : true ≡ false = ap (λ m. slice_index m.name 0 == 108) e in cc

pub asks_one : (words : List (List ℕ)) (a b : Asked) → Asks words a → Asks words b → a ≡ b
asks_one words a b h k = asked_one a b (same_Some (means a) (means b) (sym h.named ∙ k.named))

-- nothing is read of what has no input
pub none_read : (words : List (List ℕ)) (asked : Asked) → Asks words asked → AskToReadNothing words → HasInput asked → ⊥
none_read words asked asks (inl none) has = asks.taken none
none_read words asked asks (inr (other, asks', unread)) has = unread (subst HasInput (asks_one words asked other asks asks') has)

-- what holds of what is asked for and the input holds of these
asked_of : (words : List (List ℕ)) (told : Option (List ℕ)) (holds : Asked → List ℕ → Type 0) (asked : Asked) (all : List ℕ) → IsAsked words told holds → Asks words asked → input_told asked told ≡ Some all
    → holds asked all × IsWithin asked all
asked_of words told holds asked all h asks e =
    let same = asks_one words h.asked asked h.asks asks in
    let is : h.bytes ≡ all = subst (λ t. IfSome t (λ all. h.bytes ≡ all)) e (subst (λ a. IfSome (input_told a told) (λ all. h.bytes ≡ all)) same h.input.is) in
    subst (λ a. holds a all × IsWithin a all) same
    (subst (λ bytes. holds h.asked bytes × IsWithin h.asked bytes) is (h.so, h.input.within))

-- an input is refused as a script or a step file, or as a journal
data Refusal (asked : Asked) (bytes : List ℕ) (cause : Cause) : Type 0 where
  as_script : (line kind : ℕ) → cause ≡ causes.Script line kind → IsFaulty asked bytes line kind → Refusal asked bytes cause
  as_illegal : (line : ℕ) (reason : Reason) → cause ≡ causes.Illegal line (code_of reason) → asked ≡ Check → IsVerdictOf bytes (verdicts.Illegal line reason) → Refusal asked bytes cause
  as_unreadable : (line kind : ℕ) → cause ≡ causes.Unreadable line kind → asked ≡ Check → IsVerdictOf bytes (verdicts.Unreadable line kind) → Refusal asked bytes cause

refusal_as : (asked : Asked) (bytes : List ℕ) (cause : Cause) → IsRefusedFor asked bytes cause → Refusal asked bytes cause
refusal_as asked bytes (causes.Script line kind) h = as_script line kind refl h
refusal_as asked bytes (causes.Illegal line code) h = as_illegal line h.1.0 (ap (causes.Illegal line) h.1.2) h.0 h.1.1
refusal_as asked bytes (causes.Unreadable line kind) h = as_unreadable line kind refl h.0 h.1
refusal_as asked bytes causes.Done h = absurd h
refusal_as asked bytes causes.Usage h = absurd h
refusal_as asked bytes causes.ReadFault h = absurd h
refusal_as asked bytes causes.WriteFault h = absurd h
refusal_as asked bytes causes.OutOfMemory h = absurd h
refusal_as asked bytes causes.TooLarge h = absurd h

-- a journal has no fault of a script
no_fault : (asked : Asked) (bytes : List ℕ) (line kind : ℕ) → asked ≡ Check → IsFaulty asked bytes line kind → ⊥
no_fault Check bytes line kind e h = h
no_fault (Play kept) bytes line kind e h = cc
no_fault (Step kept) bytes line kind e h = cc
no_fault (Load blocks seed) bytes line kind e h = h

-- what is in its grammar has none
right_no_fault : (asked : Asked) (bytes : List ℕ) (line kind : ℕ) → IsInGrammar asked bytes → IsFaulty asked bytes line kind → ⊥
right_no_fault (Play kept) bytes line kind right h = right_has_no_fault script_grammar bytes line kind right h
right_no_fault (Step kept) bytes line kind right h = right_has_no_fault step_grammar bytes line kind right h
right_no_fault Check bytes line kind right h = h
right_no_fault (Load blocks seed) bytes line kind right h = h

-- there is one first fault
fault_one : (asked : Asked) (bytes : List ℕ) (line kind l k : ℕ) → IsFaulty asked bytes line kind → IsFaulty asked bytes l k → causes.Script line kind ≡ causes.Script l k
fault_one (Play kept) bytes line kind l k h i = let same = first_fault_is_one script_grammar bytes line kind l k h i in ap (λ n. causes.Script n kind) same.0 ∙ ap (causes.Script l) same.1
fault_one (Step kept) bytes line kind l k h i = let same = first_fault_is_one step_grammar bytes line kind l k h i in ap (λ n. causes.Script n kind) same.0 ∙ ap (causes.Script l) same.1
fault_one Check bytes line kind l k h i = absurd h
fault_one (Load blocks seed) bytes line kind l k h i = absurd h

-- the cause of a verdict
abbrev cause_by : Verdict → Cause
cause_by (verdicts.Legal w events) = causes.Done
cause_by (verdicts.Illegal line reason) = causes.Illegal line (code_of reason)
cause_by (verdicts.Unreadable line kind) = causes.Unreadable line kind

verdict_one : (bytes : List ℕ) (v v' : Verdict) → IsVerdictOf bytes v → IsVerdictOf bytes v' → cause_by v ≡ cause_by v'
verdict_one bytes v v' h h' = ap cause_by (one_verdict bytes v v' h h')

-- an input is refused for one cause
refused_one : (asked : Asked) (bytes : List ℕ) (c c' : Cause) → Refusal asked bytes c → Refusal asked bytes c' → c ≡ c'
refused_one asked bytes c c' (as_script line kind e h) (as_script l k e' h') = e ∙ fault_one asked bytes line kind l k h h' ∙ sym e'
refused_one asked bytes c c' (as_script line kind e h) (as_illegal l r e' check h') = absurd (no_fault asked bytes line kind check h)
refused_one asked bytes c c' (as_script line kind e h) (as_unreadable l k e' check h') = absurd (no_fault asked bytes line kind check h)
refused_one asked bytes c c' (as_illegal line reason e check h) (as_script l k e' h') = absurd (no_fault asked bytes l k check h')
refused_one asked bytes c c' (as_illegal line reason e check h) (as_illegal l r e' check' h') = e ∙ verdict_one bytes (verdicts.Illegal line reason) (verdicts.Illegal l r) h h' ∙ sym e'
refused_one asked bytes c c' (as_illegal line reason e check h) (as_unreadable l k e' check' h') = e ∙ verdict_one bytes (verdicts.Illegal line reason) (verdicts.Unreadable l k) h h' ∙ sym e'
refused_one asked bytes c c' (as_unreadable line kind e check h) (as_script l k e' h') = absurd (no_fault asked bytes l k check h')
refused_one asked bytes c c' (as_unreadable line kind e check h) (as_illegal l r e' check' h') = e ∙ verdict_one bytes (verdicts.Unreadable line kind) (verdicts.Illegal l r) h h' ∙ sym e'
refused_one asked bytes c c' (as_unreadable line kind e check h) (as_unreadable l k e' check' h') = e ∙ verdict_one bytes (verdicts.Unreadable line kind) (verdicts.Unreadable l k) h h' ∙ sym e'

-- what was done was in its grammar, and a legal journal is no other
done_right : (asked : Asked) (bytes : List ℕ) (journal : List Event) (text : List ℕ) (cluster : Option Seen) (cause : Cause) → WasDone asked bytes journal text cluster → Refusal asked bytes cause → ⊥
done_right (Play kept) bytes journal text cluster cause (script, says, tells) (as_script line kind e h) = right_has_no_fault script_grammar bytes line kind says.right h
done_right (Step kept) bytes journal text cluster cause (steps, says, tells) (as_script line kind e h) = right_has_no_fault step_grammar bytes line kind says.right h
done_right Check bytes journal text cluster cause h (as_script line kind e f) = f
done_right (Load blocks seed) bytes journal text cluster cause h (as_script line kind e f) = f
done_right (Play kept) bytes journal text cluster cause h (as_illegal line reason e check f) = cc
done_right (Step kept) bytes journal text cluster cause h (as_illegal line reason e check f) = cc
done_right (Load blocks seed) bytes journal text cluster cause h (as_illegal line reason e check f) = cc
done_right Check bytes journal text cluster cause h (as_illegal line reason e check f) = let same = verdict_one bytes (verdicts.Legal h.0.world journal) (verdicts.Illegal line reason) h.0.legal f in cc
done_right (Play kept) bytes journal text cluster cause h (as_unreadable line kind e check f) = cc
done_right (Step kept) bytes journal text cluster cause h (as_unreadable line kind e check f) = cc
done_right (Load blocks seed) bytes journal text cluster cause h (as_unreadable line kind e check f) = cc
done_right Check bytes journal text cluster cause h (as_unreadable line kind e check f) = let same = verdict_one bytes (verdicts.Legal h.0.world journal) (verdicts.Unreadable line kind) h.0.legal f in cc

within_too_large : (asked : Asked) (all : List ℕ) → IsWithin asked all → IsTooLarge asked all → ⊥
within_too_large asked all within (inl bytes) = let few : length all ≤ most_bytes asked = within.0 in absurd (omega (arith, few, bytes))
within_too_large asked all within (inr lines) = let few : length (lines_of all) ≤ most_lines asked = within.1 in absurd (omega (arith, few, lines))

-- ---- what is found

-- of words that ask for something and an input within the limits: it was done, or it is refused, or memory was wanted
data Found (asked : Asked) (all : List ℕ) (cause : Cause) (journal : List Event) (text : List ℕ) (cluster : Option Seen) : Type 0 where
  was_done : cause ≡ causes.Done → WasDone asked all journal text cluster → Found asked all cause journal text cluster
  was_refused : Refusal asked all cause → Found asked all cause journal text cluster
  wanted_memory : cause ≡ causes.OutOfMemory → Found asked all cause journal text cluster

module _ (words : List (List ℕ)) (told : Option (List ℕ)) (rose : Type 0) (journal : List Event) (text : List ℕ) (cluster : Option Seen) where
  abbrev IsDueFor : Cause → Type 0
  IsDueFor cause = IsDue words told rose cause journal text cluster

  -- the input is refused, of words that ask for this
  refused_of : (cause : Cause) (asked : Asked) (all : List ℕ) → IsAsked words told (λ a bytes. IsRefusedFor a bytes cause) → Asks words asked → input_told asked told ≡ Some all → Refusal asked all cause
  refused_of cause asked all h asks e = refusal_as asked all cause (asked_of words told (λ a bytes. IsRefusedFor a bytes cause) asked all h asks e).0

  -- the source fails only where an input is read
  read_fails : (asked : Asked) → AskToRead words × rose → Asks words asked → (HasInput asked → rose → ⊥) → ⊥
  read_fails asked ((other, asks', has), failed) asks fails = fails (subst HasInput (asks_one words other asked asks' asks) has) failed

  found : (cause : Cause) (asked : Asked) (all : List ℕ) → IsDueFor cause → Asks words asked → input_told asked told ≡ Some all → IsWithin asked all → (HasInput asked → rose → ⊥) → Found asked all cause journal text cluster
  found causes.Done asked all due asks e within fails = was_done refl (asked_of words told (λ a bytes. WasDone a bytes journal text cluster) asked all due asks e).0
  found causes.Usage asked all due asks e within fails = absurd (asks.taken due.because)
  found (causes.Script line kind) asked all due asks e within fails = was_refused (refused_of (causes.Script line kind) asked all due.because asks e)
  found causes.ReadFault asked all due asks e within fails = absurd (read_fails asked due.because asks fails)
  found causes.WriteFault asked all due asks e within fails = absurd due.because
  found causes.OutOfMemory asked all due asks e within fails = wanted_memory refl
  found causes.TooLarge asked all due asks e within fails =
      absurd (within_too_large asked all within (subst (λ t. IfSome t (IsTooLarge asked)) e (subst (λ a. IfSome (input_told a told) (IsTooLarge a)) (asks_one words due.because.0 asked due.because.1 asks) due.because.2)))
  found (causes.Illegal line code) asked all due asks e within fails = was_refused (refused_of (causes.Illegal line code) asked all due.because asks e)
  found (causes.Unreadable line kind) asked all due asks e within fails = was_refused (refused_of (causes.Unreadable line kind) asked all due.because asks e)

  -- a refusal of the input is told
  pub refused_told : (cause other : Cause) (asked : Asked) (all : List ℕ) → IsDueFor cause → Asks words asked → input_told asked told ≡ Some all → IsWithin asked all → IsRefusedFor asked all other → (HasInput asked → rose → ⊥) → (cause ≡ other) ⊎ (cause ≡ causes.OutOfMemory)
  refused_told cause other asked all due asks e within refused fails = by_found (found cause asked all due asks e within fails)
    where
      by_found : Found asked all cause journal text cluster → (cause ≡ other) ⊎ (cause ≡ causes.OutOfMemory)
      by_found (was_done is h) = absurd (done_right asked all journal text cluster other h (refusal_as asked all other refused))
      by_found (was_refused h) = inl (refused_one asked all cause other h (refusal_as asked all other refused))
      by_found (wanted_memory is) = inr is

  -- and an input in its grammar is answered so
  pub right_told : (cause : Cause) (asked : Asked) (all : List ℕ) → IsDueFor cause → Asks words asked → input_told asked told ≡ Some all → IsWithin asked all → IsInGrammar asked all → (HasInput asked → rose → ⊥) → IsComplete asked cause
  right_told cause asked all due asks e within right fails = by_found (found cause asked all due asks e within fails)
    where
      done : (asked : Asked) → cause ≡ causes.Done → IsComplete asked cause
      done (Play kept) is = inl is
      done (Step kept) is = inl is
      done Check is = inl is
      done (Load blocks seed) is = inl is

      memory : (asked : Asked) → cause ≡ causes.OutOfMemory → IsComplete asked cause
      memory (Play kept) is = inr is
      memory (Step kept) is = inr is
      memory Check is = inr (inl is)
      memory (Load blocks seed) is = inr is

      illegal : (asked : Asked) (line code : ℕ) → cause ≡ causes.Illegal line code → asked ≡ Check → IsComplete asked cause
      illegal (Play kept) line code is check = cc
      illegal (Step kept) line code is check = cc
      illegal Check line code is check = inr (inr (line, code, is))
      illegal (Load blocks seed) line code is check = cc

      by_found : Found asked all cause journal text cluster → IsComplete asked cause
      by_found (was_done is h) = done asked is
      by_found (was_refused (as_script line kind is h)) = absurd (right_no_fault asked all line kind right h)
      by_found (was_refused (as_illegal line reason is check h)) = illegal asked line (code_of reason) is check
      by_found (was_refused (as_unreadable line kind is check h)) = absurd (subst (λ a. IsInGrammar a all) check right line kind h)
      by_found (wanted_memory is) = memory asked is

  -- ---- the other causes

  -- where nothing was done there is a reason
  because : (cause : Cause) → IsDueFor cause → (cause ≡ causes.Done → ⊥) → IsWhy words told rose cause
  because causes.Done due other = absurd (other refl)
  because causes.Usage due other = due.because
  because (causes.Script line kind) due other = due.because
  because causes.ReadFault due other = due.because
  because causes.WriteFault due other = due.because
  because causes.OutOfMemory due other = due.because
  because causes.TooLarge due other = due.because
  because (causes.Illegal line code) due other = due.because
  because (causes.Unreadable line kind) due other = due.because

  -- refused words are told
  pub usage_told : (cause : Cause) → IsDueFor cause → AsksNothing words → (cause ≡ causes.Usage) ⊎ (cause ≡ causes.OutOfMemory)
  usage_told causes.Done due none = absurd (due.asks.taken none)
  usage_told causes.Usage due none = inl refl
  usage_told (causes.Script line kind) due none = absurd (due.because.asks.taken none)
  usage_told causes.ReadFault due none = absurd (due.because.0.1.taken none)
  usage_told causes.WriteFault due none = absurd due.because
  usage_told causes.OutOfMemory due none = inr refl
  usage_told causes.TooLarge due none = absurd (due.because.1.taken none)
  usage_told (causes.Illegal line code) due none = absurd (due.because.asks.taken none)
  usage_told (causes.Unreadable line kind) due none = absurd (due.because.asks.taken none)

  -- and an input that is too large
  pub large_told : (cause : Cause) (asked : Asked) (all : List ℕ) → IsDueFor cause → Asks words asked → input_told asked told ≡ Some all → IsTooLarge asked all → (HasInput asked → rose → ⊥) → (cause ≡ causes.TooLarge) ⊎ (cause ≡ causes.OutOfMemory)
  large_told causes.Done asked all due asks e large fails = absurd (within_too_large asked all (asked_of words told (λ a bytes. WasDone a bytes journal text cluster) asked all due asks e).1 large)
  large_told causes.Usage asked all due asks e large fails = absurd (asks.taken due.because)
  large_told (causes.Script line kind) asked all due asks e large fails = absurd (within_too_large asked all (asked_of words told (λ a bytes. IsRefusedFor a bytes (causes.Script line kind)) asked all due.because asks e).1 large)
  large_told causes.ReadFault asked all due asks e large fails = absurd (read_fails asked due.because asks fails)
  large_told causes.WriteFault asked all due asks e large fails = absurd due.because
  large_told causes.OutOfMemory asked all due asks e large fails = inr refl
  large_told causes.TooLarge asked all due asks e large fails = inl refl
  large_told (causes.Illegal line code) asked all due asks e large fails = absurd (within_too_large asked all (asked_of words told (λ a bytes. IsRefusedFor a bytes (causes.Illegal line code)) asked all due.because asks e).1 large)
  large_told (causes.Unreadable line kind) asked all due asks e large fails = absurd (within_too_large asked all (asked_of words told (λ a bytes. IsRefusedFor a bytes (causes.Unreadable line kind)) asked all due.because asks e).1 large)

  -- ---- what was written of it

  module _ (cause : Cause) (due : IsDueFor cause) (gains : List ℕ → Type 0) (lost : Type 0) (ended : Ended) (written : IsWritten cause text gains lost ended) where
    -- a cause that the call ends with, but for a fault of the sink, is what was due
    pub ended_why : (why : Cause) → ended.cause ≡ why → (why ≡ causes.Done → ⊥) → (why ≡ causes.WriteFault → ⊥) → IsWhy words told rose why
    ended_why why is not_done not_failed =
        ⊎_elim
        (λ (whole : _). let same : cause ≡ why = sym whole.0 ∙ is in subst (IsWhy words told rose) same (because cause due (λ e. not_done (sym same ∙ e))))
        (λ (failed : _). absurd (not_failed (sym is ∙ failed.0)))
        written

    -- and what was due is what it ends with, unless it failed
    pub ended_so : (why : Cause) → (cause ≡ why) ⊎ (cause ≡ causes.OutOfMemory) → IsUnlessFailed ended.cause why
    ended_so why is =
        ⊎_elim
        (λ (whole : _). ⊎_elim (λ (same : cause ≡ why). inl (whole.0 ∙ same)) (λ (memory : cause ≡ causes.OutOfMemory). inr (inr (whole.0 ∙ memory))) is)
        (λ (failed : _). inr (inl failed.0))
        written

    pub ended_whole : (asked : Asked) → IsComplete asked cause → (lost → ⊥) → IsComplete asked ended.cause
    ended_whole asked h fails =
        ⊎_elim
        (λ (whole : _). subst (IsComplete asked) (sym whole.0) h)
        (λ (failed : _). absurd (fails failed.1))
        written
