-- What a text says as a script or a step file, or the first fault in it.
use Rattle.std.specs.Prelude.{◌≡◌, ◌⊎◌, ℕ, ◌+◌, ◌<◌, ◌≤◌, not, Option, Some, None, List, [], ◌∷◌, ◌++◌, length, take, map, All, Contains, ⊤}
use Rattle.std.specs.List.{filter, flat_map, enumerate_from, slice_index_or}
use Rattle.ring_names.specs.Name.{IsName}
use Rattle.ring_names.specs.Body.{IsBody}
use Rattle.group_view.specs.Change.{AreOpeningNames, most_entries}
use Rattle.ring_rules.specs.declared.event.Event.{Event}
use Rattle.ring_script.specs.declared.command.Command.{Command}
use Rattle.ring_script.specs.declared.command.Command.TheVariants as command
use Rattle.ring_script.specs.declared.fault.Kind.{Kind}
use Rattle.ring_script.specs.declared.fault.Kind.TheVariants.{NoMembers}
use Rattle.ring_script.specs.declared.line.Head.{Head}
use Rattle.ring_script.specs.declared.line.Head.TheVariants as head
use Rattle.ring_script.specs.declared.line.Next.{Next}
use Rattle.ring_script.specs.declared.line.Next.TheVariants as next
use Rattle.ring_script.specs.declared.text.Text.{Text}
use Rattle.ring_script.specs.Words.{lines_of, words_of, first_word, behind_word}
use Rattle.ring_script.specs.Fault.{code_of}
use Rattle.ring_script.specs.Line.{Grammar, is_skipped, head_in, is_statement, credit_in, fault_of}
use Rattle.ring_script.specs.Script.{script_grammar, command_of, joined_by, joined, most_turns}
use Rattle.ring_script.specs.Steps.{step_grammar, event_of}
use Rattle.ring_script.specs.Vocabulary.{IsNameable, HasNameablePositions}

-- ---- the used lines

-- the lines that aren't skipped, each behind its number from 1
abbrev pub used_of : List (List ℕ) → List (ℕ × List ℕ)
used_of lines = filter (λ line. not (is_skipped line.1)) (enumerate_from 1 lines)

-- what may stand behind used lines
abbrev pub next_of : List (ℕ × List ℕ) → Next
next_of [] = next.Opening
next_of (opening ∷ []) = next.Credit
next_of (opening ∷ second ∷ further) = next.Further

-- the names on the first
abbrev pub members_of : List (ℕ × List ℕ) → List (List ℕ)
members_of [] = []
members_of (opening ∷ further) = words_of (behind_word opening.1)

-- where no line gives a credit
abbrev pub usual_credit : ℕ × ℕ
usual_credit = (8, 4)

-- the credit that a line gives with this rest, which begins so
abbrev pub credit_by : Head → List ℕ → ℕ × ℕ
credit_by head.Credit rest = credit_in rest
credit_by _ rest = usual_credit

-- the credit on the second, where it gives one
abbrev pub credit_of : List (ℕ × List ℕ) → ℕ × ℕ
credit_of [] = usual_credit
credit_of (opening ∷ []) = usual_credit
credit_of (opening ∷ second ∷ further) = credit_by (head_in second.1) (behind_word second.1)

-- those that are statements
abbrev pub said_in : List (ℕ × List ℕ) → List (ℕ × List ℕ)
said_in used = filter (λ line. is_statement (head_in line.1)) used

-- the statements, each behind the number of its line
abbrev pub statements_of : {X : Type 0} → (List ℕ → List ℕ → X) → List (ℕ × List ℕ) → List (ℕ × X)
statements_of says used = map (λ line. (line.0, says (first_word line.1) (behind_word line.1))) (said_in used)

-- the names that the statements have join
abbrev pub joined_in : Grammar → List (ℕ × List ℕ) → List (List ℕ)
joined_in grammar used = flat_map (λ line. grammar.joins (first_word line.1) (behind_word line.1)) (said_in used)

-- the names that are known behind these lines: those of the members, and those that joined
abbrev pub known_of : Grammar → List (ℕ × List ℕ) → List (List ℕ)
known_of grammar used = members_of used ++ joined_in grammar used

-- ---- faults

-- what is wrong with a line behind these used ones
abbrev pub fault_behind : Grammar → List (ℕ × List ℕ) → List ℕ → Option Kind
fault_behind grammar used line = fault_of grammar (next_of used) (known_of grammar used) line

-- what is wrong with the line at a place, from 0, behind those before it
abbrev pub fault_at : Grammar → List (List ℕ) → ℕ → Option Kind
fault_at grammar lines place = fault_behind grammar (used_of (take place lines)) (slice_index_or lines place [])

-- nothing is wrong with the lines before a place
abbrev pub AreRight : Grammar → List (List ℕ) → ℕ → Type 0
AreRight grammar lines end = (place : ℕ) → place < end → fault_at grammar lines place ≡ None

-- the first fault is this one, on the line of this number
pub record IsFaultAt (grammar : Grammar) (lines : List (List ℕ)) (number : ℕ) (kind : Kind) : Type 0 where
  pub place : ℕ
  pub is : number ≡ place + 1
  pub there : place < length lines
  pub right : AreRight grammar lines place
  pub wrong : fault_at grammar lines place ≡ Some kind

-- no line has a fault and none is used: members are missed on the line behind the last
pub record AreMissed (grammar : Grammar) (lines : List (List ℕ)) (number : ℕ) (kind : Kind) : Type 0 where
  pub is : number ≡ length lines + 1
  pub right : AreRight grammar lines (length lines)
  pub nothing : used_of lines ≡ []
  pub members : kind ≡ NoMembers

-- The first fault of a text stands on the line of this number and is of this kind.
pub record IsFirstFault (grammar : Grammar) (bytes : List ℕ) (line code : ℕ) : Type 0 where
  pub kind : Kind
  pub is : code ≡ code_of kind
  pub stands : IsFaultAt grammar (lines_of bytes) line kind ⊎ AreMissed grammar (lines_of bytes) line kind

-- there is a first fault
abbrev pub HasFault : Grammar → List ℕ → Type 0
HasFault grammar bytes = (line : ℕ) × (code : ℕ) × IsFirstFault grammar bytes line code

-- ---- right texts

-- nothing is wrong with the lines of a text, and one is used
pub record IsRight (grammar : Grammar) (bytes : List ℕ) : Type 0 where
  pub lines : AreRight grammar (lines_of bytes) (length (lines_of bytes))
  pub some : 0 < length (used_of (lines_of bytes))

-- each text is right or has a first fault, never both, and has one first fault alone
pub record JudgesEachText (grammar : Grammar) : Type 0 where
  pub either : (text : List ℕ) → IsRight grammar text ⊎ HasFault grammar text
  pub never_both : (text : List ℕ) (line code : ℕ) → IsRight grammar text → IsFirstFault grammar text line code → ⊥
  pub one_fault : (text : List ℕ) (line code line' code' : ℕ) → IsFirstFault grammar text line code → IsFirstFault grammar text line' code' → (line ≡ line') × (code ≡ code')

-- bytes spell a text: they are right, and their used lines name its members, give its credit, and make its statements
pub record Spells {X : Type 0} (grammar : Grammar) (says : List ℕ → List ℕ → X) (bytes : List ℕ) (text : Text X) : Type 0 where
  pub right : IsRight grammar bytes
  pub members : text.members ≡ members_of (used_of (lines_of bytes))
  pub credit : (text.credit.initial, text.credit.more) ≡ credit_of (used_of (lines_of bytes))
  pub lines : text.lines ≡ statements_of says (used_of (lines_of bytes))

-- they spell this script
abbrev pub IsScriptOf : List ℕ → Text Command → Type 0
IsScriptOf = Spells script_grammar command_of

-- or these steps
abbrev pub AreStepsOf : List ℕ → Text Event → Type 0
AreStepsOf = Spells step_grammar event_of

-- ---- what can be played

-- a ring can open with these members, each of a fitting name
abbrev pub CanOpen : List (List ℕ) → Type 0
CanOpen names = AreOpeningNames names × All IsName names

-- each event on these lines names a position that a line can name, if it names one
abbrev pub HaveNameablePositions : List (ℕ × Event) → Type 0
HaveNameablePositions lines = All (λ line. HasNameablePositions line.1) lines

-- a command that may be given where these names are known
abbrev pub MayBeGiven : List (List ℕ) → Command → Type 0
MayBeGiven names (command.Cast by body) = Contains names by × IsBody body
MayBeGiven names (command.Publish by body) = Contains names by × IsBody body
MayBeGiven names (command.Get by) = Contains names by
MayBeGiven names (command.Pop by) = Contains names by
MayBeGiven names (command.Ack by at) = Contains names by × IsNameable at
MayBeGiven names (command.Requeue by at) = Contains names by × IsNameable at
MayBeGiven names (command.Join by name) = Contains names by × (Contains names name → ⊥) × IsName name
MayBeGiven names (command.Kill by) = Contains names by
MayBeGiven names (command.Go turns) = (1 ≤ turns) × (turns ≤ most_turns)
MayBeGiven names command.Settle = ⊤

-- each command may be given where these names are known, and those that earlier ones had join
abbrev pub MayEachBeGiven : List (List ℕ) → List Command → Type 0
MayEachBeGiven names [] = ⊤
MayEachBeGiven names (x ∷ xs) = MayBeGiven names x × MayEachBeGiven (names ++ joined_by x) xs

-- the commands of a script, in order
abbrev pub commands_of : Text Command → List Command
commands_of script = map (λ line. line.1) script.lines

-- A ring can open with the members, each of a fitting name, and be given the commands, one after another. With those who
-- join there are never more members than a ring has at most.
pub record IsPlayable (script : Text Command) : Type 0 where
  pub opens : CanOpen script.members
  pub commands : MayEachBeGiven script.members (commands_of script)
  pub few : length (script.members ++ joined (commands_of script)) ≤ most_entries
