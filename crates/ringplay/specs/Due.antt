-- What is due before anything is written, as the parts of the top call hand it on.
use Rattle.std.specs.Prelude.{◌≡◌, ◌⊎◌, ℕ, ◌<◌, ◌≤◌, List, [], length, None, Result, IfOk, IfErr}
use Rattle.ring_names.specs.declared.numbers.CreditSpec.{CreditSpec}
use Rattle.ring_script.specs.declared.command.Command.{Command}
use Rattle.ring_script.specs.Words.{lines_of}
use Rattle.ring_rules.specs.Quiet.{IsQuiet}
use Rattle.ring_cluster.specs.Seen.{Seen, IsGoing, state_of}
use Rattle.ring_cluster.specs.Plays.{Plays, AgendasAreEmpty}
use Rattle.ring_words.specs.declared.asked.Asked.{Asked}
use Rattle.ringplay.specs.declared.cause.Cause.{Cause}
use Rattle.ringplay.specs.declared.cause.Cause.TheVariants as causes
use Rattle.ringplay.specs.declared.call.Due.{Due}
use Rattle.ringplay.specs.declared.play.Played.{Played}
use Rattle.ringplay.specs.Cause.{line_of}
use Rattle.ringplay.specs.Performed.{WasDone}
use Rattle.ringplay.specs.Call.{IsRefusedFor, most_lines}

-- A cluster has played these commands: its ring opened with these members and this credit, it was given them and nothing else,
-- its journal is theirs, and it is quiet, with nobody having anything left to do.
pub record HasPlayed (initial : CreditSpec) (members : List (List ℕ)) (commands : List Command) (c : Seen) : Type 0 where
  pub credit : c.credit ≡ initial
  pub names : c.names ≡ members
  pub given : c.given ≡ commands
  pub going : IsGoing c
  pub plays : Plays c.credit c.names c.events c.given
  pub quiet : IsQuiet (state_of c)
  pub empty : AgendasAreEmpty c

-- the line of this cause, no journal and no cluster, or want of memory
abbrev pub IsLineDue : Cause → Due → Type 0
IsLineDue cause due = (due.journal.items ≡ []) × (due.cluster ≡ None) × (((due.cause ≡ cause) × (due.text.items ≡ line_of cause)) ⊎ ((due.cause ≡ causes.OutOfMemory) × (due.text.items ≡ [])))

-- the bytes spell what was asked for, and it was done
abbrev pub IsDoneDue : Asked → List ℕ → Due → Type 0
IsDoneDue asked bytes due = (due.cause ≡ causes.Done) × WasDone asked bytes due.journal.items due.text.items due.cluster

-- the bytes are refused for a cause, or memory was wanted
abbrev pub IsFaultDue : Asked → List ℕ → Due → Type 0
IsFaultDue asked bytes due = (cause : Cause) × (IsRefusedFor asked bytes cause ⊎ (cause ≡ causes.OutOfMemory)) × IsLineDue cause due

-- the bytes have too many lines
abbrev pub IsLargeDue : Asked → List ℕ → Due → Type 0
IsLargeDue asked bytes due = (most_lines asked < length (lines_of bytes)) × IsLineDue causes.TooLarge due

-- what the bytes ask for was done, or they are refused for the cause that is told, or memory was wanted
pub record DoesAsAsked (asked : Asked) (bytes : List ℕ) (result : Result Played Cause) : Type 0 where
  pub ok : IfOk result (λ played. WasDone asked bytes played.journal.items played.text.items played.cluster)
  pub err : IfErr result (λ cause. IsRefusedFor asked bytes cause ⊎ (cause ≡ causes.OutOfMemory))

-- the lines are not too many, and what they ask for was done or refused; or they are
abbrev pub IsDueToInput : Asked → List ℕ → Due → Type 0
IsDueToInput asked bytes due =
    ((length (lines_of bytes) ≤ most_lines asked) × (IsDoneDue asked bytes due ⊎ IsFaultDue asked bytes due)) ⊎ IsLargeDue asked bytes due
