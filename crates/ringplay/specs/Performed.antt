-- What was done among members, or judged of a journal.
use Rattle.std.specs.Prelude.{◌≡◌, ℕ, ◌<◌, ◌≤◌, ◌^◌, Bool, true, false, List, [], ◌∷◌, ◌++◌, length, take, map, Option, Some, None, ⊤}
use Rattle.ring_script.specs.declared.command.Command.{Command}
use Rattle.ring_script.specs.declared.command.Command.TheVariants.{Go, Settle}
use Rattle.ring_names.specs.declared.numbers.CreditSpec.{CreditSpec}
use Rattle.ring_script.specs.declared.text.Text.{Text}
use Rattle.ring_script.specs.Script.{most_turns}
use Rattle.ring_script.specs.Reading.{IsScriptOf, AreStepsOf}
use Rattle.ring_script.specs.Load.{IsLoad}
use Rattle.ring_rules.specs.declared.event.Event.{Event}
use Rattle.ring_rules.specs.Machine.{World}
use Rattle.ring_rules.specs.Step.{opening}
use Rattle.ring_rules.specs.Event.{last, refusals_of}
use Rattle.ring_copies.specs.Runs.{IsRun, without_copies}
use Rattle.ring_copies.specs.Runs as copies
use Rattle.ring_rules.specs.Laws.{IsLawful, GoesOn}
use Rattle.ring_rules.specs.QueueLaws.{QueueIsRight, LaterMastersStart}
use Rattle.ring_rules.specs.Quiet.{IsQuiet}
use Rattle.ring_world.specs.Reached.{WorldSeen}
use Rattle.ring_report.specs.Report.{report_of}
use Rattle.ring_report.specs.Summary.{summary_of}
use Rattle.ring_journal.specs.declared.verdict.Verdict.{Verdict}
use Rattle.ring_journal.specs.declared.verdict.Verdict.TheVariants.{Legal}
use Rattle.ring_journal.specs.Text.{opened, IsVerdictOf}
use Rattle.ring_journal.specs.Played.{left_by}
use Rattle.ring_journal.specs.Written.{journal_text}
use Rattle.ring_journal.specs.Laws.{IsOfRun}
use Rattle.ring_cluster.specs.Seen.{Seen}
use Rattle.ring_cluster.specs.Heard.{OpenersHaveNoBase, HasHeardAll}
use Rattle.ring_cluster.specs.Plays.{Plays, AgendasAreEmpty}
use Rattle.ring_words.specs.declared.asked.Asked.{Asked}
use Rattle.ring_words.specs.declared.asked.Asked.TheVariants.{Play, Step, Check, Load}
use Rattle.ringplay.specs.Step.{enabled_of, refused_lines}

-- ---- what has happened

-- the state after the first k events of a journal, in a ring that opened with these members and this credit
abbrev pub state_after : CreditSpec → List (List ℕ) → List Event → ℕ → World
state_after credit names journal k = (copies.last (without_copies (opening credit names)) (take k journal)).ring

-- The journal is a run of the ring and its copies from these members and this credit. The laws hold after each of its prefixes, among them
-- that each member has heard, of each publisher, its log from the member's base up to what it got. The base of a member of the
-- opening is 0, so it has heard the front of each log. Of the queue mirrors agree, every confirmed, unacknowledged message
-- stands in every running synchronised mirror, and whoever leads in a later term published Start before anything else of it.
-- And from each prefix to each longer one nothing falls.
pub record IsLawfulRun (credit : CreditSpec) (names : List (List ℕ)) (journal : List Event) : Type 0 where
  pub run : IsRun (without_copies (opening credit names)) journal
  pub few : length journal < 2 ^ 59
  pub lawful : (k : ℕ) → IsLawful credit.initial (state_after credit names journal k)
  pub bases : (k : ℕ) → OpenersHaveNoBase names (state_after credit names journal k)
  pub queues : (k : ℕ) → QueueIsRight k (state_after credit names journal k)
  pub starts : (k : ℕ) → LaterMastersStart (state_after credit names journal k)
  pub goes_on : (j k : ℕ) → j ≤ k → GoesOn (state_after credit names journal j) (state_after credit names journal k)

-- It happened in this cluster: its ring opened with these members and this credit, it was given these commands and nothing
-- else, its journal is this one, and nobody has anything left to do.
pub record HappenedIn (initial : CreditSpec) (members : List (List ℕ)) (commands : List Command) (journal : List Event) (cluster : Option Seen) : Type 0 where
  pub seen : Seen
  pub is : cluster ≡ Some seen
  pub names : seen.names ≡ members
  pub credit : seen.credit ≡ initial
  pub events : seen.events ≡ journal
  pub given : seen.given ≡ commands
  pub empty : AgendasAreEmpty seen

-- the cluster's ring opened with the same members and credit
abbrev pub SameRing : Seen → Seen → Type 0
SameRing c d = (d.names ≡ c.names) × (d.credit ≡ c.credit)

-- ---- what is played

-- a round has as many turns as one may have
abbrev pub HasTurns : Command → Type 0
HasTurns (Go turns) = (1 ≤ turns) × (turns ≤ most_turns)
HasTurns x = ⊤

-- the commands of lines, each behind its number
abbrev pub commands_on : List (ℕ × Command) → List Command
commands_on lines = map (λ line. line.1) lines

-- what the ring is given: the commands of the script, and at its end it settles
abbrev pub given_of : Text Command → List Command
given_of script = commands_on script.lines ++ Settle ∷ []

-- the report of a state, and of the refusals on the way to it
abbrev pub reported : World → List Event → List ℕ
reported w journal = report_of w (refusals_of journal)

-- the summary of a state behind so many blocks
abbrev pub summed : ℕ → World → List Event → List ℕ
summed blocks w journal = summary_of blocks w

-- The journal is a lawful run. Each member's client events in it are its commands, and at each settling all earlier
-- commands were done or refused and the ring was quiet. It is quiet in the last state, each message of a running member
-- is confirmed there, and every member that is up has heard all these from its base on; and the text says this of it.
pub record IsPlayed (says : World → List Event → List ℕ) (script : Text Command) (journal : List Event) (text : List ℕ) : Type 0 where
  pub run : IsLawfulRun script.credit script.members journal
  pub plays : Plays script.credit script.members journal (given_of script)
  pub quiet : IsQuiet (last (opening script.credit script.members) journal)
  pub heard_all : HasHeardAll script.members (last (opening script.credit script.members) journal)
  pub says_so : text ≡ says (last (opening script.credit script.members) journal) journal

-- the script was played, by this cluster
pub record IsPlayedBy (says : World → List Event → List ℕ) (script : Text Command) (journal : List Event) (text : List ℕ) (cluster : Option Seen) : Type 0 where
  pub played : IsPlayed says script journal text
  pub by : HappenedIn script.credit script.members (given_of script) journal cluster

-- ---- what is stepped

-- The journal is a lawful run, of the lines' events that were enabled, each after the earlier ones. The text has a line for
-- each that was refused, and then the report of the last state and of the refusals in the journal.
pub record AreStepped (steps : Text Event) (journal : List Event) (text : List ℕ) : Type 0 where
  pub run : IsLawfulRun steps.credit steps.members journal
  pub enabled : journal ≡ enabled_of (opening steps.credit steps.members) steps.lines
  pub report : text ≡ refused_lines (opening steps.credit steps.members) steps.lines ++ report_of (last (opening steps.credit steps.members) journal) (refusals_of journal)

-- the steps were taken, by this cluster, which was given nothing
pub record AreSteppedBy (steps : Text Event) (journal : List Event) (text : List ℕ) (cluster : Option Seen) : Type 0 where
  pub stepped : AreStepped steps journal text
  pub by : HappenedIn steps.credit steps.members [] journal cluster

-- ---- what is told

-- A journal that was written: its text, which is judged legal, with the same events.
pub record IsJournalText (credit : CreditSpec) (names : List (List ℕ)) (journal : List Event) (written : List ℕ) : Type 0 where
  pub text : written ≡ journal_text names credit journal
  pub legal : (verdict : Verdict) → IsVerdictOf written verdict → verdict ≡ Legal (left_by (opened credit names) journal) journal

-- what stands behind the report: the journal where it was asked for, and else nothing
abbrev pub Keeps : Bool → CreditSpec → List (List ℕ) → List Event → List ℕ → Type 0
Keeps false credit names journal written = written ≡ []
Keeps true credit names journal written = IsJournalText credit names journal written

-- The text says this of what has happened, and behind it stands the journal where it was asked for.
pub record Tells (kept : Bool) (credit : CreditSpec) (names : List (List ℕ)) (journal : List Event) (says : List ℕ → Type 0) (text : List ℕ) : Type 0 where
  pub first : List ℕ
  pub behind : List ℕ
  pub says_so : says first
  pub keeps : Keeps kept credit names journal behind
  pub whole : text ≡ first ++ behind

-- ---- what is checked

-- The bytes are the legal journal of these events. They are a lawful run, with every law of every run at its end, and the text
-- is the report of the state that they leave, and of all refusals.
pub record IsChecked (bytes : List ℕ) (journal : List Event) (text : List ℕ) : Type 0 where
  pub world : WorldSeen
  pub legal : IsVerdictOf bytes (Legal world journal)
  pub run : IsOfRun world journal
  pub lawful : IsLawfulRun run.credit run.names journal
  pub report : text ≡ report_of world.ring (refusals_of journal)

-- ---- what is asked for

-- bytes spell what was asked for, and this cluster did it; a journal is checked without one, and the load script was played
-- whatever the bytes
abbrev pub WasDone : Asked → List ℕ → List Event → List ℕ → Option Seen → Type 0
WasDone (Play kept) bytes journal text cluster =
    (script : Text Command) × IsScriptOf bytes script
    × Tells kept script.credit script.members journal (λ report. IsPlayedBy reported script journal report cluster) text
WasDone (Step kept) bytes journal text cluster =
    (steps : Text Event) × AreStepsOf bytes steps
    × Tells kept steps.credit steps.members journal (λ report. AreSteppedBy steps journal report cluster) text
WasDone Check bytes journal text cluster = IsChecked bytes journal text × (cluster ≡ None)
WasDone (Load blocks seed) bytes journal text cluster =
    (script : Text Command) × IsLoad blocks seed script × IsPlayedBy (summed blocks) script journal text cluster
