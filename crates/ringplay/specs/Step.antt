-- What becomes of the events on the lines of a step file.
use Rattle.std.specs.Prelude.{◌≡◌, ℕ, List, [], ◌∷◌, ◌++◌, codes, Option, Some, None}
use Rattle.std.specs.Fmt.{decimal}
use Rattle.ring_names.specs.declared.reason.Reason.{Reason}
use Rattle.ring_names.specs.declared.reason.Reason.TheVariants as reason
use Rattle.ring_names.specs.Reason.{code_of}
use Rattle.ring_rules.specs.declared.event.Event.{Event}
use Rattle.ring_rules.specs.Machine.{World}
use Rattle.ring_rules.specs.Event.{refusal, last}
use Rattle.ring_cluster.specs.Seen.{Seen}
use Rattle.ring_report.specs.Report.{newline, missing_text}

-- ---- the events that happen

-- an event, where nothing refuses it
abbrev pub if_enabled : Option Reason → Event → List Event
if_enabled None event = event ∷ []
if_enabled (Some r) event = []

-- what happens when an event is tried in a ring
abbrev pub happens : World → Event → List Event
happens w event = if_enabled (refusal w event) event

-- the events of lines that are enabled, each after the earlier ones
abbrev pub enabled_of : World → List (ℕ × Event) → List Event
enabled_of w [] = []
enabled_of w (line ∷ lines) = happens w line.1 ++ enabled_of (last w (happens w line.1)) lines

-- ---- the lines that are refused

-- the numbers that a refusal keeps
abbrev pub kept_text : Reason → List ℕ
kept_text (reason.ViewTooOld need have) = codes " need=" ++ decimal need ++ codes " have=" ++ decimal have
kept_text (reason.NotRetired got retired) = codes " got=" ++ decimal got ++ codes " retired=" ++ decimal retired
kept_text (reason.ViewOutOfRange asked held newest) = codes " asked=" ++ decimal asked ++ codes " held=" ++ decimal held ++ codes " newest=" ++ decimal newest
kept_text (reason.StillMissing missing) = codes " missing=" ++ missing_text missing
kept_text r = []

-- the line of this number is refused for this reason
abbrev pub refused_line : ℕ → Reason → List ℕ
refused_line number r = codes "line " ++ decimal number ++ codes " refused " ++ decimal (code_of r) ++ kept_text r ++ newline

-- the line of this number, where something refuses its event
abbrev pub if_refused : ℕ → Option Reason → List ℕ
if_refused number None = []
if_refused number (Some r) = refused_line number r

-- a line for each that is refused where the earlier ones leave the ring, in order
abbrev pub refused_lines : World → List (ℕ × Event) → List ℕ
refused_lines w [] = []
refused_lines w (line ∷ lines) = if_refused line.0 (refusal w line.1) ++ refused_lines (last w (happens w line.1)) lines

-- ---- the cluster

-- these events more have happened among the members of c, by which it comes to d; it was given nothing
pub record HasStepped (c d : Seen) (more : List Event) : Type 0 where
  pub credit : d.credit ≡ c.credit
  pub names : d.names ≡ c.names
  pub events : d.events ≡ c.events ++ more
  pub agendas : d.agendas ≡ c.agendas
  pub given : d.given ≡ c.given
