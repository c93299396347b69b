-- What a journal says that was written: its events, one after another, up to the first that isn't enabled.
use Rattle.std.specs.Prelude.{ℕ, ◌+◌, ◌++◌, List, [], ◌∷◌}
use Rattle.ring_names.specs.Name.{IsName}
use Rattle.ring_names.specs.Body.{IsBody}
use Rattle.ring_rules.specs.declared.event.Event.{Event}
use Rattle.ring_world.specs.Reached.{WorldSeen, with_copies}
use Rattle.ring_rules.specs.Event.{refusals_of}
use Rattle.ring_copies.specs.Runs.{refusal, last}
use Rattle.ring_script.specs.declared.vocabulary.Further.{Further}
use Rattle.ring_script.specs.declared.vocabulary.Further.TheVariants as further
use Rattle.ring_script.specs.Vocabulary.{phrase_of}
use Rattle.ring_journal.specs.declared.verdict.Verdict.{Verdict}
use Rattle.ring_journal.specs.declared.verdict.Verdict.TheVariants.{Legal}
use Rattle.ring_journal.specs.Text.{seen_as, behind, unless_refused}
use Rattle.ring_journal.specs.Written.{IsFitNumber, HasFitCode}

-- the verdict on these events, the first of which is told on the line of this number
abbrev pub played : WorldSeen → List Event → ℕ → List Event → Verdict
played w done number [] = Legal w done
played w done number (e ∷ es) = unless_refused number (refusal (with_copies w) e) (played (behind w e) (done ++ e ∷ []) (number + 1) es)

-- what these events leave, where they are a run
abbrev pub left_by : WorldSeen → List Event → WorldSeen
left_by w events = seen_as (last (with_copies w) events) (w.refusals ++ refusals_of events)

-- what stands behind a name can be written: a body is one, a name is one, and a number is within its limit
abbrev pub IsWritableFurther : Further → Type 0
IsWritableFurther (further.Body body) = IsBody body
IsWritableFurther (further.Name name) = IsName name
IsWritableFurther f = IsFitNumber f

-- an event that a line can say: its names are names, its body is a body, and its numbers are within the limits
abbrev pub IsWritable : Event → Type 0
IsWritable e = HasFitCode e × IsName (phrase_of e).by × IsWritableFurther (phrase_of e).further
