-- What holds in every state that a ring reaches.
use Rattle.std.specs.Prelude.{ℕ, List}
use Rattle.ring_names.specs.declared.numbers.CreditSpec.{CreditSpec}
use Rattle.group_view.specs.Change.{AreOpeningNames}
use Rattle.ring_rules.specs.declared.event.Event.{Event}
use Rattle.ring_rules.specs.Machine.{World}
use Rattle.ring_rules.specs.Step.{opening}
use Rattle.ring_rules.specs.Event.{IsRun, last}

-- this holds of the names of the opening and of the last state of each run of a ring, from any members and any credit on
abbrev pub InEachState : (List (List ℕ) → World → Type 0) → Type 0
InEachState P = (credit : CreditSpec) (names : List (List ℕ)) (events : List Event) → AreOpeningNames names → IsRun (opening credit names) events → P names (last (opening credit names) events)
