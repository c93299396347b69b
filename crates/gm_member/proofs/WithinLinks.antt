-- The links that a member has, running or stopped, are there in every state of every run.
use Rattle.std.proofs.Common.{◌≡◌, ℕ, ◌<◌, List, length, Some}
use Rattle.ring_names.specs.declared.numbers.CreditSpec.{CreditSpec}
use Rattle.group_view.specs.Change.{AreOpeningNames}
use Rattle.ring_rules.specs.declared.event.Event.{Event}
use Rattle.ring_rules.specs.Machine.{Member, World, member_at}
use Rattle.ring_rules.specs.Step.{opening}
use Rattle.ring_rules.specs.Event.{IsRun, last}
use Rattle.ring_rules.proofs.work.OwnEnds.{OwnEnds}
use Rattle.ring_rules.proofs.runs.OfEvents.{reached_owns}

-- of n links
pub record Within (n : ℕ) (m : Member) : Type 0 where
  pub out : (o : ℕ) → m.out ≡ Some o → o < n
  pub current : (s : ℕ) → m.current ≡ Some s → s < n

-- those of a member are there
abbrev pub IsWithin : World → ℕ → Type 0
IsWithin w y = Within (length w.links) (member_at w y)

-- those of each are
abbrev pub AllWithin : World → Type 0
AllWithin w = (y : ℕ) → IsWithin w y

-- in every state of every run
pub reached_within : (credit : CreditSpec) (names : List (List ℕ)) (events : List Event) → AreOpeningNames names → IsRun (opening credit names) events → AllWithin (last (opening credit names) events)
reached_within credit names events are r = λ y.
    let h : OwnEnds (last (opening credit names) events) = reached_owns credit names events are r in
    record { out = λ o e. (h.out y o e).0; current = λ s e. (h.current y s e).0 }
