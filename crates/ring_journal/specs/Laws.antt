-- What a journal that is read as legal says.
use Rattle.std.specs.Prelude.{◌≡◌, ℕ, ◌+◌, ◌≤◌, ◌<◌, List, length, ◌++◌, All}
use Rattle.queue_core.specs.Queue.{greatest}
use Rattle.ring_names.specs.declared.numbers.CreditSpec.{CreditSpec}
use Rattle.group_view.specs.Change.{AreOpeningNames}
use Rattle.ring_rules.specs.declared.event.Event.{Event}
use Rattle.ring_rules.specs.Machine.{World}
use Rattle.ring_rules.specs.Step.{opening}
use Rattle.ring_rules.specs.Event.{refusals_of}
use Rattle.ring_copies.specs.Runs.{IsRun, last, without_copies}
use Rattle.ring_copies.specs.Laws.{IsLawfulWithCopies}
use Rattle.ring_rules.specs.Bounded.{IsBounded}
use Rattle.ring_rules.specs.Laws.{IsLawful, GoesOn, IdleIsQuiet}
use Rattle.ring_rules.specs.QueueLaws.{QueueIsRight, LaterMastersStart}
use Rattle.ring_rules.specs.Settling.{EachRepairLeavesLess, AreRepairs, Settles}
use Rattle.ring_rules.specs.Work.{total}
use Rattle.ring_world.specs.Reached.{WorldSeen, with_copies}

-- the events are a run from the opening with this credit and these 1 to 64 different names, and the world is what they leave
pub record IsLeftBy (w : WorldSeen) (credit : CreditSpec) (names : List (List ℕ)) (events : List Event) : Type 0 where
  pub are : AreOpeningNames names
  pub run : IsRun (without_copies (opening credit names)) events
  pub ring : with_copies w ≡ last (without_copies (opening credit names)) events
  pub refusals : w.refusals ≡ refusals_of events

-- the laws of every run, in the state that n events of one leave, with this credit at the opening: of the ring and of its
-- queue, of masters that start, of a ring that is idle, and of repair, each step of which leaves less to do and which comes to an end
pub record KeepsLaws (initial n : ℕ) (w : World) : Type 0 where
  pub lawful : IsLawful initial w
  pub queue : n < greatest → QueueIsRight n w
  pub starts : LaterMastersStart w
  pub idle : n < greatest → IdleIsQuiet w
  pub repair : EachRepairLeavesLess w
  pub ends : (steps : List Event) → AreRepairs w steps → length steps ≤ total w
  pub settles : n + total w < greatest → Settles w

-- they are a run from some opening, the world is what they leave, and every law of every run holds in it, and of its copies; their versions and
-- numbers of refusals are small, and from each earlier state on nothing has fallen
pub record IsOfRun (w : WorldSeen) (events : List Event) : Type 0 where
  pub credit : CreditSpec
  pub names : List (List ℕ)
  pub left : IsLeftBy w credit names events
  pub laws : KeepsLaws credit.initial (length events) w.ring
  pub copies : IsLawfulWithCopies credit.initial (with_copies w)
  pub bounded : All IsBounded events
  pub goes_on : (earlier later : List Event) → events ≡ earlier ++ later → GoesOn (last (without_copies (opening credit names)) earlier).ring w.ring
