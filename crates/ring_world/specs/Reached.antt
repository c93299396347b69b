-- The fact that every World keeps.
use Rattle.std.specs.Prelude.{◌≡◌, ℕ, ◌<◌, ◌^◌, List, length, map}
use Rattle.ring_names.specs.declared.numbers.CreditSpec.{CreditSpec}
use Rattle.group_view.specs.Change.{AreOpeningNames}
use Rattle.ring_rules.specs.Machine.{World as State}
use Rattle.ring_rules.specs.Step.{opening}
use Rattle.ring_rules.specs.Event.{refusals_of}
use Rattle.ring_copies.specs.Copies.{CopyLink, CopyWorld}
use Rattle.ring_copies.specs.Runs.{IsRun, last, without_copies}
use Rattle.ring_rules.specs.declared.event.Event.{Event}
use Rattle.ring_world.specs.Shows.{world_of}
use Rattle.ring_world.specs.Copied.{copy_of}
use Rattle.ring_world.specs.declared.world.World.TheInside.{Inside}

-- what is seen of a World: the state of its ring, the copies in it, and what was refused so far, in order
pub record WorldSeen : Type 0 where
  pub ring : State
  pub copies : List CopyLink
  pub refusals : List Event

-- the ring with its copies
abbrev pub with_copies : WorldSeen → CopyWorld
with_copies seen = record { ring = seen.ring; copies = seen.copies }

-- a World is seen so after some run of n events from some opening with 1 to 64 different names
pub record IsReachedIn (seen : WorldSeen) (n : ℕ) : Type 0 where
  pub credit : CreditSpec
  pub names : List (List ℕ)
  pub are : AreOpeningNames names
  pub events : List Event
  pub run : IsRun (without_copies (opening credit names)) events
  pub is : with_copies seen ≡ last (without_copies (opening credit names)) events
  pub refused : seen.refusals ≡ refusals_of events
  pub count : length events ≡ n

-- the state that a World holds
abbrev pub state_of : Inside → State
state_of a = world_of a.ring

-- and its copies and refusals
abbrev pub seen_of : Inside → WorldSeen
seen_of a = record { ring = state_of a; copies = map copy_of a.copies.items; refusals = a.refusals.items }

-- it is seen as after some run, of as many events as were applied
pub record IsRunning (a : Inside) : Type 0 where
  pub reached : ∥ IsReachedIn (seen_of a) a.applied ∥₁
  pub few : a.applied < 2 ^ 59
