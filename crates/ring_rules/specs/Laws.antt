-- The laws of a ring, together.
use Rattle.std.specs.Prelude.{ℕ, ◌<◌, ◌≤◌}
use Rattle.ring_rules.specs.Machine.{World}
use Rattle.ring_rules.specs.OpenLinks.{the_walk, NeverRises}
use Rattle.ring_rules.specs.Step.{size}
use Rattle.ring_rules.specs.Idle.{IsIdle}
use Rattle.ring_rules.specs.Quiet.{IsQuiet}
use Rattle.ring_rules.specs.NoGap.{NoGapAtTake}
use Rattle.ring_rules.specs.LinksStand.{LinksStand}
use Rattle.ring_rules.specs.Lawful.{HasOwnLog, StaysWithinLogs, KeepsCredit, ConfirmedEverywhere, ErasedAgrees, StaysErased, LeadsOn, ViewsKeepSince, KeepsBorn, JoinsInTime, HearsInOrder, HearsAllSince, ConfirmedIsHeard, NeverFalls, HearsWhatFollows}

-- The laws of a state, in a ring whose links open with this credit: the walk of each origin never rises; no take leaves a
-- gap at a member that is up, but for origins that it answers for against the sender; each member has heard of each publisher
-- its log from its base up to the number that it got, so all of that which was published since its admission; no number is
-- above the length of the log, and a running publisher has its own log whole; what has come round to a publisher each member
-- that is up has received, or counted by its first packet, and has heard where it was published since that member's admission,
-- and the first packet of every one that waits counts it; each link keeps its credit; all that is said of an erased origin is
-- one number; in each view each entry has the version since when its left neighbour has been it; who joined receives every
-- message that is published after its admission; and the links go from left neighbours to right ones, each in its time, and what
-- is put on them fits into the walks.
pub record IsLawful (initial : ℕ) (w : World) : Type 0 where
  pub walks : (origin : ℕ) → 1 ≤ origin → origin < size w → NeverRises (the_walk w origin)
  pub no_gap : NoGapAtTake w
  pub in_order : HearsInOrder w
  pub all_since : HearsAllSince w
  pub within : StaysWithinLogs w
  pub own : HasOwnLog w
  pub confirmed : ConfirmedEverywhere w
  pub heard : ConfirmedIsHeard w
  pub credit : KeepsCredit initial w
  pub erased : ErasedAgrees w
  pub since : ViewsKeepSince w
  pub joins : JoinsInTime w
  pub links : LinksStand w

-- From a state to a later one: logs only grow and no number falls; what a member hears meanwhile is what follows in the
-- publisher's log; what is erased stays so, with its number; and a master leads until it is erased.
pub record GoesOn (w w' : World) : Type 0 where
  pub never_falls : NeverFalls w w'
  pub hears : HearsWhatFollows w w'
  pub erased : StaysErased w w'
  pub leads : LeadsOn w w'
  pub born : KeepsBorn w w'

-- a ring in which no running member has anything to do is quiet
abbrev pub IdleIsQuiet : World → Type 0
IdleIsQuiet w = IsIdle w → IsQuiet w
