-- What is done with one ring pair, step by step.
use Rattle.std.specs.Prelude.{◌≡◌, ◌⊎◌, ◌++◌, List, None, true, false}
use Rattle.rtrb.specs.Ring.{sent, received, known_items}
use Rattle.ordered_link.specs.declared.ring.RingOut.{RingOut}
use Rattle.ordered_link.specs.declared.ring.RingIn.{RingIn}
use Rattle.ordered_link.specs.Runs.{Step, Lead, put, taken, gained, granted, looked, met, list_of, puts_of, takes_of, gains_of, grants_of, AreLoads, AreLoadsThenEnd}
use Rattle.ordered_link.specs.RingSteps.{AreRingEnds, RingPuts, RingGains, RingTakes, RingWaited, RingSends, RingLooked, RingLookedIn, RingMeets, RingsHaveMet}

module _ {T : Type 0} where
  -- the step leads from these two ends to those; either end may look
  abbrev pub RingDoes : Step T → RingOut T → RingIn T → RingOut T → RingIn T → Type 0
  RingDoes (put x) o i o' i' = (o.ended ≡ false) × RingPuts o x o' × (i' ≡ i)
  RingDoes (taken x) o i o' i' = (o' ≡ o) × RingTakes i x i'
  RingDoes (gained grant) o i o' i' = RingGains o grant o' × (i' ≡ i)
  RingDoes (granted grant) o i o' i' = (o' ≡ o) × (i.late ≡ None) × RingSends i grant i'
  RingDoes looked o i o' i' = (RingLooked o o' × RingLookedIn i i') ⊎ (o' ≡ o) × RingWaited i i'
  RingDoes met o i o' i' = RingMeets o i o' i'

  -- so do the steps, one after another
  abbrev pub AreRingSteps : List (Step T) → RingOut T → RingIn T → RingOut T → RingIn T → Type 0
  AreRingSteps steps o i o' i' = Lead RingDoes steps o i o' i'

  -- the law of a ring pair that was fresh: its ends may meet, and know all that they put and took; where they
  -- have met, what was taken, followed by what the link holds, is what was put, in order; so are the grants;
  -- and End was put last and once if the link has ended, else not at all
  pub record RingKeepsOrder (steps : List (Step T)) (o : RingOut T) (i : RingIn T) : Type 0 where
    pub ends : AreRingEnds o i
    pub history : (sent o.items ≡ puts_of steps) × (received i.items ≡ takes_of steps)
    pub items : RingsHaveMet o i → takes_of steps ++ known_items i.items ≡ puts_of steps
    pub grants : RingsHaveMet o i → gains_of steps ++ (known_items o.back ++ list_of i.late) ≡ grants_of steps
    pub loads : o.ended ≡ false → AreLoads (puts_of steps)
    pub ended : o.ended ≡ true → AreLoadsThenEnd (puts_of steps)
