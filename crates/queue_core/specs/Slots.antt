-- The items of a queue in their places.
use Rattle.std.specs.Prelude.{◌≡◌, ℕ, ◌<◌, Bool, true, false, cond, List, length, Option, MatchOption}
use Rattle.std.specs.List.{list_any, HoldsAt}
use Rattle.queue_core.specs.declared.held.CopyState.TheVariants.{Again}
use Rattle.queue_core.specs.Queue.{Item, is_unacked}

-- an item that was handed out is ready again
abbrev pub again : Item → Item
again i = record i { state = cond (is_unacked i) Again i.state }

-- an item that passes the test stands in this place
pub record StandsAt (t : Item → Bool) (xs : List Item) (place : ℕ) : Type 0 where
  pub within : place < length xs
  pub passes : HoldsAt (λ i. t i ≡ true) xs place

-- the place of an item that passes, or that none does
abbrev pub IsPlaceOf : (Item → Bool) → List Item → Option ℕ → Type 0
IsPlaceOf t xs place = MatchOption place (list_any t xs ≡ false) (StandsAt t xs)
