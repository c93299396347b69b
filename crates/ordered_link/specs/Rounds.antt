-- What a round leaves of a ring pair.
use Rattle.std.specs.Prelude.{◌≡◌, List, ◌++◌}
use Rattle.rtrb.specs.Ring.{sent, received, known_items}
use Rattle.ordered_link.specs.declared.grant.Grant.{Grant}
use Rattle.ordered_link.specs.declared.item.Item.{Item}
use Rattle.ordered_link.specs.declared.ring.RingOut.{RingOut}
use Rattle.ordered_link.specs.declared.ring.RingIn.{RingIn}

module _ {T : Type 0} where
  -- from these two ends to those, these items were put and taken, and these grants given and gained
  pub record Grew (o : RingOut T) (i : RingIn T) (o' : RingOut T) (i' : RingIn T) (puts takes : List (Item T)) (gives gains : List Grant) : Type 0 where
    pub put : sent o'.items ≡ sent o.items ++ puts
    pub took : received i'.items ≡ received i.items ++ takes
    pub gave : sent i'.back ≡ sent i.back ++ gives
    pub gained : received o'.back ≡ received o.back ++ gains

  -- what the link held and what was put is what was taken and what it holds; and so of the grants
  abbrev pub Balances : RingOut T → RingIn T → RingOut T → RingIn T → List (Item T) → List (Item T) → List Grant → List Grant → Type 0
  Balances o i o' i' puts takes gives gains =
      (known_items i.items ++ puts ≡ takes ++ known_items i'.items)
      × (known_items o.back ++ gives ≡ gains ++ known_items o'.back)
