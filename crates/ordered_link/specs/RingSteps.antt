-- The steps of the ends of a ring pair.
use Rattle.std.specs.Prelude.{◌≡◌, ℕ, ◌+◌, ◌<◌, false, [], ◌∷◌, ◌++◌, length, Some, None}
use Rattle.rtrb.specs.Ring.{sent, received, known_items, known_free, producer_capacity}
use Rattle.rtrb.specs.Ring.{SameProducer, SameConsumer, IsPair, ConsumerLooked, ProducerLooked}
use Rattle.ordered_link.specs.declared.grant.Grant.{Grant}
use Rattle.ordered_link.specs.declared.item.Item.{Item}
use Rattle.ordered_link.specs.declared.ring.RingOut.{RingOut}
use Rattle.ordered_link.specs.declared.ring.RingIn.{RingIn}
use Rattle.ordered_link.specs.Steps.{is_end}
use Rattle.ordered_link.specs.Waiting.{Sends}

module _ {T : Type 0} where
  -- the two are the ends of one link, of one size
  pub record AreRingEnds (o : RingOut T) (i : RingIn T) : Type 0 where
    pub there : IsPair o.items i.items
    pub back : IsPair i.back o.back
    pub initial : i.initial ≡ o.initial
    pub slots : producer_capacity o.items ≡ o.initial + 1
    pub room : producer_capacity i.back ≡ i.initial

  -- the item was put behind all that were, a slot fewer is known to be free, and End is the last item
  abbrev pub RingPuts : RingOut T → Item T → RingOut T → Type 0
  RingPuts a x b =
      SameProducer a.items b.items × (sent b.items ≡ sent a.items ++ x ∷ [])
      × (known_free a.items ≡ known_free b.items + 1)
      × (b.back ≡ a.back) × (b.initial ≡ a.initial) × (b.ended ≡ is_end x)

  -- the oldest grant that was known was taken, and all else is as it was
  abbrev pub RingGains : RingOut T → Grant → RingOut T → Type 0
  RingGains a grant b =
      (b.items ≡ a.items) × SameConsumer a.back b.back
      × (received b.back ≡ received a.back ++ grant ∷ []) × (known_items a.back ≡ grant ∷ known_items b.back)
      × (b.initial ≡ a.initial) × (b.ended ≡ a.ended)

  -- nothing was put and no grant taken; more may be known
  abbrev pub RingLooked : RingOut T → RingOut T → Type 0
  RingLooked a b =
      ProducerLooked a.items b.items × ConsumerLooked a.back b.back
      × (b.initial ≡ a.initial) × (b.ended ≡ a.ended)

  -- the grant that waited in the end has gone back, or all of them are as they were
  abbrev pub RingSent : RingIn T → RingIn T → Type 0
  RingSent a b =
      SameProducer a.back b.back × Sends (sent a.back) a.late (sent b.back) b.late
      × (length (sent b.back) + known_free b.back ≡ length (sent a.back) + known_free a.back)
      × (b.initial ≡ a.initial)

  -- the oldest item that was known was taken
  abbrev pub RingTakes : RingIn T → Item T → RingIn T → Type 0
  RingTakes a x b =
      SameConsumer a.items b.items × (received b.items ≡ received a.items ++ x ∷ [])
      × (known_items a.items ≡ x ∷ known_items b.items) × RingSent a b

  -- the items are as they were
  abbrev pub RingWaited : RingIn T → RingIn T → Type 0
  RingWaited a b = (b.items ≡ a.items) × RingSent a b

  -- nothing was taken and no grant sent; more may be known
  abbrev pub RingLookedIn : RingIn T → RingIn T → Type 0
  RingLookedIn a b =
      ConsumerLooked a.items b.items × ProducerLooked a.back b.back
      × (b.late ≡ a.late) × (b.initial ≡ a.initial)

  -- the grant has gone back, or waits in the end
  abbrev pub RingSends : RingIn T → Grant → RingIn T → Type 0
  RingSends a grant b =
      (b.items ≡ a.items) × SameProducer a.back b.back
      × Sends (sent a.back) (Some grant) (sent b.back) b.late
      × (length (sent b.back) + known_free b.back ≡ length (sent a.back) + known_free a.back)
      × (0 < known_free a.back → b.late ≡ None) × (b.initial ≡ a.initial)

  -- what was taken, then what the end knows, is all that was put, and so of the grants; and each end knows
  -- just how many slots are free
  pub record RingsHaveMet (o : RingOut T) (i : RingIn T) : Type 0 where
    pub items : received i.items ++ known_items i.items ≡ sent o.items
    pub grants : received o.back ++ known_items o.back ≡ sent i.back
    pub free : known_free o.items + length (known_items i.items) ≡ o.initial + 1
    pub room : known_free i.back + length (known_items o.back) ≡ i.initial

  -- the out end stays the end of its link, and has put no more and gained no more
  abbrev pub OutStays : RingOut T → RingOut T → Type 0
  OutStays a b =
      SameProducer a.items b.items × SameConsumer a.back b.back × (sent b.items ≡ sent a.items)
      × (received b.back ≡ received a.back) × (b.ended ≡ a.ended) × (b.initial ≡ a.initial)

  -- the in end stays the end of its link, and has taken no more; the grant that waited may have gone
  abbrev pub InStays : RingIn T → RingIn T → Type 0
  InStays a b =
      SameConsumer a.items b.items × (received b.items ≡ received a.items)
      × SameProducer a.back b.back × Sends (sent a.back) a.late (sent b.back) b.late × (b.initial ≡ a.initial)

  -- the ends have met, and no grant waits where the way back had room for it
  pub record RingMeets (o : RingOut T) (i : RingIn T) (o' : RingOut T) (i' : RingIn T) : Type 0 where
    pub ends : AreRingEnds o' i'
    pub met : RingsHaveMet o' i'
    pub out : OutStays o o'
    pub link : InStays i i'
    pub none_waited : i.late ≡ None → i'.late ≡ None
    pub late : length (sent i.back) < i.initial + length (received o.back) → i'.late ≡ None

  -- a pair to which nothing was done yet
  pub record IsFreshRingPair (n : ℕ) (o : RingOut T) (i : RingIn T) : Type 0 where
    pub ends : AreRingEnds o i
    pub met : RingsHaveMet o i
    pub initial : o.initial ≡ n
    pub items : (sent o.items ≡ []) × (received i.items ≡ [])
    pub grants : (sent i.back ≡ []) × (received o.back ≡ []) × (i.late ≡ None)
    pub open_out : o.ended ≡ false
