-- The steps of the ends of a plain pair.
use Rattle.std.specs.Prelude.{◌≡◌, ℕ, ◌+◌, ◌<◌, ◌≤◌, ◌++◌, [], ◌∷◌, length, Some, None, Bool, true, false}
use Rattle.ordered_link.specs.declared.grant.Grant.{Grant}
use Rattle.ordered_link.specs.declared.item.Item.{Item}
use Rattle.ordered_link.specs.declared.item.Item.TheVariants.{Load, End}
use Rattle.ordered_link.specs.declared.plain.PlainOut.{PlainOut}
use Rattle.ordered_link.specs.declared.plain.PlainIn.{PlainIn}
use Rattle.ordered_link.specs.Waiting.{Sends}

module _ {T : Type 0} where
  -- whether the item is End
  abbrev pub is_end : Item T → Bool
  is_end (Load x) = false
  is_end (End r s) = true

  -- the item waits behind the others, a slot fewer is free, and End is the last item
  abbrev pub PlainPuts : PlainOut T → Item T → PlainOut T → Type 0
  PlainPuts a x b =
      (b.waiting.items ≡ a.waiting.items ++ x ∷ []) × (a.free ≡ b.free + 1)
      × (b.back ≡ a.back) × (b.initial ≡ a.initial) × (b.ended ≡ is_end x)

  -- the oldest grant is gone, and all else as it was
  abbrev pub PlainGains : PlainOut T → Grant → PlainOut T → Type 0
  PlainGains a grant b =
      (a.back.items ≡ grant ∷ b.back.items) × (b.waiting ≡ a.waiting) × (b.free ≡ a.free)
      × (b.ended ≡ a.ended) × (b.initial ≡ a.initial)

  -- the grant that waited in the end has gone back, or all of them are as they were
  abbrev pub PlainSent : PlainIn T → PlainIn T → Type 0
  PlainSent a b =
      Sends a.given.items a.late b.given.items b.late
      × (length b.given.items + b.free ≡ length a.given.items + a.free)
      × (b.initial ≡ a.initial)

  -- the oldest item is gone
  abbrev pub PlainTakes : PlainIn T → Item T → PlainIn T → Type 0
  PlainTakes a x b = (a.items.items ≡ x ∷ b.items.items) × PlainSent a b

  -- the items are as they were
  abbrev pub PlainLooked : PlainIn T → PlainIn T → Type 0
  PlainLooked a b = (b.items ≡ a.items) × PlainSent a b

  -- the grant has gone back, or waits in the end
  abbrev pub PlainSends : PlainIn T → Grant → PlainIn T → Type 0
  PlainSends a grant b =
      (b.items ≡ a.items) × Sends a.given.items (Some grant) b.given.items b.late
      × (length b.given.items + b.free ≡ length a.given.items + a.free)
      × (0 < a.free → b.late ≡ None) × (b.initial ≡ a.initial)

  -- both ends are of one size, and each knows no more free slots than there are
  pub record ArePlainEnds (out : PlainOut T) (link : PlainIn T) : Type 0 where
    pub initial : link.initial ≡ out.initial
    pub items : length out.waiting.items + length link.items.items + out.free ≤ out.initial + 1
    pub grants : length out.back.items + length link.given.items + link.free ≤ out.initial

  -- what the ends hold together has room in either, with a slot for End
  pub record HaveRoom (out : PlainOut T) (link : PlainIn T) : Type 0 where
    pub initial : link.initial ≡ out.initial
    pub items : length out.waiting.items + length link.items.items ≤ out.initial + 1
    pub open_out : out.ended ≡ false → length out.waiting.items + length link.items.items ≤ out.initial
    pub grants : length out.back.items + length link.given.items ≤ out.initial

  -- nothing is between the ends, and each knows just how many slots are free
  pub record HaveMet (out : PlainOut T) (link : PlainIn T) : Type 0 where
    pub initial : link.initial ≡ out.initial
    pub waiting : out.waiting.items ≡ []
    pub free : out.free + length link.items.items ≡ out.initial + 1
    pub given : link.given.items ≡ []
    pub room : link.free + length out.back.items ≡ link.initial

  -- what waited has gone to the other end
  pub record PlainMeets (out : PlainOut T) (link : PlainIn T) (out' : PlainOut T) (link' : PlainIn T) : Type 0 where
    pub met : HaveMet out' link'
    pub items : link'.items.items ≡ link.items.items ++ out.waiting.items
    pub grants : out'.back.items ≡ out.back.items ++ link.given.items
    pub late : link'.late ≡ link.late
    pub ended : out'.ended ≡ out.ended
    pub initial : out'.initial ≡ out.initial

  -- a pair to which nothing was done yet
  pub record IsFreshPair (n : ℕ) (out : PlainOut T) (link : PlainIn T) : Type 0 where
    pub initial : (out.initial ≡ n) × (link.initial ≡ n)
    pub free : (out.free ≡ n + 1) × (link.free ≡ n)
    pub items : (out.waiting.items ≡ []) × (link.items.items ≡ [])
    pub grants : (out.back.items ≡ []) × (link.given.items ≡ []) × (link.late ≡ None)
    pub open_out : out.ended ≡ false
