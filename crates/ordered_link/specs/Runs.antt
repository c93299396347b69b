-- What is done with one plain pair, step by step.
use Rattle.std.specs.Prelude.{◌≡◌, ◌++◌, List, [], ◌∷◌, Option, Some, None, true, false, map}
use Rattle.std.specs.List.{flat_map}
use Rattle.ring_names.specs.declared.numbers.Stamp.{Stamp}
use Rattle.ordered_link.specs.declared.grant.Grant.{Grant}
use Rattle.ordered_link.specs.declared.item.EndReason.{EndReason}
use Rattle.ordered_link.specs.declared.item.Item.{Item}
use Rattle.ordered_link.specs.declared.item.Item.TheVariants.{Load, End}
use Rattle.ordered_link.specs.declared.plain.PlainOut.{PlainOut}
use Rattle.ordered_link.specs.declared.plain.PlainIn.{PlainIn}
use Rattle.ordered_link.specs.Steps.{PlainPuts, PlainGains, PlainTakes, PlainLooked, PlainSends, PlainMeets}

-- an item was put or taken, a grant taken or given, the in end looked, or the ends met
pub data Step (T : Type 0) : Type 0 where
  put : Item T → Step T
  taken : Item T → Step T
  gained : Grant → Step T
  granted : Grant → Step T
  looked : Step T
  met : Step T

-- the grant that waits, if one does
abbrev pub list_of : Option Grant → List Grant
list_of None = []
list_of (Some grant) = grant ∷ []

-- the steps lead, one after another, from these two ends to those
abbrev pub Lead : {T O I : Type 0} → (Step T → O → I → O → I → Type 0) → List (Step T) → O → I → O → I → Type 0
Lead does [] o i o' i' = (o' ≡ o) × (i' ≡ i)
Lead {O = O} {I = I} does (s ∷ rest) o i o' i' = (p : O) × (q : I) × does s o i p q × Lead does rest p q o' i'

module _ {T : Type 0} where
  -- the step leads from these two ends to those
  abbrev pub Does : Step T → PlainOut T → PlainIn T → PlainOut T → PlainIn T → Type 0
  Does (put x) o i o' i' = (o.ended ≡ false) × PlainPuts o x o' × (i' ≡ i)
  Does (taken x) o i o' i' = (o' ≡ o) × PlainTakes i x i'
  Does (gained grant) o i o' i' = PlainGains o grant o' × (i' ≡ i)
  Does (granted grant) o i o' i' = (o' ≡ o) × (i.late ≡ None) × PlainSends i grant i'
  Does looked o i o' i' = (o' ≡ o) × PlainLooked i i'
  Does met o i o' i' = PlainMeets o i o' i'

  -- so do the steps, one after another
  abbrev pub AreSteps : List (Step T) → PlainOut T → PlainIn T → PlainOut T → PlainIn T → Type 0
  AreSteps steps o i o' i' = Lead Does steps o i o' i'

  -- what one step put
  abbrev pub put_by : Step T → List (Item T)
  put_by (put x) = x ∷ []
  put_by _ = []

  -- what it took
  abbrev pub taken_by : Step T → List (Item T)
  taken_by (taken x) = x ∷ []
  taken_by _ = []

  -- the grant that it took
  abbrev pub gained_by : Step T → List Grant
  gained_by (gained grant) = grant ∷ []
  gained_by _ = []

  -- the grant that it gave
  abbrev pub granted_by : Step T → List Grant
  granted_by (granted grant) = grant ∷ []
  granted_by _ = []

  -- all that these steps put
  abbrev pub puts_of : List (Step T) → List (Item T)
  puts_of steps = flat_map put_by steps

  -- all that they took
  abbrev pub takes_of : List (Step T) → List (Item T)
  takes_of steps = flat_map taken_by steps

  -- the grants that came back and were taken
  abbrev pub gains_of : List (Step T) → List Grant
  gains_of steps = flat_map gained_by steps

  -- the grants that were given
  abbrev pub grants_of : List (Step T) → List Grant
  grants_of steps = flat_map granted_by steps

  -- the items on the link: those of the in end, then those that wait in the out end
  abbrev pub items_held : PlainOut T → PlainIn T → List (Item T)
  items_held o i = i.items.items ++ o.waiting.items

  -- the grants on the way back: those of the out end, then those of the in end, and the one that waits
  abbrev pub grants_held : PlainOut T → PlainIn T → List Grant
  grants_held o i = o.back.items ++ (i.given.items ++ list_of i.late)

  -- loads alone
  abbrev pub AreLoads : List (Item T) → Type 0
  AreLoads xs = (loads : List T) × (xs ≡ map Load loads)

  -- loads, and then one End
  abbrev pub AreLoadsThenEnd : List (Item T) → Type 0
  AreLoadsThenEnd xs = (loads : List T) × (reason : EndReason) × (stamp : Stamp) × (xs ≡ map Load loads ++ End reason stamp ∷ [])

  -- the law of a pair that was fresh: what was taken, followed by what the link holds, is what was put, in
  -- order; so are the grants; and End was put last and once if the link has ended, else not at all
  pub record KeepsOrder (steps : List (Step T)) (o : PlainOut T) (i : PlainIn T) : Type 0 where
    pub items : takes_of steps ++ items_held o i ≡ puts_of steps
    pub grants : gains_of steps ++ grants_held o i ≡ grants_of steps
    pub loads : o.ended ≡ false → AreLoads (puts_of steps)
    pub ended : o.ended ≡ true → AreLoadsThenEnd (puts_of steps)
