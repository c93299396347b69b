-- The items of a queue, each with the place of its Publish in the list of operations.
use Rattle.std.specs.Prelude.{ℕ, ◌+◌, Bool, nat_lt, nat_le, List, [], ◌∷◌, ◌++◌, map}
use Rattle.std.specs.List.{filter}
use Rattle.queue_core.specs.declared.op.Op.{Op}
use Rattle.queue_core.specs.Queue.{Item, stays, changed, born}

-- an item, and the place of its Publish
pub record Placed : Type 0 where
  pub place : ℕ
  pub item : Item

-- the items
abbrev pub items_of : List Placed → List Item
items_of ps = map (λ p. p.item) ps

-- the same place, with the item after the operation
abbrev pub changed_at : Op → Placed → Placed
changed_at op p = record p { item = changed op p.item }

-- whether it stays
abbrev pub stays_at : Op → Placed → Bool
stays_at op p = stays op p.item

-- an item whose Publish stands at that place
abbrev pub put_at : ℕ → Item → Placed
put_at n i = record { place = n; item = i }

-- what an operation leaves
abbrev pub placed_kept : Op → List Placed → List Placed
placed_kept op ps = map (changed_at op) (filter (stays_at op) ps)

-- what the operation at place n brings
abbrev pub placed_born : ℕ → Op → List Placed → List Placed
placed_born n op ps = map (put_at n) (born op (items_of ps))

-- after these operations, the first of which is at place n
abbrev pub placed : ℕ → List Placed → List Op → List Placed
placed n ps [] = ps
placed n ps (op ∷ l) = placed (n + 1) (placed_kept op ps ++ placed_born n op ps) l

-- the items of the queue whose Publish stands after the first f operations
abbrev pub published_since : ℕ → List Op → List Item
published_since f l = items_of (filter (λ p. nat_le f p.place) (placed 0 [] l))

-- and the others
abbrev pub published_before : ℕ → List Op → List Item
published_before f l = items_of (filter (λ p. nat_lt p.place f) (placed 0 [] l))
