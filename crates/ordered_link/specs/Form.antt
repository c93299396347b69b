-- The order of the items of a link.
use Rattle.std.specs.Prelude.{Bool, false, not, List, [], ◌∷◌}
use Rattle.ordered_link.specs.declared.item.Item.{Item}
use Rattle.ordered_link.specs.declared.item.Item.TheVariants.{Load, End}

module _ {T : Type 0} where
  -- loads, and then one End if the link has ended
  abbrev pub is_in_form : Bool → List (Item T) → Bool
  is_in_form ended [] = not ended
  is_in_form ended (Load x ∷ xs) = is_in_form ended xs
  is_in_form ended (End r s ∷ []) = ended
  is_in_form ended (End r s ∷ x ∷ xs) = false
