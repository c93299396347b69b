-- A link that has not ended takes one more item.
use Rattle.std.proofs.Common.{◌≡◌, true, false, List, [], ◌∷◌, ◌++◌, refl, ap}
use Rattle.ring_names.specs.declared.numbers.Stamp.{Stamp}
use Rattle.ordered_link.specs.declared.item.EndReason.{EndReason}
use Rattle.ordered_link.specs.declared.item.Item.{Item}
use Rattle.ordered_link.specs.declared.item.Item.TheVariants.{Load, End}
use Rattle.ordered_link.specs.Form.{is_in_form}
use Rattle.ordered_link.specs.Runs.{AreLoads, AreLoadsThenEnd}

module _ {T : Type 0} where
  -- it may be a load
  pub is_in_form-load : (xs : List (Item T)) (x : T) → is_in_form false xs ≡ true → is_in_form false (xs ++ Load x ∷ []) ≡ true
  is_in_form-load [] x h = refl
  is_in_form-load (Load y ∷ xs) x h = is_in_form-load xs x h
  is_in_form-load (End r s ∷ []) x h = cc
  is_in_form-load (End r s ∷ y ∷ ys) x h = cc

  -- or End
  pub is_in_form-end : (xs : List (Item T)) (r : EndReason) (s : Stamp) → is_in_form false xs ≡ true → is_in_form true (xs ++ End r s ∷ []) ≡ true
  is_in_form-end [] r s h = refl
  is_in_form-end (Load y ∷ xs) r s h = is_in_form-end xs r s h
  is_in_form-end (End q t ∷ []) r s h = cc
  is_in_form-end (End q t ∷ y ∷ ys) r s h = cc

  -- while it is open it has loads alone
  pub form_loads : (xs : List (Item T)) → is_in_form false xs ≡ true → AreLoads xs
  form_loads [] h = ([], refl)
  form_loads (Load x ∷ xs) h = let (loads, are) = form_loads xs h in (x ∷ loads, ap (λ ys. Load x ∷ ys) are)
  form_loads (End r s ∷ []) h = cc
  form_loads (End r s ∷ y ∷ ys) h = cc

  -- once it has ended it has loads and one End
  pub form_ended : (xs : List (Item T)) → is_in_form true xs ≡ true → AreLoadsThenEnd xs
  form_ended [] h = cc
  form_ended (Load x ∷ xs) h = let (loads, r, s, are) = form_ended xs h in (x ∷ loads, r, s, ap (λ ys. Load x ∷ ys) are)
  form_ended (End r s ∷ []) h = ([], r, s, refl)
  form_ended (End r s ∷ y ∷ ys) h = cc

pub ruleset in_form_rules = (is_in_form-load, is_in_form-end)
