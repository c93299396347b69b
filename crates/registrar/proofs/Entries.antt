-- Whether an id is among others.
use Rattle.std.proofs.Common.{◌≡◌, ℕ, Bool, true, false, cond, nat_eq, List, [], ◌∷◌, refl}
use Rattle.std.specs.Prelude.{◌||◌, map}
use Rattle.std.specs.List.{list_any}
use Rattle.ring_names.specs.declared.numbers.MemberId.{MemberId}
use Rattle.group_view.specs.Ring.{is_in}
use Rattle.group_view.specs.View.{number}

-- an id is one of those of a list where one of them is it
pub any_is : (xs : List MemberId) (p : ℕ) → list_any (λ i. nat_eq p i.0) xs ≡ is_in p (map number xs)
any_is [] p = refl
any_is (x ∷ xs) p = by_case (nat_eq p x.0) (any_is xs p)
  where
    by_case : (b : Bool) → list_any (λ i. nat_eq p i.0) xs ≡ is_in p (map number xs) → (b || list_any (λ i. nat_eq p i.0) xs) ≡ cond b true (is_in p (map number xs))
    by_case true h = refl
    by_case false h = h
