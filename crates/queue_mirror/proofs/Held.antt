-- What is handed out is held.
use Rattle.std.proofs.Common.{◌≡◌, ℕ, true, false, cond, List, [], ◌∷◌, sym, ⊎_elim}
use Rattle.std.specs.Prelude.{Ok, Err}
use Rattle.std.specs.List.{list_any}
use Rattle.std.proofs.lemmas.Bool.{cases_Bool, and_parts, or_left, or_right, false≢true}
use Rattle.ring_names.specs.declared.reason.Reason.TheVariants.{NotDelivered, UnknownPosition}
use Rattle.queue_core.specs.Queue.{Item, is_at, is_unacked, is_unacked_at}
use Rattle.queue_core.specs.Shown.{delivery_of}

handed_held : (a : ℕ) (xs : List Item) → list_any (is_unacked_at a) xs ≡ true → list_any (is_at a) xs ≡ true
handed_held a [] h = absurd (false≢true h)
handed_held a (i ∷ xs) h = ⊎_elim
    (λ (yes : is_unacked_at a i ≡ true). or_left (is_at a i) (list_any (is_at a) xs) (and_parts (is_at a i) (is_unacked i) yes).0)
    (λ (other : is_unacked_at a i ≡ false). or_right (is_at a i) (list_any (is_at a) xs) (handed_held a xs (rw other at h)))
    (cases_Bool (is_unacked_at a i))

pub delivered_held : (a : ℕ) (xs : List Item) → Ok tt ≡ delivery_of a xs → true ≡ list_any (is_at a) xs
delivered_held a xs e = ⊎_elim
    (λ (yes : list_any (is_unacked_at a) xs ≡ true). sym (handed_held a xs yes))
    (λ (none : list_any (is_unacked_at a) xs ≡ false).
    let no_answer : Ok tt ≡ Err (cond (list_any (is_at a) xs) NotDelivered UnknownPosition) = rw none at e in cc)
    (cases_Bool (list_any (is_unacked_at a) xs))
