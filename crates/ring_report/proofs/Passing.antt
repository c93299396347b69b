-- The items of a mirror, one after another, each as the first from behind the one before it.
use Rattle.std.proofs.Common.{◌≡◌, ℕ, zero, suc, ◌+◌, ◌<◌, ◌≤◌, true, Some, List, [], ◌∷◌, ◌++◌, length, take, get_or, refl, sym, ap, ◌∙◌, ⊎_elim, arith}
use Rattle.std.specs.Prelude.{nat_le, nat_lt}
use Rattle.std.specs.List.{flat_map, list_all}
use Rattle.std.proofs.lemmas.Bool.{cases_lt, and_parts, ltb-true, le-leb, lt-leb}
use Rattle.std.proofs.lemmas.List.{flat_map_more, take_more}
use Rattle.std.proofs.lemmas.List.Sums.{position_or_len_is}
use Rattle.queue_core.specs.declared.held.CopyState.TheVariants.{Ready}
use Rattle.queue_core.specs.Queue.{Item, is_above, rises}
use Rattle.queue_core.specs.Shown.{first_from}
use Rattle.queue_core.proofs.Places.{places_rise, first_there}

-- what stands beyond the items
abbrev pub no_item : Item
no_item = record { at = 0; body = []; state = Ready }

-- the first k items stand below a position, and the others from it on
pub record Passes (items : List Item) (k from : ℕ) : Type 0 where
  pub before : (j : ℕ) → j < k → (get_or items j no_item).at < from
  pub after : (j : ℕ) → k ≤ j → j < length items → from ≤ (get_or items j no_item).at

pub passes_all : (items : List Item) → Passes items 0 0
passes_all items = record {
  before = λ j lt. absurd (omega arith);
  after = λ j le within. omega arith;
}

-- so the next one is the first from there
pub passes_first : (items : List Item) (k from : ℕ) → Passes items k from → k < length items → first_from from items ≡ Some (get_or items k no_item)
passes_first items k from p within =
    let there = position_or_len_is (λ i. nat_le from i.at) items k no_item (omega arith)
    (λ j lt. lt-leb from (get_or items j no_item).at (p.before j lt)) (λ lt. le-leb from (get_or items k no_item).at (p.after k (omega arith) lt)) in
    sym (first_there from items k (get_or items k no_item) (sym there) within (get_or_same items k within))
  where
    get_or_same : (xs : List Item) (i : ℕ) → i < length xs → get_or xs i no_item ≡ get_or xs i (get_or xs i no_item)
    get_or_same [] i lt = absurd (omega arith)
    get_or_same (x ∷ xs) zero lt = refl
    get_or_same (x ∷ xs) (suc i) lt = get_or_same xs i (omega arith)

-- and behind it one more has been passed
pub passes_on : (items : List Item) (k from : ℕ) → rises items ≡ true → Passes items k from → k < length items → Passes items (k + 1) ((get_or items k no_item).at + 1)
passes_on items k from r p within = record {
  before = λ j lt. ⊎_elim
      (λ (early : j < k). omega (arith, p.before j early, p.after k (omega arith) within))
      (λ (late : k ≤ j). let same : j ≡ k = omega arith in omega (arith, ap (λ i. (get_or items i no_item).at) same))
      (cases_lt j k);
  after = λ j le lt. omega (arith, places_rise items r k j no_item (omega arith) lt);
}

-- what stands below the next position
pub below : (n : ℕ) (items : List Item) → is_above n items ≡ true → (k : ℕ) → k < length items → (get_or items k no_item).at < n
below n [] h k within = absurd (omega arith)
below n (x ∷ xs) h zero within = ltb-true x.at n (and_parts (nat_lt x.at n) (list_all (λ j. nat_lt j.at n) xs) h).0
below n (x ∷ xs) h (suc k) within = below n xs (and_parts (nat_lt x.at n) (list_all (λ j. nat_lt j.at n) xs) h).1 k (omega arith)

-- the text of the first k items, and that of the next one
pub items_more : (f : Item → List ℕ) (before : List ℕ) (items : List Item) (k : ℕ) → k < length items
    → (before ++ flat_map f (take k items)) ++ f (get_or items k no_item) ≡ before ++ flat_map f (take (k + 1) items)
items_more f before items k within =
    flat_map_more f before (take k items) (get_or items k no_item)
    ∙ ap (λ is. before ++ flat_map f is) (sym (take_more items k no_item within))
