-- The places of the items: their positions rise, so that each position has one place.
use Rattle.std.proofs.Common.{◌≡◌, ℕ, zero, suc, ◌<◌, ◌≤◌, ◌+◌, Bool, true, false, cond, List, [], ◌∷◌, length, get_or, refl, sym, ap, ◌∙◌, arith, ⊎_elim, nat_eq, Option, Some, None}
use Rattle.std.specs.Prelude.{◌&&◌, ◌||◌, not, nat_lt, nat_le, option_map, slice_get, find, Result, Ok, Err}
use Rattle.std.specs.List.{list_any, list_all, position_or_len}
use Rattle.std.specs.List.Sorted.{IsPartitionedBy, IsPartitionPoint}
use Rattle.std.proofs.lemmas.Bool.{cases_lt, and_parts, and_left, or_from, or_parts, ltb-true, leb-true, leb-false, lt-leb, eqb-true, eq-eqb, ne_eqb, not-true, not-false, not_from_false, false≢true}
use Rattle.std.proofs.lemmas.Bool.Decides.{nat_tests}
use Rattle.std.proofs.lemmas.List.Sums.{prefix_len_is, prefix_len_passes, prefix_len_stops}
use Rattle.std.proofs.lemmas.List.Folds.{find_at}
use Rattle.std.proofs.lemmas.Option.{slice_get_read, slice_get_past}
use Rattle.std.proofs.Math.Bool.{and-true, or-false}
use Rattle.ring_names.specs.declared.reason.Reason.{Reason}
use Rattle.ring_names.specs.declared.reason.Reason.TheVariants.{UnknownPosition, NotDelivered}
use Rattle.queue_core.specs.Queue.{Item, is_at, is_ready, is_unacked, is_ready_at, is_unacked_at, is_above, new_item, rises}
use Rattle.queue_core.specs.Legal.{least_ready}
use Rattle.queue_core.specs.Shown.{delivery_of, first_from}

-- ---- positions by places

-- what stands behind a number stands above it
pub below_all : (n : ℕ) (xs : List Item) → list_all (λ j. nat_lt n j.at) xs ≡ true → (k : ℕ) (d : Item) → k < length xs → n < (get_or xs k d).at
below_all n [] h k d within = absurd (omega arith)
below_all n (x ∷ xs) h zero d within = ltb-true n x.at (and_parts (nat_lt n x.at) (list_all (λ j. nat_lt n j.at) xs) h).0
below_all n (x ∷ xs) h (suc k) d within = below_all n xs (and_parts (nat_lt n x.at) (list_all (λ j. nat_lt n j.at) xs) h).1 k d (omega arith)

-- a later place has a greater position
pub places_rise : (xs : List Item) → rises xs ≡ true → (i j : ℕ) (d : Item) → i < j → j < length xs → (get_or xs i d).at < (get_or xs j d).at
places_rise [] r i j d lt within = absurd (omega arith)
places_rise (x ∷ xs) r i zero d lt within = absurd (omega arith)
places_rise (x ∷ xs) r zero (suc j) d lt within = below_all x.at xs (and_parts (list_all (λ k. nat_lt x.at k.at) xs) (rises xs) r).0 j d (omega arith)
places_rise (x ∷ xs) r (suc i) (suc j) d lt within = places_rise xs (and_parts (list_all (λ k. nat_lt x.at k.at) xs) (rises xs) r).1 i j d (omega arith) (omega arith)

places_le : (xs : List Item) → rises xs ≡ true → (i j : ℕ) (d : Item) → i ≤ j → j < length xs → (get_or xs i d).at ≤ (get_or xs j d).at
places_le xs r i j d le within = ⊎_elim
    (λ (lt : i < j). omega (arith, places_rise xs r i j d lt within))
    (λ (ge : j ≤ i). let same : i ≡ j = omega arith in omega (arith, ap (λ k. (get_or xs k d).at) same))
    (cases_lt i j)

-- a position that stands in no place has no item
none_from_places : (a : ℕ) (xs : List Item) (d : Item) → ((k : ℕ) → k < length xs → (get_or xs k d).at ≡ a → ⊥) → list_any (is_at a) xs ≡ false
none_from_places a [] d h = refl
none_from_places a (x ∷ xs) d h =
    or_from (is_at a x) (list_any (is_at a) xs) (ne_eqb x.at a (h 0 (omega arith)))
    (none_from_places a xs d (λ k within. h (suc k) (omega arith)))

-- ---- the search

-- what stands below a position stands in front
pub below_first : (a : ℕ) (xs : List Item) → rises xs ≡ true → IsPartitionedBy (λ i. not (nat_le a i.at)) xs
below_first a xs r i j d le within up =
    let low : (get_or xs j d).at < a = leb-false a (get_or xs j d).at (not-true (nat_le a (get_or xs j d).at) up) in
    not_from_false (nat_le a (get_or xs i d).at) (lt-leb a (get_or xs i d).at (omega (arith, places_le xs r i j d le within)))

abbrev no_item : Item
no_item = new_item 0 []

-- and ends at the first item from it on
pub from_there : (a : ℕ) (xs : List Item) (n : ℕ) → n ≤ length xs → IsPartitionPoint (λ i. not (nat_le a i.at) ≡ true) (λ i. not (nat_le a i.at) ≡ false) xs n → n ≡ position_or_len (λ i. nat_le a i.at) xs
from_there a xs n within point =
    sym (prefix_len_is (λ i. not (nat_le a i.at)) xs n no_item within (λ k lt. point.0 k no_item (omega arith) lt) (λ lt. point.1 n no_item (omega arith) lt))

module _ (a : ℕ) (xs : List Item) where
  -- the place where it ends
  abbrev there : ℕ
  there = position_or_len (λ i. nat_le a i.at) xs

  -- all before it stands below
  before_there : (k : ℕ) (d : Item) → k < there → (get_or xs k d).at < a
  before_there k d lt = leb-false a (get_or xs k d).at (not-true (nat_le a (get_or xs k d).at) (prefix_len_passes (λ i. not (nat_le a i.at)) xs k d lt))

  -- where that is the end, nothing has the position
  pub none_past : length xs ≤ there → list_any (is_at a) xs ≡ false
  none_past past = none_from_places a xs no_item (λ k within is. absurd (omega (arith, before_there k no_item (omega arith))))

  -- nor where the item there hasn't
  pub none_other : rises xs ≡ true → there < length xs → (d : Item) → is_at a (get_or xs there d) ≡ false → list_any (is_at a) xs ≡ false
  none_other r within d other =
      let from : a ≤ (get_or xs there d).at = leb-true a (get_or xs there d).at (not-false (nat_le a (get_or xs there d).at) (prefix_len_stops (λ i. not (nat_le a i.at)) xs d within)) in
      none_from_places a xs d (λ k in_range is. ⊎_elim
      (λ (lt : k < there). absurd (omega (arith, before_there k d lt)))
      (λ (ge : there ≤ k). ⊎_elim
      (λ (lt : there < k). absurd (omega (arith, from, places_rise xs r there k d lt in_range)))
      (λ (le : k ≤ there).
      let same : k ≡ there = omega arith in
      absurd (false≢true (sym other ∙ ap (λ j. is_at a (get_or xs j d)) (sym same) ∙ eq-eqb (get_or xs k d).at a is)))
      (cases_lt there k))
      (cases_lt k there))

-- ---- tests of one position

-- what passes none of one test passes none of a narrower one
pub none_narrow : (s t : Item → Bool) → ((i : Item) → s i ≡ false → t i ≡ false) → (xs : List Item) → list_any s xs ≡ false → list_any t xs ≡ false
none_narrow s t narrow [] none = refl
none_narrow s t narrow (x ∷ xs) none =
    let p = or_parts (s x) (list_any s xs) none in
    or_from (t x) (list_any t xs) (narrow x p.0) (none_narrow s t narrow xs p.1)

-- what stands above a position isn't there
pub none_behind : (a : ℕ) (xs : List Item) → list_all (λ j. nat_lt a j.at) xs ≡ true → list_any (is_at a) xs ≡ false
none_behind a xs h = none_from_places a xs no_item (λ k within is. absurd (omega (arith, below_all a xs h k no_item within)))

-- of items whose positions rise, at most the one in this place passes a test of its position
pub one_any : (a : ℕ) (t : Item → Bool) → ((i : Item) → is_at a i ≡ false → t i ≡ false) → (xs : List Item) → rises xs ≡ true → (k : ℕ) (d : Item) → k < length xs → (get_or xs k d).at ≡ a → list_any t xs ≡ t (get_or xs k d)
one_any a t narrow [] r k d within is = absurd (omega arith)
one_any a t narrow (x ∷ xs) r zero d within is =
    let p = and_parts (list_all (λ j. nat_lt x.at j.at) xs) (rises xs) r in
    let behind : list_any (is_at a) xs ≡ false = none_behind a xs (ap (λ n. list_all (λ j. nat_lt n j.at) xs) (sym is) ∙ p.0) in
    ap (λ b. t x || b) (none_narrow (is_at a) t narrow xs behind) ∙ or-false (t x)
one_any a t narrow (x ∷ xs) r (suc k) d within is =
    let p = and_parts (list_all (λ j. nat_lt x.at j.at) xs) (rises xs) r in
    let below : x.at < a = omega (arith, below_all x.at xs p.0 k d (omega arith)) in
    let other : t x ≡ false = narrow x (ne_eqb x.at a (λ same. absurd (omega arith))) in
    ap (λ b. b || list_any t xs) other ∙ one_any a t narrow xs p.1 k d (omega arith) is

-- ---- the ends

-- all stands below a position where the last item does
pub last_below : (a : ℕ) (xs : List Item) (n : ℕ) (d : Item) → rises xs ≡ true → length xs ≡ n + 1 → is_above a xs ≡ not (nat_le a (get_or xs n d).at)
last_below a [] n d r is = absurd (omega arith)
last_below a (x ∷ []) zero d r is = and-true (nat_lt x.at a) ∙ turned x.at a
  where
    turned : (m n : ℕ) → nat_lt m n ≡ not (nat_le n m)
    turned m n = grind (arith, nat_tests)
last_below a (x ∷ []) (suc n) d r is = absurd (omega arith)
last_below a (x ∷ y ∷ ys) zero d r is = absurd (omega arith)
last_below a (x ∷ y ∷ ys) (suc n) d r is =
    let p = and_parts (list_all (λ j. nat_lt x.at j.at) (y ∷ ys)) (rises (y ∷ ys)) r in
    let rest : is_above a (y ∷ ys) ≡ not (nat_le a (get_or (y ∷ ys) n d).at) = last_below a (y ∷ ys) n d p.1 (omega arith) in
    let far : x.at < (get_or (y ∷ ys) n d).at = below_all x.at (y ∷ ys) p.0 n d (omega arith) in
    ap (λ b. nat_lt x.at a && b) rest ∙ nearer x.at (get_or (y ∷ ys) n d).at far
  where
    nearer : (m n : ℕ) → m < n → (nat_lt m a && not (nat_le a n)) ≡ not (nat_le a n)
    nearer m n lt = grind (arith, nat_tests)

-- the first ready item
pub least_first : (xs : List Item) → least_ready xs ≡ option_map (λ i. i.at) (find (λ i. is_ready i) xs)
least_first [] = refl
least_first (x ∷ xs) = elim (is_ready x) as (λ b. cond b (Some x.at) (least_ready xs) ≡ option_map (λ (i : Item). i.at) (cond b (Some x) (find (λ i. is_ready i) xs)))
    [ true ↦ refl | false ↦ least_first xs ]

-- the first item from a position on stands in the place where a search ends
pub first_there : (a : ℕ) (xs : List Item) (n : ℕ) (i : Item) → n ≡ there a xs → n < length xs → i ≡ get_or xs n i → Some i ≡ first_from a xs
first_there a xs n i is within read = sym (find_at (λ (j : Item). nat_le a j.at) xs ∙ ap (slice_get xs) (sym is) ∙ slice_get_read xs (length xs) n i refl within read)

-- and there is none where that is the end
pub first_past : (a : ℕ) (xs : List Item) (n : ℕ) → n ≡ there a xs → length xs ≤ n → ◌≡◌ {A = Option Item} None (first_from a xs)
first_past a xs n is past = sym (find_at (λ (j : Item). nat_le a j.at) xs ∙ ap (slice_get xs) (sym is) ∙ slice_get_past xs n past)

-- ---- what is told of a position

-- an item that hasn't a position passes no narrower test of it
pub not_ready_at : (a : ℕ) (i : Item) → is_at a i ≡ false → is_ready_at a i ≡ false
not_ready_at a i other = and_left (nat_eq i.at a) (is_ready i) other

pub not_unacked_at : (a : ℕ) (i : Item) → is_at a i ≡ false → is_unacked_at a i ≡ false
not_unacked_at a i other = and_left (nat_eq i.at a) (is_unacked i) other

abbrev told : Bool → Bool → Result Unit Reason
told handed held = cond handed (Ok tt) (Err (cond held NotDelivered UnknownPosition))

-- that nothing has it
pub delivery_unknown : (a : ℕ) (xs : List Item) → list_any (is_at a) xs ≡ false → ◌≡◌ {A = Result Unit Reason} (Err UnknownPosition) (delivery_of a xs)
delivery_unknown a xs none =
    sym (ap (λ b. told b (list_any (is_at a) xs)) (none_narrow (is_at a) (is_unacked_at a) (not_unacked_at a) xs none) ∙ ap (told false) none)

-- or how the item stands that has
pub delivery_there : (a : ℕ) (xs : List Item) → rises xs ≡ true → (k : ℕ) (d : Item) → k < length xs → is_at a (get_or xs k d) ≡ true → ◌≡◌ {A = Result Unit Reason} (cond (is_unacked (get_or xs k d)) (Ok tt) (Err NotDelivered)) (delivery_of a xs)
delivery_there a xs r k d within here =
    let is : (get_or xs k d).at ≡ a = eqb-true (get_or xs k d).at a here in
    let handed : list_any (is_unacked_at a) xs ≡ is_unacked (get_or xs k d) = one_any a (is_unacked_at a) (not_unacked_at a) xs r k d within is ∙ ap (λ b. b && is_unacked (get_or xs k d)) here in
    let held : list_any (is_at a) xs ≡ true = one_any a (is_at a) (λ i e. e) xs r k d within is ∙ here in
    sym (ap (λ b. told b (list_any (is_at a) xs)) handed ∙ ap (told (is_unacked (get_or xs k d))) held)
