-- Lists: what stands at their places, what is made of each element, and what passes a test.
use Rattle.std.proofs.Common.{◌≡◌, ℕ, ◌+◌, ◌<◌, ◌≤◌, Bool, false, List, [], ◌∷◌, length, sym, ◌∙◌, arith, refl, zero, suc, ◌++◌, slice_get, Some, ap, map, get_or, set}
use Rattle.std.specs.Prelude.{IsSome, IfSome, Option, None}
use Rattle.std.specs.List.{filter, range_with_len}
use Rattle.std.proofs.lemmas.List.FromFn.{map-range_with_len_more}
use Rattle.std.proofs.lemmas.List.{length-map, get_or-map, map-set, get_or-set_same, map-append}
use Rattle.group_view.proofs.Neighbours.{filter_none}
use Rattle.gm_member.proofs.DoorLists.{filter_agree}
pub use Rattle.std.proofs.lemmas.Grind.{flat_map-append}
pub use Rattle.std.proofs.lemmas.Option.{slice_get_within}
pub use Rattle.ring_rules.proofs.work.Rows.{length-rest}

-- what holds of a value that is there
pub if_some_from : {A : Type 0} (P Q : A → Type 0) (o : Option A) → (IsSome o → (x : A) → P x → Q x) → IfSome o P → IfSome o Q
if_some_from P Q None h p = p
if_some_from P Q (Some x) h p = h refl x p

-- what stands at a place of a list with one more
pub slice_get_front : {A : Type 0} (xs ys : List A) (k : ℕ) → k < length xs → slice_get (xs ++ ys) k ≡ slice_get xs k
slice_get_front [] ys k l = absurd (omega arith)
slice_get_front (x ∷ xs) ys zero l = refl
slice_get_front (x ∷ xs) ys (suc k) l = slice_get_front xs ys k (omega arith)

pub slice_get_last : {A : Type 0} (xs : List A) (y : A) (k : ℕ) → k ≡ length xs → slice_get (xs ++ y ∷ []) k ≡ Some y
slice_get_last [] y zero e = refl
slice_get_last [] y (suc k) e = absurd (omega arith)
slice_get_last (x ∷ xs) y zero e = absurd (omega arith)
slice_get_last (x ∷ xs) y (suc k) e = slice_get_last xs y k (omega arith)

pub some_injective : {A : Type 0} (x y : A) → Some x ≡ Some y → x ≡ y
some_injective x y e = cc

-- what a read of an element shows
pub mapped_read : {A B : Type 0} (f : A → B) (xs : List A) (i : ℕ) (x : A) (d : B) → i < length xs → x ≡ get_or xs i x → get_or (map f xs) i d ≡ f x
mapped_read f xs i x d l e = get_or-map f xs i x d l ∙ ap f (sym e)

-- a write changes nothing but its place
pub mapped_written : {A B : Type 0} (f : A → B) (xs : List A) (i : ℕ) (y : A) (d : B) → i < length xs → map f (set xs i y) ≡ set (map f xs) i (get_or (map f (set xs i y)) i d)
mapped_written f xs i y d l =
    map-set f xs i y ∙ ap (set (map f xs) i) (sym (get_or-set_same (map f xs) i (f y) d (rw length-map l)) ∙ ap (λ zs. get_or zs i d) (sym (map-set f xs i y)))

pub mapped_new : {A B : Type 0} (f : A → B) (xs : List A) (i : ℕ) (y : A) (d : B) → i < length xs → get_or (map f (set xs i y)) i d ≡ f y
mapped_new f xs i y d l = ap (λ zs. get_or zs i d) (map-set f xs i y) ∙ get_or-set_same (map f xs) i (f y) d (rw length-map l)

-- a tabled list that gains an element
pub grown : {A B : Type 0} (f : A → B) (g : ℕ → B) (xs ys : List A) (y : A) (k : ℕ) → ys ≡ xs ++ y ∷ [] → map f xs ≡ map g (range_with_len 0 k) → f y ≡ g k → map f ys ≡ map g (range_with_len 0 (k + 1))
grown f g xs ys y k e h here = ap (map f) e ∙ map-append f xs (y ∷ []) ∙ ap (λ zs. zs ++ f y ∷ []) h ∙ ap (λ z. map g (range_with_len 0 k) ++ z ∷ []) here ∙ sym (map-range_with_len_more g 0 k k (omega arith))

-- a test that is false of each number of a range passes none
pub none_of_range : (t : ℕ → Bool) (a n : ℕ) → ((s : ℕ) → a ≤ s → s < a + n → t s ≡ false) → filter t (range_with_len a n) ≡ []
none_of_range t a n h = filter_agree t (λ _. false) a n h ∙ filter_none (λ _. false) (range_with_len a n) (λ _ _. refl)
