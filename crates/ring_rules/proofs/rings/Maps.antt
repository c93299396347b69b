-- Lists that are mapped: where an element is read, and where one is written.
use Rattle.std.proofs.Common.{◌≡◌, ◌≢◌, subst, ℕ, zero, suc, ◌≤◌, arith, ◌+◌, List, [], ◌∷◌, length, map, Bool, true, false, cond, not, get_or, set, ◌<◌, refl, sym, ap, ◌∙◌}
use Rattle.std.specs.List.{position, prefix_len, range_with_len, flat_map}
use Rattle.std.proofs.lemmas.List.{length-map, get_or-map, map-set, set-get_or}
use Rattle.ring_rules.proofs.rings.Writes.{at_set}

pub prefix_len-map : {X Y : Type 0} (p : X → Bool) (h : Y → X) (ys : List Y) → prefix_len p (map h ys) ≡ prefix_len (λ y. p (h y)) ys
prefix_len-map p h [] = refl
prefix_len-map p h (y ∷ ys) = elim (p (h y)) as (λ b. cond b (1 + prefix_len p (map h ys)) 0 ≡ cond b (1 + prefix_len (λ y. p (h y)) ys) 0) [ true ↦ ap (λ n. 1 + n) (prefix_len-map p h ys) | false ↦ refl ]

pub position_map : {X Y : Type 0} (p : X → Bool) (h : Y → X) (ys : List Y) → position p (map h ys) ≡ position (λ y. p (h y)) ys
position_map p h ys = rw (prefix_len-map (λ x. not (p x)) h ys, length-map ys h)

-- the element that is read, as the mapped list shows it
pub mapped_read : {A B : Type 0} (f : A → B) (xs : List A) (i : ℕ) (x : A) (d : B) → i < length xs → x ≡ get_or xs i x → f x ≡ get_or (map f xs) i d
mapped_read f xs i x d l e = ap f e ∙ sym (get_or-map f xs i x d l)

-- a write of an element that its old one determines: u says how
pub mapped_write : {A B : Type 0} (f : A → B) (u : B → B) (xs : List A) (i : ℕ) (x y : A) (d : B) → i < length xs → x ≡ get_or xs i x → f y ≡ u (f x) → map f (set xs i y) ≡ set (map f xs) i (u (get_or (map f xs) i d))
mapped_write f u xs i x y d l e g = map-set f xs i y ∙ ap (set (map f xs) i) (g ∙ ap u (mapped_read f xs i x d l e))

-- a write that shows nothing
pub mapped_rewrite : {A B : Type 0} (f : A → B) (xs : List A) (i : ℕ) (x y : A) → i < length xs → x ≡ get_or xs i x → f y ≡ f x → map f (set xs i y) ≡ map f xs
mapped_rewrite f xs i x y l e g = map-set f xs i y ∙ ap (set (map f xs) i) (g ∙ mapped_read f xs i x (f x) l e) ∙ set-get_or (map f xs) i (f x)

-- at_set through a map
pub at_mapped_set : {A B : Type 0} (P : ℕ → B → Type 0) (f : A → B) (xs : List A) (i q : ℕ) (y : A) (d : B) → i < length xs → P i (f y) → (q ≢ i → P q (get_or (map f xs) q d)) → P q (get_or (map f (set xs i y)) q d)
at_mapped_set P f xs i q y d l here other =
    let l' : i < length (map f xs) = rw length-map l in
    subst (λ zs. P q (get_or zs q d)) (sym (map-set f xs i y)) (at_set P (map f xs) i q (f y) d l' here other)

-- ---- what is made of each of several numbers

pub map-range_same_from : {A : Type 0} (f g : ℕ → A) (a n : ℕ) → ((k : ℕ) → a ≤ k → k < a + n → f k ≡ g k) → map f (range_with_len a n) ≡ map g (range_with_len a n)
map-range_same_from f g a zero h = refl
map-range_same_from f g a (suc n) h = ap (λ x. x ∷ map f (range_with_len (a + 1) n)) (h a (omega arith) (omega arith)) ∙ ap (λ xs. g a ∷ xs) (map-range_same_from f g (a + 1) n (λ k l m. h k (omega arith) (omega arith)))

pub map-range_same : {A : Type 0} (f g : ℕ → A) (n : ℕ) → ((k : ℕ) → k < n → f k ≡ g k) → map f (range_with_len 0 n) ≡ map g (range_with_len 0 n)
map-range_same f g n h = map-range_same_from f g 0 n (λ k l m. h k (omega arith))

-- lists that are the same below a number
pub flat-range_same : {A : Type 0} (f g : ℕ → List A) (a n : ℕ) → ((p : ℕ) → p < a + n → f p ≡ g p) → flat_map f (range_with_len a n) ≡ flat_map g (range_with_len a n)
flat-range_same f g a zero h = refl
flat-range_same f g a (suc n) h = rw (h a (omega arith), flat-range_same f g (a + 1) n (λ p lt. h p (omega arith))) refl
