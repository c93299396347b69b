-- Lists of what is made of the places of links, where what stands at one place changes.
use Rattle.std.proofs.Common.{◌≡◌, ◌≢◌, ℕ, zero, suc, ◌<◌, Bool, true, false, cond, nat_eq, List, [], ◌∷◌, length, get_or, set, map, refl, sym, ap, subst, ◌∙◌, arith}
use Rattle.std.specs.Prelude.{◌&&◌}
use Rattle.std.specs.List.{filter}
use Rattle.std.proofs.lemmas.Bool.{false≢true, and_right}
use Rattle.group_view.specs.Ring.{is_in, AreDistinct}
use Rattle.group_view.proofs.Rings.{nat_eq-same, nat_eq-not}
use Rattle.ring_rules.proofs.rings.Rounds.{nat_eq-is}
use Rattle.group_view.proofs.Rings.{in_head, in_tail as in_rest}

-- ---- what stands where

-- another one at a place
abbrev pub placed : {A : Type 0} → (ℕ → A) → ℕ → A → ℕ → A
placed f s a k = cond (nat_eq k s) a (f k)

pub placed_same : {A : Type 0} (f : ℕ → A) (s : ℕ) (a : A) → placed f s a s ≡ a
placed_same f s a = ap (λ b. cond b a (f s)) (nat_eq-same s)

pub placed_other : {A : Type 0} (f : ℕ → A) (s : ℕ) (a : A) (k : ℕ) → k ≢ s → placed f s a k ≡ f k
placed_other f s a k ne = ap (λ b. cond b a (f k)) (nat_eq-not k s ne)

-- ---- who is in a list

-- in one that begins with another
pub in_tail : (s x : ℕ) (xs : List ℕ) → is_in s (x ∷ xs) ≡ false → (s ≢ x) × (is_in s xs ≡ false)
in_tail s x xs h = by_case (nat_eq s x) refl h
  where
    by_case : (b : Bool) → nat_eq s x ≡ b → cond b true (is_in s xs) ≡ false → (s ≢ x) × (is_in s xs ≡ false)
    by_case true e k = absurd (false≢true (sym k))
    by_case false e k = (λ (same : s ≡ x). false≢true (sym e ∙ ap (nat_eq s) (sym same) ∙ nat_eq-same s), k)

-- of those that pass
pub in_filter : (t : ℕ → Bool) (s : ℕ) (xs : List ℕ) → is_in s (filter t xs) ≡ (t s && is_in s xs)
in_filter t s [] = sym (and_right (t s) false refl)
in_filter t s (x ∷ xs) = by_case (in_filter t s xs) (t x) refl (nat_eq s x) refl
  where
    by_case : is_in s (filter t xs) ≡ (t s && is_in s xs) → (b : Bool) → t x ≡ b → (c : Bool) → nat_eq s x ≡ c → is_in s (cond b (x ∷ filter t xs) (filter t xs)) ≡ (t s && cond c true (is_in s xs))
    by_case ih true eb true ec = ap (λ q. cond q true (is_in s (filter t xs))) ec ∙ sym (ap (λ q. q && true) (ap t (nat_eq-is s x ec) ∙ eb))
    by_case ih true eb false ec = ap (λ q. cond q true (is_in s (filter t xs))) ec ∙ ih
    by_case ih false eb true ec =
        let none : t s ≡ false = ap t (nat_eq-is s x ec) ∙ eb in
        ih ∙ ap (λ q. q && is_in s xs) none ∙ sym (ap (λ q. q && true) none)
    by_case ih false eb false ec = ih

-- one that stands at a place is there
pub at_in : (xs : List ℕ) (i : ℕ) → i < length xs → is_in (get_or xs i 0) xs ≡ true
at_in [] i l = absurd (omega arith)
at_in (x ∷ xs) zero l = in_head x xs
at_in (x ∷ xs) (suc i) l = in_rest (get_or xs i 0) x xs (at_in xs i (omega arith))

-- and one that is there stands at a place
pub in_at : (s : ℕ) (xs : List ℕ) → is_in s xs ≡ true → (i : ℕ) × (i < length xs) × (get_or xs i 0 ≡ s)
in_at s [] h = absurd (false≢true h)
in_at s (x ∷ xs) h = by_case (nat_eq s x) refl h (λ k. in_at s xs k)
  where
    by_case : (b : Bool) → nat_eq s x ≡ b → cond b true (is_in s xs) ≡ true → (is_in s xs ≡ true → (i : ℕ) × (i < length xs) × (get_or xs i 0 ≡ s)) → (i : ℕ) × (i < suc (length xs)) × (get_or (x ∷ xs) i 0 ≡ s)
    by_case true e k ih = (0, omega arith, sym (nat_eq-is s x e))
    by_case false e k ih = let f = ih k in (suc f.0, (let l : f.0 < length xs = f.1 in omega arith), f.2)

-- ---- none twice

pub distinct_filter : (t : ℕ → Bool) (xs : List ℕ) → AreDistinct xs → AreDistinct (filter t xs)
distinct_filter t [] d = tt
distinct_filter t (x ∷ xs) d = by_case (distinct_filter t xs d.1) (t x)
  where
    not_there : is_in x (filter t xs) ≡ false
    not_there = in_filter t x xs ∙ and_right (t x) (is_in x xs) d.0

    by_case : AreDistinct (filter t xs) → (b : Bool) → AreDistinct (cond b (x ∷ filter t xs) (filter t xs))
    by_case ih true = (not_there, ih)
    by_case ih false = ih

-- of one more that pass
pub distinct_rest : (t : ℕ → Bool) (x : ℕ) (xs : List ℕ) → AreDistinct (filter t (x ∷ xs)) → AreDistinct (filter t xs)
distinct_rest t x xs d = by_case (t x) d
  where
    by_case : (b : Bool) → AreDistinct (cond b (x ∷ filter t xs) (filter t xs)) → AreDistinct (filter t xs)
    by_case true k = k.1
    by_case false k = k

-- the first that passes isn't there again
pub distinct_head : (t : ℕ → Bool) (x : ℕ) (xs : List ℕ) → AreDistinct (filter t (x ∷ xs)) → t x ≡ true → is_in x xs ≡ false
distinct_head t x xs d e =
    let k : (is_in x (filter t xs) ≡ false) × AreDistinct (filter t xs) = subst (λ b. AreDistinct (cond b (x ∷ filter t xs) (filter t xs))) e d in
    sym (in_filter t x xs ∙ ap (λ b. b && is_in x xs) e) ∙ k.0

-- ---- what is made of each

-- the same of each that is there
pub map_agree : {A : Type 0} (f g : ℕ → A) (xs : List ℕ) → ((s : ℕ) → is_in s xs ≡ true → f s ≡ g s) → map f xs ≡ map g xs
map_agree f g [] h = refl
map_agree f g (x ∷ xs) h = ap (λ a. a ∷ map f xs) (h x (in_head x xs)) ∙ ap (λ ys. g x ∷ ys) (map_agree f g xs (λ s e. h s (in_rest s x xs e)))

-- ---- one changes

-- where it isn't there, all are as before
pub map_other : {A : Type 0} (f g : ℕ → A) (xs : List ℕ) (s : ℕ) → is_in s xs ≡ false → ((k : ℕ) → k ≢ s → g k ≡ f k) → map g xs ≡ map f xs
map_other f g [] s h same = refl
map_other f g (x ∷ xs) s h same =
    let t = in_tail s x xs h in
    ap (λ a. a ∷ map g xs) (same x (λ (e : x ≡ s). t.0 (sym e))) ∙ ap (λ ys. f x ∷ ys) (map_other f g xs s t.1 same)

-- where it stands there once among those that pass a test, and passes
pub set_made : {A : Type 0} (f g : ℕ → A) (t : ℕ → Bool) (xs : List ℕ) (j s : ℕ) (v : A) → AreDistinct (filter t xs) → t s ≡ true → j < length xs → get_or xs j 0 ≡ s → g s ≡ v → ((k : ℕ) → k ≢ s → g k ≡ f k) → set (map f xs) j v ≡ map g xs
set_made f g t [] j s v d ts l e gs same = absurd (omega arith)
set_made f g t (x ∷ xs) zero s v d ts l e gs same =
    let none : is_in s xs ≡ false = subst (λ k. is_in k xs ≡ false) e (distinct_head t x xs d (ap t e ∙ ts)) in
    ap (λ a. a ∷ map f xs) (sym gs ∙ ap g (sym e)) ∙ ap (λ ys. g x ∷ ys) (sym (map_other f g xs s none same))
set_made f g t (x ∷ xs) (suc j) s v d ts l e gs same =
    let there : j < length xs = omega arith in
    let is : is_in s xs ≡ true = subst (λ k. is_in k xs ≡ true) e (at_in xs j there) in
    let apart : x ≢ s = λ (k : x ≡ s). false≢true (sym (subst (λ i. is_in i xs ≡ false) k (distinct_head t x xs d (ap t k ∙ ts))) ∙ is) in
    ap (λ a. a ∷ set (map f xs) j v) (sym (same x apart)) ∙ ap (λ ys. g x ∷ ys) (set_made f g t xs j s v (distinct_rest t x xs d) ts there e gs same)
