-- A member that comes, in lists: it stands directly after the one that admits it, and repeats that one's number.
use Rattle.std.proofs.Common.{◌≡◌, ℕ, ◌<◌, Bool, true, false, cond, List, [], ◌∷◌, ◌++◌, refl, sym, ap, ◌∙◌, append_assoc, nat_eq}
use Rattle.std.specs.Prelude.{⊤}
use Rattle.std.specs.List.{filter, flat_map}
use Rattle.std.proofs.lemmas.Bool.{false≢true}
use Rattle.std.proofs.lemmas.List.{append-nil}
use Rattle.std.proofs.lemmas.Grind.{flat_map-append}
use Rattle.group_view.specs.Ring.{is_in, before, from, rotated}
use Rattle.group_view.proofs.Joining.{one_after, with_after, with_after-append, before-with_after, not_in_after_other}
use Rattle.ring_rules.proofs.rings.Rounds.{nat_eq-is}
use Rattle.ring_rules.proofs.rings.Weakens.{Weakens, same, equal, then, joined, joined_right, under, repeat}
use Rattle.ring_rules.proofs.walks.CountedWalk.{block, stopped_prefix, round}

abbrev pub AllBelow : ℕ → List ℕ → Type 0
AllBelow n [] = ⊤
AllBelow n (q ∷ qs) = (q < n) × AllBelow n qs

pub came_one : (m' : ℕ → List ℕ) (f f' : ℕ → ℕ) (x n a : ℕ) (t : List ℕ) (b : Bool) → nat_eq a x ≡ b → f' a ≡ f a → m' n ≡ [] → f' n ≡ f x → Weakens (f a ∷ t) (f' a ∷ (flat_map (block m' f') (cond b (n ∷ []) []) ++ t))
came_one m' f f' x n a t true e fa mn fn =
    let ax : a ≡ x = nat_eq-is a x e in
    rw (fa, mn, fn, ax) (repeat (f x) t)
came_one m' f f' x n a t false e fa mn fn = rw fa (same (f a ∷ t))

regroup : (m' : ℕ → List ℕ) (f' : ℕ → ℕ) (os : List ℕ) (q : ℕ) (w t ms : List ℕ) → m' q ≡ ms → flat_map (block m' f') os ++ (ms ++ (f' q ∷ (flat_map (block m' f') w ++ t))) ≡ flat_map (block m' f') (os ++ q ∷ w) ++ t
regroup m' f' os q w t ms e = rw (← e) (simp (flat_map-append, append_assoc))

pub came : (m m' : ℕ → List ℕ) (f f' : ℕ → ℕ) (x n a : ℕ) (qs t : List ℕ) → ((q : ℕ) → q < n → m' q ≡ m q) → ((q : ℕ) → q < n → f' q ≡ f q) → m' n ≡ [] → f' n ≡ f x → a < n → AllBelow n qs → Weakens (f a ∷ (flat_map (block m f) qs ++ t)) (f' a ∷ (flat_map (block m' f') (one_after x n a ++ with_after x n qs) ++ t))
came m m' f f' x n a [] t hm hf mn fn al ql =
    then (f a ∷ t) (f' a ∷ (flat_map (block m' f') (one_after x n a) ++ t)) (f' a ∷ (flat_map (block m' f') (one_after x n a ++ []) ++ t))
    (came_one m' f f' x n a t (nat_eq a x) refl (hf a al) mn fn)
    (equal _ _ (ap (λ zs. f' a ∷ (flat_map (block m' f') zs ++ t)) (sym (append-nil (one_after x n a)))))
came m m' f f' x n a (q ∷ qs) t hm hf mn fn al ql =
    let g : List ℕ → List ℕ = flat_map (block m' f') in
    let w : List ℕ = one_after x n q ++ with_after x n qs in
    let u : List ℕ = m q ++ (f q ∷ (flat_map (block m f) qs ++ t)) in
    let v : List ℕ = m q ++ (f' q ∷ (g w ++ t)) in
    then (f a ∷ (((m q ++ f q ∷ []) ++ flat_map (block m f) qs) ++ t)) (f a ∷ u) (f' a ∷ (g (one_after x n a ++ q ∷ w) ++ t))
    (equal _ _ (ap (λ zs. f a ∷ zs) (simp append_assoc)))
    (then (f a ∷ u) (f' a ∷ (g (one_after x n a) ++ u)) (f' a ∷ (g (one_after x n a ++ q ∷ w) ++ t))
    (came_one m' f f' x n a u (nat_eq a x) refl (hf a al) mn fn)
    (then (f' a ∷ (g (one_after x n a) ++ u)) (f' a ∷ (g (one_after x n a) ++ v)) (f' a ∷ (g (one_after x n a ++ q ∷ w) ++ t))
    (under (f' a) (g (one_after x n a) ++ u) (g (one_after x n a) ++ v)
    (joined_right (g (one_after x n a)) u v
    (joined_right (m q) (f q ∷ (flat_map (block m f) qs ++ t)) (f' q ∷ (g w ++ t))
    (came m m' f f' x n q qs t hm hf mn fn ql.0 ql.1))))
    (equal _ _ (ap (λ zs. f' a ∷ zs) (regroup m' f' (one_after x n a) q w t (m q) (hm q ql.0))))))

pub round_came : (e e' m m' l l' : ℕ → List ℕ) (f f' : ℕ → ℕ) (x n y : ℕ) (ys : List ℕ) → ((q : ℕ) → q < n → m' q ≡ m q) → ((q : ℕ) → q < n → f' q ≡ f q) → m' n ≡ [] → f' n ≡ f x → e' y ≡ e y → l' y ≡ l y → y < n → AllBelow n ys → Weakens (round e f m l (y ∷ ys)) (round e' f' m' l' (with_after x n (y ∷ ys)))
round_came e e' m m' l l' f f' x n y ys hm hf mn fn ey ly yl al =
    joined (e y) (e' y) (f y ∷ (flat_map (block m f) ys ++ l y)) (f' y ∷ (flat_map (block m' f') (one_after x n y ++ with_after x n ys) ++ l' y))
    (equal (e y) (e' y) (sym ey))
    (rw ly (came m m' f f' x n y ys (l y) hm hf mn fn yl al))

-- ---- who runs, where one comes

pub from_skips : (z n : ℕ) (b : Bool) (us : List ℕ) → nat_eq n z ≡ false → from z (cond b (n ∷ []) [] ++ us) ≡ from z us
from_skips z n true us e = rw e refl
from_skips z n false us e = refl

pub from-with_after : (z a n : ℕ) (xs : List ℕ) → nat_eq n z ≡ false → from z (with_after a n xs) ≡ with_after a n (from z xs)
from-with_after z a n [] e = refl
from-with_after z a n (x ∷ xs) e = by_case (nat_eq x z) (from-with_after z a n xs e)
  where
    by_case : (b : Bool) → from z (with_after a n xs) ≡ with_after a n (from z xs) → cond b (x ∷ (one_after a n x ++ with_after a n xs)) (from z (one_after a n x ++ with_after a n xs)) ≡ with_after a n (cond b (x ∷ xs) (from z xs))
    by_case true ih = refl
    by_case false ih = from_skips z n (nat_eq x a) (with_after a n xs) e ∙ ih

pub rotated-with_after : (z a n : ℕ) (xs : List ℕ) → nat_eq n z ≡ false → rotated z (with_after a n xs) ≡ with_after a n (rotated z xs)
rotated-with_after z a n xs e = rw (from-with_after z a n xs e, before-with_after z a n xs e) (sym (with_after-append a n (from z xs) (before z xs)))

pub AllBelow-filter : (r : ℕ → Bool) (n : ℕ) (xs : List ℕ) → AllBelow n xs → AllBelow n (filter r xs)
AllBelow-filter r n [] h = tt
AllBelow-filter r n (x ∷ xs) h = by_case (r x) (AllBelow-filter r n xs h.1)
  where
    by_case : (b : Bool) → AllBelow n (filter r xs) → AllBelow n (cond b (x ∷ filter r xs) (filter r xs))
    by_case true k = (h.0, k)
    by_case false k = k

pub filter-with_after : (r r' : ℕ → Bool) (a n : ℕ) (xs : List ℕ) → AllBelow n xs → ((q : ℕ) → q < n → r' q ≡ r q) → r' n ≡ true → r a ≡ true → filter r' (with_after a n xs) ≡ with_after a n (filter r xs)
filter-with_after r r' a n [] al h rn ra = refl
filter-with_after r r' a n (x ∷ xs) al h rn ra = rw (h x al.0) (by_case (r x) refl (nat_eq x a) refl (filter-with_after r r' a n xs al.1 h rn ra))
  where
    by_case : (b : Bool) → r x ≡ b → (c : Bool) → nat_eq x a ≡ c → filter r' (with_after a n xs) ≡ with_after a n (filter r xs) → cond b (x ∷ filter r' (cond c (n ∷ []) [] ++ with_after a n xs)) (filter r' (cond c (n ∷ []) [] ++ with_after a n xs)) ≡ with_after a n (cond b (x ∷ filter r xs) (filter r xs))
    by_case true eb true ec ih = rw (ec, rn) (ap (λ us. x ∷ (n ∷ us)) ih)
    by_case true eb false ec ih = rw ec (ap (λ us. x ∷ us) ih)
    by_case false eb true ec ih = absurd (false≢true (sym eb ∙ ap r (nat_eq-is x a ec) ∙ ra))
    by_case false eb false ec ih = ih

pub prefix-with_after : (r r' : ℕ → Bool) (a n : ℕ) (xs : List ℕ) → AllBelow n xs → ((q : ℕ) → q < n → r' q ≡ r q) → r a ≡ true → stopped_prefix r' (with_after a n xs) ≡ stopped_prefix r xs
prefix-with_after r r' a n [] al h ra = refl
prefix-with_after r r' a n (x ∷ xs) al h ra = rw (h x al.0) (by_case (r x) refl (nat_eq x a) refl (prefix-with_after r r' a n xs al.1 h ra))
  where
    by_case : (b : Bool) → r x ≡ b → (c : Bool) → nat_eq x a ≡ c → stopped_prefix r' (with_after a n xs) ≡ stopped_prefix r xs → cond b [] (x ∷ stopped_prefix r' (cond c (n ∷ []) [] ++ with_after a n xs)) ≡ cond b [] (x ∷ stopped_prefix r xs)
    by_case true eb c ec ih = refl
    by_case false eb true ec ih = absurd (false≢true (sym eb ∙ ap r (nat_eq-is x a ec) ∙ ra))
    by_case false eb false ec ih = ap (λ us. x ∷ us) ih

pub below_rotated : (n p : ℕ) (xs : List ℕ) → AllBelow n xs → AllBelow n (rotated p xs)
below_rotated n p xs h = join (from p xs) (before p xs) (tail xs h) (head xs h)
  where
    join : (us vs : List ℕ) → AllBelow n us → AllBelow n vs → AllBelow n (us ++ vs)
    join [] vs a b = b
    join (u ∷ us) vs a b = (a.0, join us vs a.1 b)

    tail : (us : List ℕ) → AllBelow n us → AllBelow n (from p us)
    tail [] a = tt
    tail (u ∷ us) a = by_case (nat_eq u p) (tail us a.1)
      where
        by_case : (b : Bool) → AllBelow n (from p us) → AllBelow n (cond b (u ∷ us) (from p us))
        by_case true k = a
        by_case false k = k

    head : (us : List ℕ) → AllBelow n us → AllBelow n (before p us)
    head [] a = tt
    head (u ∷ us) a = by_case (nat_eq u p) (head us a.1)
      where
        by_case : (b : Bool) → AllBelow n (before p us) → AllBelow n (cond b [] (u ∷ before p us))
        by_case true k = tt
        by_case false k = (a.0, k)

-- who stands among them: the one that came, or one that was there
pub in_with_after : (m n b : ℕ) (xs : List ℕ) → nat_eq b n ≡ false → is_in b (with_after m n xs) ≡ true → is_in b xs ≡ true
in_with_after m n b xs e h = by_test (is_in b xs) refl
  where
    by_test : (c : Bool) → is_in b xs ≡ c → c ≡ true
    by_test true k = refl
    by_test false k = absurd (false≢true (sym (not_in_after_other m n b xs e k) ∙ h))

pub in_one_after : (m n b y : ℕ) (xs : List ℕ) → nat_eq b n ≡ false → is_in b (one_after m n y ++ with_after m n xs) ≡ true → is_in b xs ≡ true
in_one_after m n b y xs e h = by_case (nat_eq y m) h
  where
    by_case : (c : Bool) → is_in b (cond c (n ∷ []) [] ++ with_after m n xs) ≡ true → is_in b xs ≡ true
    by_case true k = in_with_after m n b xs e (rw e at k)
    by_case false k = in_with_after m n b xs e k
