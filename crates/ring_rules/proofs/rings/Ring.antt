-- Rings as lists that are rotated.
use Rattle.std.proofs.Common.{◌≡◌, ℕ, Bool, true, false, cond, List, [], ◌∷◌, ◌++◌, refl, sym, ap, subst, ◌∙◌, nat_eq}
use Rattle.std.specs.List.{filter}
use Rattle.std.proofs.lemmas.List.{append-nil}
use Rattle.std.proofs.lemmas.List.Elements.{filter-append}
use Rattle.std.proofs.lemmas.Bool.{false≢true}
use Rattle.group_view.specs.Ring.{before, after, rotated, others, last_or, is_in, AreDistinct}
use Rattle.ring_rules.proofs.rings.Rounds.{Steps}
use Rattle.group_view.proofs.Neighbours.{last_or-append, last_stronger, not_in_filter}
use Rattle.group_view.proofs.Truth.{first_false}
use Rattle.group_view.proofs.Rings.{is_in-rotated, not_in_before, not_in_first, not_in_others, others-rotated, split_at, nat_eq-is, nat_eq-same, head_differs, tail_lacks}

-- ---- the running members of a ring that is cut somewhere

pub filter-split : (r : ℕ → Bool) (z : ℕ) (c : List ℕ) → is_in z c ≡ true → r z ≡ true → filter r c ≡ filter r (before z c) ++ z ∷ filter r (after z c)
filter-split r z c h rz =
    ap (filter r) (split_at z c h) ∙ filter-append r (before z c) (z ∷ after z c) ∙ ap (λ zs. filter r (before z c) ++ zs) (rw rz refl)

-- where z stands among them, what stands before it is x
abbrev pub IsBefore : ℕ → ℕ → ℕ → ℕ → Type 0
IsBefore x z a b = b ≡ z → a ≡ x

pub steps_none : (x z a : ℕ) (bs : List ℕ) → is_in z bs ≡ false → Steps (IsBefore x z) a bs
steps_none x z a [] h = tt
steps_none x z a (b ∷ bs) h = by_case (nat_eq z b) refl h (λ k. steps_none x z b bs k)
  where
    by_case : (t : Bool) → nat_eq z b ≡ t → cond t true (is_in z bs) ≡ false → (is_in z bs ≡ false → Steps (IsBefore x z) b bs) → Steps (IsBefore x z) a (b ∷ bs)
    by_case true e k ih = absurd (false≢true (sym k))
    by_case false e k ih = (λ (same : b ≡ z). absurd (false≢true (sym e ∙ rw same (nat_eq-same z))), ih k)

pub steps_at : (x z a : ℕ) (us vs : List ℕ) → is_in z us ≡ false → is_in z vs ≡ false → last_or a us ≡ x → Steps (IsBefore x z) a (us ++ z ∷ vs)
steps_at x z a [] vs hu hv e = (λ _. e, steps_none x z z vs hv)
steps_at x z a (u ∷ us) vs hu hv e = by_case (nat_eq z u) refl hu (λ k. steps_at x z u us vs k hv e)
  where
    by_case : (t : Bool) → nat_eq z u ≡ t → cond t true (is_in z us) ≡ false → (is_in z us ≡ false → Steps (IsBefore x z) u (us ++ z ∷ vs)) → Steps (IsBefore x z) a (u ∷ (us ++ z ∷ vs))
    by_case true q k ih = absurd (false≢true (sym k))
    by_case false q k ih = (λ (same : u ≡ z). absurd (false≢true (sym q ∙ rw same (nat_eq-same z))), ih k)

-- of a list of running members
pub record Follows (x z : ℕ) (y : ℕ) (ys : List ℕ) : Type 0 where
  pub steps : Steps (IsBefore x z) y ys
  pub round : y ≡ z → last_or y ys ≡ x

pub follows_parts : (x z y : ℕ) (ys us vs : List ℕ) → y ∷ ys ≡ us ++ z ∷ vs → is_in z us ≡ false → is_in z vs ≡ false → last_or z (vs ++ us) ≡ x → Follows x z y ys
follows_parts x z y ys [] vs e hu hv l =
    let ey : y ≡ z = cc in
    let es : ys ≡ vs = cc in
    rw (ey, es) (record { steps = steps_none x z z vs hv; round = λ _. sym (ap (last_or z) (append-nil vs)) ∙ l })
follows_parts x z y ys (u ∷ us) vs e hu hv l =
    let ey : y ≡ u = cc in
    let es : ys ≡ us ++ z ∷ vs = cc in
    let hz : nat_eq z u ≡ false = first_false (nat_eq z u) (is_in z us) hu in
    let hs : is_in z us ≡ false = tail_lacks z u us hu in
    rw (ey, es) (record {
      steps = steps_at x z u us vs hs hv (sym (last_or-append z vs (u ∷ us)) ∙ l);
      round = λ (same : u ≡ z). absurd (false≢true (sym hz ∙ rw same (nat_eq-same z)));
    })

-- if x is the nearest live one to the left of z, and all that run are live, then among those that run z follows x, however the ring is cut
pub follows : (live runs : ℕ → Bool) (x z p y : ℕ) (ys xs : List ℕ) → AreDistinct xs → is_in z xs ≡ true → ((q : ℕ) → runs q ≡ true → live q ≡ true) → runs x ≡ true → runs z ≡ true → last_or z (filter live (others z xs)) ≡ x → filter runs (rotated p xs) ≡ y ∷ ys → Follows x z y ys
follows live runs x z p y ys xs d hz sub rx rz l e =
    let c : List ℕ = rotated p xs in
    let hzr : is_in z c ≡ true = is_in-rotated z p xs ∙ hz in
    let same : others z c ≡ others z xs = others-rotated z p xs d hz in
    let out : is_in z (after z c) ≡ false = not_in_first z (after z c) (before z c) (ap (is_in z) same ∙ not_in_others z xs d) in
    follows_parts x z y ys (filter runs (before z c)) (filter runs (after z c)) (sym e ∙ filter-split runs z c hzr rz)
    (not_in_filter runs z (before z c) (not_in_before z c))
    (not_in_filter runs z (after z c) out)
    (ap (last_or z) (sym (filter-append runs (after z c) (before z c))) ∙ last_stronger live runs z z x (others z c) sub rx (λ k. k) (ap (λ us. last_or z (filter live us)) same ∙ l))

-- a member that doesn't run stands nowhere among those that do
pub not_among : (r : ℕ → Bool) (z : ℕ) (xs : List ℕ) → r z ≡ false → is_in z (filter r xs) ≡ false
not_among r z [] h = refl
not_among r z (x ∷ xs) h = by_case (r x) (nat_eq z x) refl refl (not_among r z xs h)
  where
    by_case : (a t : Bool) → r x ≡ a → nat_eq z x ≡ t → is_in z (filter r xs) ≡ false → is_in z (cond a (x ∷ filter r xs) (filter r xs)) ≡ false
    by_case true true ea et ih = absurd (false≢true (sym h ∙ ap r (nat_eq-is z x et) ∙ ea))
    by_case true false ea et ih = rw et ih
    by_case false t ea et ih = ih

pub follows_none : (runs : ℕ → Bool) (x z y : ℕ) (ys c : List ℕ) → runs z ≡ false → filter runs c ≡ y ∷ ys → Follows x z y ys
follows_none runs x z y ys c rz e =
    let no : is_in z (y ∷ ys) ≡ false = subst (λ us. is_in z us ≡ false) e (not_among runs z c rz) in
    record { steps = steps_none x z y ys (tail_lacks z y ys no); round = λ same. absurd (head_differs z y ys no same) }
