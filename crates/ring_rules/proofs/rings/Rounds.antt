-- Edits of a round.
use Rattle.std.proofs.Common.{ℕ, Bool, true, false, cond, List, [], ◌∷◌, ◌++◌, sym, ap, append_assoc}
use Rattle.std.specs.Prelude.{⊤}
use Rattle.std.specs.List.{filter, flat_map}
use Rattle.group_view.specs.Ring.{last_or}
pub use Rattle.group_view.proofs.Rings.{nat_eq-is, nat_eq-same, nat_eq-not}
use Rattle.ring_rules.proofs.walks.CountedWalk.{block, round}
use Rattle.ring_rules.proofs.rings.Weakens.{Weakens, same, equal, then, joined, joined_right, lose_one, lose_first, lose_second}

-- ---- edits within the blocks

pub blocks_back : (m m' : ℕ → List ℕ) (f f' : ℕ → ℕ) (qs : List ℕ) → ((q : ℕ) → Weakens (block m f q) (block m' f' q)) → Weakens (flat_map (block m f) qs) (flat_map (block m' f') qs)
blocks_back m m' f f' [] h = same []
blocks_back m m' f f' (q ∷ qs) h = joined (block m f q) (block m' f' q) (flat_map (block m f) qs) (flat_map (block m' f') qs) (h q) (blocks_back m m' f f' qs h)

pub round_back : (e e' m m' l l' : ℕ → List ℕ) (f f' : ℕ → ℕ) (y : ℕ) (ys : List ℕ) → ((q : ℕ) → Weakens (block m f q) (block m' f' q)) → Weakens (block e f y) (block e' f' y) → Weakens (l y) (l' y) → Weakens (round e f m l (y ∷ ys)) (round e' f' m' l' (y ∷ ys))
round_back e e' m m' l l' f f' y ys h he hl =
    then (e y ++ (f y ∷ (flat_map (block m f) ys ++ l y))) (block e' f' y ++ (flat_map (block m' f') ys ++ l' y)) (e' y ++ (f' y ∷ (flat_map (block m' f') ys ++ l' y)))
    (then (e y ++ (f y ∷ (flat_map (block m f) ys ++ l y))) (block e f y ++ (flat_map (block m f) ys ++ l y)) (block e' f' y ++ (flat_map (block m' f') ys ++ l' y))
    (equal _ _ (sym (append_assoc (e y) (f y ∷ []) (flat_map (block m f) ys ++ l y))))
    (joined (block e f y) (block e' f' y) (flat_map (block m f) ys ++ l y) (flat_map (block m' f') ys ++ l' y) he
    (joined (flat_map (block m f) ys) (flat_map (block m' f') ys) (l y) (l' y) (blocks_back m m' f f' ys h) hl)))
    (equal _ _ (append_assoc (e' y) (f' y ∷ []) (flat_map (block m' f') ys ++ l' y)))

-- ---- edits at the front of blocks

-- of each number and the one after it
abbrev pub Steps : (ℕ → ℕ → Type 0) → ℕ → List ℕ → Type 0
Steps P a [] = ⊤
Steps P a (b ∷ bs) = P a b × Steps P b bs

pub Steps-map : (P Q : ℕ → ℕ → Type 0) (a : ℕ) (bs : List ℕ) → ((a b : ℕ) → P a b → Q a b) → Steps P a bs → Steps Q a bs
Steps-map P Q a [] k h = tt
Steps-map P Q a (b ∷ bs) k h = (k a b h.0, Steps-map P Q b bs k h.1)

pub front : (m m' : ℕ → List ℕ) (f f' : ℕ → ℕ) (t t' : List ℕ) (a : ℕ) (qs : List ℕ) → Steps (λ x y. Weakens (f x ∷ m y) (f' x ∷ m' y)) a qs → Weakens (f (last_or a qs) ∷ t) (f' (last_or a qs) ∷ t') → Weakens (f a ∷ (flat_map (block m f) qs ++ t)) (f' a ∷ (flat_map (block m' f') qs ++ t'))
front m m' f f' t t' a [] h ht = ht
front m m' f f' t t' a (q ∷ qs) h ht =
    then (f a ∷ (((m q ++ f q ∷ []) ++ flat_map (block m f) qs) ++ t)) ((f' a ∷ m' q) ++ (f' q ∷ (flat_map (block m' f') qs ++ t'))) (f' a ∷ (((m' q ++ f' q ∷ []) ++ flat_map (block m' f') qs) ++ t'))
    (then (f a ∷ (((m q ++ f q ∷ []) ++ flat_map (block m f) qs) ++ t)) ((f a ∷ m q) ++ (f q ∷ (flat_map (block m f) qs ++ t))) ((f' a ∷ m' q) ++ (f' q ∷ (flat_map (block m' f') qs ++ t')))
    (equal _ _ (ap (λ xs. f a ∷ xs) (simp append_assoc)))
    (joined (f a ∷ m q) (f' a ∷ m' q) (f q ∷ (flat_map (block m f) qs ++ t)) (f' q ∷ (flat_map (block m' f') qs ++ t')) h.0 (front m m' f f' t t' q qs h.1 ht)))
    (equal _ _ (ap (λ xs. f' a ∷ xs) (simp append_assoc)))

-- ---- members that go

pub blocks_lost : (m : ℕ → List ℕ) (f : ℕ → ℕ) (t : ℕ → Bool) (qs : List ℕ) → Weakens (flat_map (block m f) qs) (flat_map (block m f) (filter t qs))
blocks_lost m f t [] = same []
blocks_lost m f t (q ∷ qs) = by_case (t q) (blocks_lost m f t qs)
  where
    by_case : (b : Bool) → Weakens (flat_map (block m f) qs) (flat_map (block m f) (filter t qs)) → Weakens (block m f q ++ flat_map (block m f) qs) (flat_map (block m f) (cond b (q ∷ filter t qs) (filter t qs)))
    by_case true h = joined_right (block m f q) (flat_map (block m f) qs) (flat_map (block m f) (filter t qs)) h
    by_case false h =
        then (block m f q ++ flat_map (block m f) qs) (flat_map (block m f) qs) (flat_map (block m f) (filter t qs))
        (lose_first (block m f q) (flat_map (block m f) qs)) h

-- the round of the next member is what is left when the owner goes
pub owner_lost : (e m l : ℕ → List ℕ) (f : ℕ → ℕ) (x : ℕ) (ys : List ℕ) → Weakens (round e f m l (x ∷ ys)) (flat_map (block m f) ys)
owner_lost e m l f x ys =
    then (e x ++ (f x ∷ (flat_map (block m f) ys ++ l x))) (f x ∷ (flat_map (block m f) ys ++ l x)) (flat_map (block m f) ys)
    (lose_first (e x) (f x ∷ (flat_map (block m f) ys ++ l x)))
    (then (f x ∷ (flat_map (block m f) ys ++ l x)) (flat_map (block m f) ys ++ l x) (flat_map (block m f) ys)
    (lose_one (f x) (flat_map (block m f) ys ++ l x))
    (lose_second (flat_map (block m f) ys) (l x)))
