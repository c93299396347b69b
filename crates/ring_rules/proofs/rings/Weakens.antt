-- A list that falls wherever another does: by losing numbers, repeating them, and moving zeros to the right.
use Rattle.std.proofs.Common.{◌≡◌, ℕ, ◌≤◌, List, [], ◌∷◌, ◌++◌, sym, subst, append_assoc, arith}
use Rattle.ring_rules.specs.OpenLinks.{FallsFrom}

-- from a down to b
abbrev pub FallsTo : ℕ → List ℕ → ℕ → Type 0
FallsTo a [] b = b ≤ a
FallsTo a (x ∷ xs) b = (x ≤ a) × FallsTo x xs b

pub FallsTo-start : (a a' : ℕ) (xs : List ℕ) (b : ℕ) → a ≤ a' → FallsTo a xs b → FallsTo a' xs b
FallsTo-start a a' [] b l h = omega (arith, h)
FallsTo-start a a' (x ∷ xs) b l h = (omega (arith, h.0), h.1)

pub FallsTo-end : (a : ℕ) (xs : List ℕ) (b b' : ℕ) → b' ≤ b → FallsTo a xs b → FallsTo a xs b'
FallsTo-end a [] b b' l h = omega (arith, h)
FallsTo-end a (x ∷ xs) b b' l h = (h.0, FallsTo-end x xs b b' l h.1)

pub FallsTo-ends : (a : ℕ) (xs : List ℕ) (b : ℕ) → FallsTo a xs b → b ≤ a
FallsTo-ends a [] b h = h
FallsTo-ends a (x ∷ xs) b h = omega (arith, h.0, FallsTo-ends x xs b h.1)

pub FallsTo-append : (a : ℕ) (xs : List ℕ) (b : ℕ) (ys : List ℕ) (c : ℕ) → FallsTo a xs b → FallsTo b ys c → FallsTo a (xs ++ ys) c
FallsTo-append a [] b ys c h k = FallsTo-start b a ys c h k
FallsTo-append a (x ∷ xs) b ys c h k = (h.0, FallsTo-append x xs b ys c h.1 k)

-- the last number of a list, or a where it is empty
abbrev pub low_end : ℕ → List ℕ → ℕ
low_end a [] = a
low_end a (x ∷ xs) = low_end x xs

pub FallsTo-first : (a : ℕ) (xs ys : List ℕ) (c : ℕ) → FallsTo a (xs ++ ys) c → FallsTo a xs (low_end a xs)
FallsTo-first a [] ys c h = omega arith
FallsTo-first a (x ∷ xs) ys c h = (h.0, FallsTo-first x xs ys c h.1)

pub FallsTo-second : (a : ℕ) (xs ys : List ℕ) (c : ℕ) → FallsTo a (xs ++ ys) c → FallsTo (low_end a xs) ys c
FallsTo-second a [] ys c h = h
FallsTo-second a (x ∷ xs) ys c h = FallsTo-second x xs ys c h.1

pub FallsTo-FallsFrom : (a : ℕ) (xs : List ℕ) (b : ℕ) → FallsTo a xs b → FallsFrom a xs
FallsTo-FallsFrom a [] b h = tt
FallsTo-FallsFrom a (x ∷ xs) b h = (h.0, FallsTo-FallsFrom x xs b h.1)

pub FallsFrom-FallsTo : (a : ℕ) (xs : List ℕ) → FallsFrom a xs → FallsTo a xs 0
FallsFrom-FallsTo a [] h = omega arith
FallsFrom-FallsTo a (x ∷ xs) h = (h.0, FallsFrom-FallsTo x xs h.1)

-- ys falls wherever xs does
abbrev pub Weakens : List ℕ → List ℕ → Type 0
Weakens xs ys = (a b : ℕ) → FallsTo a xs b → FallsTo a ys b

pub same : (xs : List ℕ) → Weakens xs xs
same xs a b h = h

pub equal : (xs ys : List ℕ) → xs ≡ ys → Weakens xs ys
equal xs ys e a b h = subst (λ zs. FallsTo a zs b) e h

pub then : (xs ys zs : List ℕ) → Weakens xs ys → Weakens ys zs → Weakens xs zs
then xs ys zs h k a b f = k a b (h a b f)

pub joined : (xs xs' ys ys' : List ℕ) → Weakens xs xs' → Weakens ys ys' → Weakens (xs ++ ys) (xs' ++ ys')
joined xs xs' ys ys' h k a b f =
    FallsTo-append a xs' (low_end a xs) ys' b (h a (low_end a xs) (FallsTo-first a xs ys b f)) (k (low_end a xs) b (FallsTo-second a xs ys b f))

pub joined_right : (xs ys ys' : List ℕ) → Weakens ys ys' → Weakens (xs ++ ys) (xs ++ ys')
joined_right xs ys ys' k = joined xs xs ys ys' (same xs) k

pub joined_left : (xs xs' ys : List ℕ) → Weakens xs xs' → Weakens (xs ++ ys) (xs' ++ ys)
joined_left xs xs' ys h = joined xs xs' ys ys h (same ys)

pub under : (x : ℕ) (ys ys' : List ℕ) → Weakens ys ys' → Weakens (x ∷ ys) (x ∷ ys')
under x ys ys' k a b h = (h.0, k x b h.1)

pub lose : (xs : List ℕ) → Weakens xs []
lose xs a b h = FallsTo-ends a xs b h

pub lose_one : (x : ℕ) (xs : List ℕ) → Weakens (x ∷ xs) xs
lose_one x xs a b h = FallsTo-start x a xs b h.0 h.1

pub lose_first : (xs ys : List ℕ) → Weakens (xs ++ ys) ys
lose_first xs ys = joined xs [] ys ys (lose xs) (same ys)

pub lose_second : (xs ys : List ℕ) → Weakens (xs ++ ys) xs
lose_second xs ys a b h = FallsTo-end a xs (low_end a xs) b (FallsTo-ends (low_end a xs) ys b (FallsTo-second a xs ys b h)) (FallsTo-first a xs ys b h)

pub repeat : (x : ℕ) (xs : List ℕ) → Weakens (x ∷ xs) (x ∷ (x ∷ xs))
repeat x xs a b h = (h.0, (omega arith, h.1))

-- after a 0 there are only zeros
pub zero_later : (a : ℕ) (xs : List ℕ) (b : ℕ) → a ≡ 0 → FallsTo a xs b → FallsTo a (xs ++ 0 ∷ []) b
zero_later a [] b e h = (omega arith, omega (arith, h))
zero_later a (x ∷ xs) b e h = (h.0, zero_later x xs b (omega (arith, h.0)) h.1)

pub zero_moves : (x : ℕ) (xs : List ℕ) → x ≡ 0 → Weakens (x ∷ xs) (xs ++ x ∷ [])
zero_moves x xs e a b h = FallsTo-start x a (xs ++ x ∷ []) b h.0 (subst (λ z. FallsTo x (xs ++ z ∷ []) b) (sym e) (zero_later x xs b e h.1))

-- a zero moves past xs
pub zero_moves_in : (x : ℕ) (xs ys : List ℕ) → x ≡ 0 → Weakens (x ∷ (xs ++ ys)) (xs ++ x ∷ ys)
zero_moves_in x xs ys e =
    then (x ∷ (xs ++ ys)) ((xs ++ x ∷ []) ++ ys) (xs ++ x ∷ ys)
    (joined_left (x ∷ xs) (xs ++ x ∷ []) ys (zero_moves x xs e))
    (equal ((xs ++ x ∷ []) ++ ys) (xs ++ x ∷ ys) (append_assoc xs (x ∷ []) ys))
