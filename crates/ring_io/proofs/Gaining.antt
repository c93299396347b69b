-- Lemmas on what a sink gains.
use Rattle.std.proofs.Common.{◌≡◌, ℕ, ◌+◌, Bool, true, false, List, [], ◌++◌, Option, Some, None, sym, ◌∙◌, ap, append_assoc, append-nil, take, drop, subst}
use Rattle.std.proofs.Math.Seq.{take-add}
use Rattle.ring_io.specs.Contents.{Gains}

-- what stays gains nothing
pub Gains-none : (b : Bool) (x : Option (List ℕ)) → Gains b x x []
Gains-none false None = tt
Gains-none true None = tt
Gains-none false (Some xs) = sym (append-nil xs)
Gains-none true (Some xs) = sym (append-nil xs)

-- what gains p and then q gains p ++ q
pub Gains-append : (b : Bool) (x y z : Option (List ℕ)) (p q : List ℕ) → Gains b x y p → Gains b y z q → Gains b x z (p ++ q)
Gains-append false None y z p q first second = tt
Gains-append false (Some xs) None z p q first second = absurd first
Gains-append false (Some xs) (Some ys) None p q first second = absurd second
Gains-append false (Some xs) (Some ys) (Some zs) p q first second =
    second ∙ ap (λ l. l ++ q) first ∙ append_assoc xs p q
Gains-append true x y None p q first second = tt
Gains-append true x None (Some zs) p q first second = absurd second
Gains-append true None (Some ys) (Some zs) p q first second = absurd first
Gains-append true (Some xs) (Some ys) (Some zs) p q first second =
    second ∙ ap (λ l. l ++ q) first ∙ append_assoc xs p q

-- bytes that are told before and after have grown by p
pub Gains-told : (b : Bool) (xs ys p : List ℕ) → Gains b (Some xs) (Some ys) p → ys ≡ xs ++ p
Gains-told false xs ys p gains = gains
Gains-told true xs ys p gains = gains

-- a text's first w bytes, and then the next n
pub Gains-take : (b : Bool) (x y z : Option (List ℕ)) (w n : ℕ) (bytes rest : List ℕ) → rest ≡ drop w bytes → Gains b x y (take w bytes) → Gains b y z (take n rest) → Gains b x z (take (w + n) bytes)
Gains-take b x y z w n bytes rest is first second =
    subst (Gains b x z) (sym (take-add w n bytes)) (Gains-append b x y z _ _ first (subst (λ l. Gains b y z (take n l)) is second))
