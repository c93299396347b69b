-- The lines of the load, one after another.
use Rattle.std.proofs.Common.{◌≡◌, ℕ, ◌+◌, List, [], ◌∷◌, ◌++◌, Result, Ok, Err, length, map, sym, ap, ◌∙◌, arith}
use Rattle.std.specs.List.{flat_map, enumerate_from, range_with_len}
use Rattle.std.specs.Result.{OnOk}
use Rattle.std.proofs.lemmas.List.{append_assoc, flat_map_more, length-append}
use Rattle.std.proofs.lemmas.List.Folds.{flat_map-map}
use Rattle.std.proofs.lemmas.List.FromFn.{length-enumerate_from, map-range_with_len_more}
use Rattle.ring_script.specs.declared.command.Command.{Command}
use Rattle.ring_script.specs.Load.{block_of, with_commands}
use Rattle.ring_script.proofs.Lines.{enumerate_from-append}

-- some commands more, and then others
with_both : (lines : List (ℕ × Command)) (xs ys : List Command) → with_commands (with_commands lines xs) ys ≡ with_commands lines (xs ++ ys)
with_both lines xs ys =
    let e : 2 + length (with_commands lines xs) ≡ 2 + length lines + length xs = omega (arith, length-append lines (enumerate_from (2 + length lines) xs), length-enumerate_from (2 + length lines) xs) in
    append_assoc lines (enumerate_from (2 + length lines) xs) (enumerate_from (2 + length (with_commands lines xs)) ys)
    ∙ ap (λ k. lines ++ (enumerate_from (2 + length lines) xs ++ enumerate_from k ys)) e
    ∙ ap (λ zs. lines ++ zs) (sym (enumerate_from-append (2 + length lines) xs ys))

-- the lines after two steps
with_then : (first second third : List (ℕ × Command)) (xs ys : List Command) → second ≡ with_commands first xs → third ≡ with_commands second ys → third ≡ with_commands first (xs ++ ys)
with_then first second third xs ys e f = f ∙ ap (λ ls. with_commands ls ys) e ∙ with_both first xs ys

-- after five, of a command each
pub with_five : (l0 l1 l2 l3 l4 l5 : List (ℕ × Command)) (a b c d e : Command) → l1 ≡ with_commands l0 (a ∷ []) → l2 ≡ with_commands l1 (b ∷ []) → l3 ≡ with_commands l2 (c ∷ []) → l4 ≡ with_commands l3 (d ∷ [])
    → l5 ≡ with_commands l4 (e ∷ []) → l5 ≡ with_commands l0 (a ∷ b ∷ c ∷ d ∷ e ∷ [])
with_five l0 l1 l2 l3 l4 l5 a b c d e h1 h2 h3 h4 h5 =
    with_then l0 l4 l5 (a ∷ b ∷ c ∷ d ∷ []) (e ∷ []) (with_then l0 l3 l4 (a ∷ b ∷ c ∷ []) (d ∷ []) (with_then l0 l2 l3 (a ∷ b ∷ []) (c ∷ []) (with_then l0 l1 l2 (a ∷ []) (b ∷ []) h1 h2) h3) h4) h5

-- after three, of which the last may fail
pub with_last : {T E : Type 0} (r : Result T E) (l0 l1 l2 l3 : List (ℕ × Command)) (xs ys zs : List Command) → l1 ≡ with_commands l0 xs → l2 ≡ with_commands l1 ys → OnOk r (l3 ≡ with_commands l2 zs)
    → OnOk r (l3 ≡ with_commands l0 (xs ++ (ys ++ zs)))
with_last (Ok x) l0 l1 l2 l3 xs ys zs e f g = with_then l0 l1 l3 xs (ys ++ zs) e (with_then l1 l2 l3 ys zs f g)
with_last (Err x) l0 l1 l2 l3 xs ys zs e f g = tt

-- the commands of the blocks before one, and then its own
flat_more : (f : ℕ → List Command) (a n j : ℕ) → a + n ≡ j → flat_map f (range_with_len a (n + 1)) ≡ flat_map f (range_with_len a n) ++ f j
flat_more f a n j e =
    sym (flat_map-map f (λ (x : ℕ). x) (range_with_len a (n + 1)))
    ∙ ap (flat_map f) (map-range_with_len_more (λ (x : ℕ). x) a n j e)
    ∙ sym (flat_map_more f [] (map (λ (x : ℕ). x) (range_with_len a n)) j)
    ∙ ap (λ xs. xs ++ f j) (flat_map-map f (λ (x : ℕ). x) (range_with_len a n))

-- the lines of a block more
pub lines_more : (blocks seed before : ℕ) (old new : List (ℕ × Command)) → old ≡ enumerate_from 2 (flat_map (block_of blocks seed) (range_with_len 1 before)) → new ≡ with_commands old (block_of blocks seed (before + 1))
    → new ≡ enumerate_from 2 (flat_map (block_of blocks seed) (range_with_len 1 (before + 1)))
lines_more blocks seed before old new e f =
    let first : List Command = flat_map (block_of blocks seed) (range_with_len 1 before) in
    with_then [] old new first (block_of blocks seed (before + 1)) e f
    ∙ ap (enumerate_from 2) (sym (flat_more (block_of blocks seed) 1 before (before + 1) (omega arith)))
