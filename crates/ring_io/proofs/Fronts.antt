-- A lemma on the front of a text.
use Rattle.std.proofs.Common.{◌≡◌, ℕ, ◌+◌, ◌≤◌, List, ◌++◌, length, take, drop, take-append-drop, sym, ap, ◌∙◌, arith, subst}
use Rattle.std.proofs.lemmas.Grind.{common_steps}
use Rattle.std.proofs.lemmas.List.{drop-drop}
use Rattle.std.proofs.Math.Seq.{take-append_seam}

-- a text is what was copied of it to the front of a buffer, and then the rest
pub front_split : (l front old : List ℕ) (at n : ℕ) → front ≡ take n (drop at l) → n ≤ length (drop at l) → drop at l ≡ take n (front ++ old) ++ drop (at + n) l
front_split l front old at n is fits =
    let len : length front ≡ n = grind (arith, common_steps) in
    let copied : take n (front ++ old) ≡ front = subst (λ k. take k (front ++ old) ≡ front) len (take-append_seam front old) in
    sym (take-append-drop n (drop at l)) ∙ ap (λ x. x ++ drop n (drop at l)) (sym (copied ∙ is)) ∙ ap (λ x. take n (front ++ old) ++ x) (drop-drop n at l)
