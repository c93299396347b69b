-- The used lines among the first of a text, one line more.
use Rattle.std.proofs.Common.{◌≡◌, ℕ, suc, ◌+◌, ◌-◌, ◌<◌, ◌≤◌, Bool, true, false, not, List, [], ◌∷◌, ◌++◌, None, length, take, drop, get_or, add-zero, refl, sym, ap, ◌∙◌, subst, ⊎_elim, arith}
use Rattle.std.specs.List.{filter, enumerate_from}
use Rattle.std.proofs.lemmas.Bool.{cases_lt}
use Rattle.std.proofs.Math.Seq.{take-add}
use Rattle.std.proofs.lemmas.List.{drop-drop, length-drop, get_or-drop, length-take-le, take_all}
use Rattle.std.proofs.lemmas.List.Elements.{filter-append}
use Rattle.ring_script.specs.Line.{Grammar, is_skipped}
use Rattle.ring_script.specs.Reading.{used_of, fault_at, AreRight}
use Rattle.ring_script.specs.Standing.{used_line}

-- numbers go on behind a list
pub enumerate_from-append : {X : Type 0} (from : ℕ) (xs ys : List X) → enumerate_from from (xs ++ ys) ≡ enumerate_from from xs ++ enumerate_from (from + length xs) ys
enumerate_from-append from [] ys = let e : from ≡ from + 0 = omega arith in ap (λ n. enumerate_from n ys) e
enumerate_from-append from (x ∷ xs) ys =
    let e : from + 1 + length xs ≡ from + suc (length xs) = omega arith in
    ap (λ zs. (from, x) ∷ zs) (enumerate_from-append (from + 1) xs ys ∙ ap (λ n. enumerate_from (from + 1) xs ++ enumerate_from n ys) e)

used_by : (number : ℕ) (line : List ℕ) (b : Bool) → is_skipped line ≡ b → filter (λ l. not (is_skipped l.1)) ((number, line) ∷ []) ≡ used_line number line
used_by number line true e = rw e
used_by number line false e = rw e

-- a further line is used behind its number, where it isn't skipped
pub used_more : (lines : List (List ℕ)) (line : List ℕ) → used_of (lines ++ line ∷ []) ≡ used_of lines ++ used_line (length lines + 1) line
used_more lines line =
    let number : 1 + length lines ≡ length lines + 1 = omega arith in
    ap (filter (λ l. not (is_skipped l.1))) (enumerate_from-append 1 lines (line ∷ []))
    ∙ filter-append (λ l. not (is_skipped l.1)) (enumerate_from 1 lines) ((1 + length lines, line) ∷ [])
    ∙ ap (λ xs. used_of lines ++ xs) (used_by (1 + length lines) line _ refl ∙ ap (λ n. used_line n line) number)

-- ---- the first lines

-- behind the first n lines stands this one, and then the others
module _ (n : ℕ) (lines rest : List (List ℕ)) (line : List ℕ) (e : drop n lines ≡ line ∷ rest) where
  pub take_more : take (n + 1) lines ≡ take n lines ++ line ∷ []
  take_more = take-add n 1 lines ∙ ap (λ xs. take n lines ++ take 1 xs) e

  pub drop_more : drop (n + 1) lines ≡ rest
  drop_more = sym (drop-drop 1 n lines) ∙ ap (drop 1) e

  pub line_at : (n < length lines) × (get_or lines n [] ≡ line)
  line_at =
      let left : length lines - n ≡ suc (length rest) = sym (length-drop n lines) ∙ ap length e in
      (omega arith, ap (λ k. get_or lines k []) (sym (add-zero n)) ∙ sym (get_or-drop n lines 0 []) ∙ ap (λ xs. get_or xs 0 []) e)

  pub length_first : length (take n lines) ≡ n
  length_first = let there : n < length lines = line_at.0 in length-take-le n lines (omega arith)

-- nothing is left behind all lines
pub all_lines : (n : ℕ) (lines : List (List ℕ)) → drop n lines ≡ [] → n ≤ length lines → (n ≡ length lines) × (take n lines ≡ lines)
all_lines n lines e l =
    let none : length lines - n ≡ 0 = sym (length-drop n lines) ∙ ap length e in
    (omega arith, take_all n lines (omega arith))

-- ---- faults

-- one right line more
pub right_more : (grammar : Grammar) (lines : List (List ℕ)) (n : ℕ) → AreRight grammar lines n → fault_at grammar lines n ≡ None → AreRight grammar lines (n + 1)
right_more grammar lines n right e place l =
    ⊎_elim (λ (lt : place < n). right place lt)
    (λ (ge : n ≤ place). let same : place ≡ n = omega arith in subst (λ k. fault_at grammar lines k ≡ None) (sym same) e)
    (cases_lt place n)
