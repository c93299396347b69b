-- The numbers of a packet by ids.
use Rattle.std.proofs.Common.{◌≡◌, ℕ, zero, suc, ◌<◌, Bool, List, [], ◌∷◌, length, map, get_or, refl, ap, arith}
use Rattle.std.specs.List.{range_with_len}
use Rattle.std.proofs.lemmas.List.FromFn.{fill_by_all}
use Rattle.ring_rules.specs.declared.numbers.Numbers.{Numbers}
use Rattle.ring_rules.specs.Rows.{Row, no_row, no_numbers, next_numbers}
use Rattle.ring_rules.specs.Step.{next_lines}

pub length-next_lines : (fresh : Bool) (rows : List Row) (last : List Numbers) → length (next_lines fresh rows last) ≡ length rows
length-next_lines fresh [] last = refl
length-next_lines fresh (r ∷ rows) [] = ap suc (length-next_lines fresh rows [])
length-next_lines fresh (r ∷ rows) (k ∷ last) = ap suc (length-next_lines fresh rows last)

-- the numbers of one origin
pub next_line_at : (fresh : Bool) (rows : List Row) (last : List Numbers) (p : ℕ) → p < length rows → get_or (next_lines fresh rows last) p no_numbers ≡ next_numbers fresh (get_or rows p no_row) (get_or last p no_numbers)
next_line_at fresh [] last p l = absurd (omega arith)
next_line_at fresh (r ∷ rows) [] zero l = refl
next_line_at fresh (r ∷ rows) (k ∷ last) zero l = refl
next_line_at fresh (r ∷ rows) [] (suc p) l = next_line_at fresh rows [] p (omega arith)
next_line_at fresh (r ∷ rows) (k ∷ last) (suc p) l = next_line_at fresh rows last p (omega arith)

pub next_lines_range : (fresh : Bool) (rows : List Row) (last : List Numbers) → next_lines fresh rows last ≡ map (λ p. next_numbers fresh (get_or rows p no_row) (get_or last p no_numbers)) (range_with_len 0 (length rows))
next_lines_range fresh rows last = fill_by_all _ (next_lines fresh rows last) (length rows) no_numbers (length-next_lines fresh rows last) (λ p l. next_line_at fresh rows last p (omega (arith, l, length-next_lines fresh rows last)))

abbrev pub lines_to : Bool → List Row → List Numbers → ℕ → List Numbers
lines_to fresh rows last n = map (λ p. next_numbers fresh (get_or rows p no_row) (get_or last p no_numbers)) (range_with_len 0 n)
