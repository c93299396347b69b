-- Rows that are padded for a take.
use Rattle.std.proofs.Common.{◌≡◌, ℕ, zero, suc, ◌≤◌, List, [], ◌∷◌, ◌++◌, length, map, take, get_or, sym, refl, ap, ◌∙◌, arith}
use Rattle.std.proofs.lemmas.List.{take-map, map-append, length-map, take-append-le}
use Rattle.std.proofs.Math.Seq.{take-length}
use Rattle.ring_rules.specs.Rows.{Row, no_row}
use Rattle.ring_world.specs.declared.plain_member.KnownOrigin.{KnownOrigin}
use Rattle.ring_world.specs.Shows.{row_of, row_in}

-- where no room is found, those that joined go again
pub dropped_rows : (rows padded spoiled kept : List KnownOrigin) (n : ℕ) → take n (map row_of padded) ≡ map row_of rows → map row_of spoiled ≡ map row_of padded → kept ≡ take n spoiled → map row_of kept ≡ map row_of rows
dropped_rows rows padded spoiled kept n known same is = ap (map row_of) is ∙ sym (take-map row_of n spoiled) ∙ ap (take n) same ∙ known

pub all_known : (rows : List KnownOrigin) → take (length rows) (map row_of rows) ≡ map row_of rows
all_known rows = ap (λ n. take n (map row_of rows)) (sym (length-map rows row_of)) ∙ take-length (map row_of rows)

-- a row that says nothing makes no difference
no_row_more : (xs : List Row) (p : ℕ) → get_or (xs ++ no_row ∷ []) p no_row ≡ get_or xs p no_row
no_row_more [] zero = refl
no_row_more [] (suc p) = refl
no_row_more (x ∷ xs) zero = refl
no_row_more (x ∷ xs) (suc p) = no_row_more xs p

one_more : (rows : List KnownOrigin) (y : KnownOrigin) → row_of y ≡ no_row → map row_of (rows ++ y ∷ []) ≡ map row_of rows ++ no_row ∷ []
one_more rows y e = map-append row_of rows (y ∷ []) ∙ ap (λ r. map row_of rows ++ r ∷ []) e

pub row_more : (rows : List KnownOrigin) (y : KnownOrigin) (p : ℕ) → row_of y ≡ no_row → row_in (rows ++ y ∷ []) p ≡ row_in rows p
row_more rows y p e = ap (λ rs. get_or rs p no_row) (one_more rows y e) ∙ no_row_more (map row_of rows) p

pub known_more : (rows : List KnownOrigin) (y : KnownOrigin) (n : ℕ) → n ≤ length rows → row_of y ≡ no_row → take n (map row_of (rows ++ y ∷ [])) ≡ take n (map row_of rows)
known_more rows y n l e = ap (take n) (one_more rows y e) ∙ take-append-le n (map row_of rows) (no_row ∷ []) (omega (arith, l, length-map rows row_of))
