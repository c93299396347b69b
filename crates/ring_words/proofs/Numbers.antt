-- How a text that passed the parser of a range is read.
use Rattle.std.proofs.Common.{◌≡◌, ◌<◌, ◌≤◌, ◌==◌, ◌^◌, ℕ, Bool, true, false, cond, [], ◌∷◌, Some, None, drop, refl, sym, ap, subst, arith}
use Rattle.std.specs.Prelude.{pos, unwrap_or}
use Rattle.std.specs.Str.Parse.{IsNumeral, digits_value, starts_with_minus, without_leading_plus}
use Rattle.std.proofs.lemmas.Bool.{ne_eqb}
use Rattle.std.proofs.lemmas.Int.{ints}
use Rattle.std.proofs.lemmas.Str.Parse.{digit_from_value}
use Rattle.clap.specs.Words.{IsSignedIn, Text, without_minus}
use Rattle.ring_words.specs.Words.{number_of}

-- the text is a numeral of 32 bits, in the range
abbrev pub IsRead : ℕ → ℕ → Text → Type 0
IsRead least most text = IsNumeral 10 (without_leading_plus text) × (number_of text < 2 ^ 32) × (least ≤ number_of text) × (number_of text ≤ most)

-- the text without a minus sign, by whether it has one
without_minus-cond : (t : Text) → without_minus t ≡ cond (starts_with_minus t) (drop 1 t) t
without_minus-cond [] = refl
without_minus-cond (x ∷ xs) = go (x == 45)
  where
    go : (b : Bool) → unwrap_or (cond b (Some xs) None) (x ∷ xs) ≡ cond b xs (x ∷ xs)
    go true = refl
    go false = refl

-- a numeral has no plus sign
no_plus : (ds : Text) → IsNumeral 10 ds → without_leading_plus ds ≡ ds
no_plus [] h = refl
no_plus (d ∷ ds) h =
    let plus : (d == 43) ≡ false = ne_eqb _ _ (λ e. omega (arith, digit_from_value d h.1.0)) in
    ap (λ (b : Bool). drop (cond b 1 0) (d ∷ ds)) plus

-- what passed is read without its minus sign, as a number in the range
pub number_read : (least most : ℕ) (t : Text) → most < 2 ^ 32 → IsSignedIn (pos least) (pos most) t → IsRead least most (without_minus t)
number_read least most t small passed = subst (IsRead least most) (sym (without_minus-cond t)) (go (starts_with_minus t) refl)
  where
    go : (b : Bool) → starts_with_minus t ≡ b → IsRead least most (cond b (drop 1 t) t)
    go true minus =
        let low = rw minus at passed.2 in
        let high = rw minus at passed.3 in
        let numeral : IsNumeral 10 (drop 1 t) = rw minus at passed.0 in
        let none : digits_value 10 (drop 1 t) ≡ 0 = omega (arith, ints) in
        let same = no_plus (drop 1 t) numeral in
        rw same (numeral, omega (arith, ints), omega (arith, ints), omega (arith, ints))
    go false minus =
        let low = rw minus at passed.2 in
        let high = rw minus at passed.3 in
        let numeral = rw minus at passed.0 in
        (numeral, omega (arith, ints), omega (arith, ints), omega (arith, ints))
