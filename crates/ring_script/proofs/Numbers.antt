-- Words that write numbers.
use Rattle.std.proofs.Common.{◌≡◌, ℕ, ◌+◌, ◌*◌, ◌<◌, ◌≤◌, ◌^◌, ◌⊎◌, ◌&&◌, ◌==◌, inl, inr, Bool, true, false, not, nat_le, is_some, unwrap_or, List, [], ◌∷◌, Option, Some, None, Result, Ok, Err, length, refl, if◌then◌else◌, arith, rules}
use Rattle.std.specs.List.{list_all}
use Rattle.std.specs.Result.{OkIff, result_ok}
use Rattle.std.specs.Str.{IsUtf8}
use Rattle.std.specs.Char.{digit_value}
use Rattle.std.specs.Str.Parse.{digits_value, digits_value_after, ParsesUnsigned}
use Rattle.std.proofs.lemmas.Bool.{and_parts, leb-true, not-true}
use Rattle.std.proofs.lemmas.Bool.Decides.{leb_tells, nat_tests}
use Rattle.std.proofs.lemmas.Fmt.{IsAscii-from_digits}
use Rattle.std.proofs.lemmas.Str.{IsUtf8-from_ascii}
use Rattle.std.proofs.lemmas.Str.Parse.{IsNumeralModel, numerals_by_value, parse_digits}
use Rattle.ring_script.specs.declared.fault.Kind.TheVariants.{BadNumber}
use Rattle.ring_script.specs.Words.{has_byte, is_digit, is_number, number_of}
use Rattle.ring_script.specs.Line.{number_fault}

-- what passes the test of digits is a numeral, and its value is that of its digits
pub numerals : IsNumeralModel (λ word. list_all is_digit word ≡ true) (digits_value 10)
numerals = numerals_by_value (λ word. list_all is_digit word ≡ true) (search rules)

-- a word that writes a number has digits alone
digits_in : (word : List ℕ) → is_number word ≡ true → list_all is_digit word ≡ true
digits_in word h = (and_parts _ _ ((and_parts _ _ h).1)).1

-- and some
has_some : (word : List ℕ) → is_number word ≡ true → 0 < length word
has_some word h = let e : has_byte word ≡ true = (and_parts _ _ h).0 in grind (arith, nat_tests)

-- what does not fit is above what does
above_limit : (n most : ℕ) → most < 2 ^ 64 → (n < 2 ^ 64 → ⊥)
    → ((nat_le n most ≡ true) × (n ≤ most)) ⊎ ((nat_le n most ≡ false) × (most < n)) → most < n
above_limit n most limit unfit (inl below) = let l : n ≤ most = below.1 in absurd (unfit (omega arith))
above_limit n most limit unfit (inr above) = above.1

-- a word that writes a number is text
pub number_is_text : (word : List ℕ) → is_number word ≡ true → IsUtf8 word
number_is_text word h = IsUtf8-from_ascii word (IsAscii-from_digits word (numerals.to word (digits_in word h)))

-- and is read as the value of its digits, where that fits
pub number_parses : {E : Type 0} (word : List ℕ) (r : Result ℕ E) → is_number word ≡ true → ParsesUnsigned 64 10 word r
    → OkIff r ((0 < length word) × (digits_value 10 word < 2 ^ 64)) (digits_value 10 word)
number_parses word r h parses = parse_digits numerals 64 word r parses (digits_in word h)

-- what is above the limit is no number up to it
too_great : (word : List ℕ) (most : ℕ) → is_number word ≡ true → most < digits_value 10 word → number_of most word ≡ None
too_great word most h above =
    let e : nat_le (digits_value 10 word) most ≡ false = grind (arith, nat_tests) in
    rw (h, e)

-- where it does not fit, it is above any limit
pub none_where_unread : {E : Type 0} (word : List ℕ) (most : ℕ) (r : Result ℕ E) → is_number word ≡ true → most < 2 ^ 64
    → ParsesUnsigned 64 10 word r → None ≡ result_ok r → number_of most word ≡ None
none_where_unread word most (Ok n) h limit parses e = cc
none_where_unread word most (Err e) h limit parses none =
    let some : 0 < length word = has_some word h in
    let unfit : (0 < length word) × (digits_value 10 word < 2 ^ 64) → ⊥ = number_parses word (Err e) h parses in
    too_great word most h (above_limit (digits_value 10 word) most limit (λ l. unfit (some, l)) (leb_tells (digits_value 10 word) most))

-- ---- within a limit

value_least : (n : ℕ) (digits : List ℕ) → n ≤ digits_value_after 10 n digits
value_least n [] = omega arith
value_least n (d ∷ digits) =
    let deeper : n * 10 + digit_value d ≤ digits_value_after 10 (n * 10 + digit_value d) digits = value_least (n * 10 + digit_value d) digits in
    omega arith

first_value : (b : ℕ) → is_digit b ≡ true → (b == 48) ≡ false → 1 ≤ digit_value b
first_value b d z = grind (arith, nat_tests)

-- a number is 1 at least
number_least : (word : List ℕ) → is_number word ≡ true → 1 ≤ digits_value 10 word
number_least [] h = cc
number_least (b ∷ bs) h =
    let parts = and_parts (has_byte (b ∷ bs)) (not (b == 48) && list_all is_digit (b ∷ bs)) h in
    let rest = and_parts (not (b == 48)) (list_all is_digit (b ∷ bs)) parts.1 in
    let first = first_value b (and_parts (is_digit b) (list_all is_digit bs) rest.1).0 (not-true (b == 48) rest.0) in
    let least : 0 * 10 + digit_value b ≤ digits_value_after 10 (0 * 10 + digit_value b) bs = value_least (0 * 10 + digit_value b) bs in
    omega arith

value_by : (most : ℕ) (word : List ℕ) (b : Bool) → (is_number word && nat_le (digits_value 10 word) most) ≡ b → is_some (if b then Some (digits_value 10 word) else None) ≡ true
    → (1 ≤ unwrap_or (if b then Some (digits_value 10 word) else None) 0) × (unwrap_or (if b then Some (digits_value 10 word) else None) 0 ≤ most)
value_by most word true e h =
    let parts = and_parts (is_number word) (nat_le (digits_value 10 word) most) e in
    (number_least word parts.0, leb-true (digits_value 10 word) most parts.1)
value_by most word false e h = cc

some_by : (o : Option ℕ) → (if is_some o then None else Some BadNumber) ≡ None → is_some o ≡ true
some_by None e = cc
some_by (Some n) e = refl

-- a right number is within its limit
pub number_fits : (most : ℕ) (word : List ℕ) → number_fault most word ≡ None → (1 ≤ unwrap_or (number_of most word) 0) × (unwrap_or (number_of most word) 0 ≤ most)
number_fits most word e = value_by most word _ refl (some_by (number_of most word) e)
