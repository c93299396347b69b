-- The names and bodies of the load.
use Rattle.std.proofs.Common.{◌≡◌, ℕ, ◌+◌, ◌-◌, ◌%◌, ◌<◌, ◌≤◌, ◌^◌, ◌==◌, Bool, true, false, cond, nat_lt, is_ok, List, [], ◌∷◌, ◌++◌, Option, Some, None, Ok, Err, length, map, get_or, codes, refl, sym, ap, subst, ◌∙◌, arith}
use Rattle.std.specs.Fmt.{decimal}
use Rattle.std.specs.List.{All, Contains, range_with_len, list_all, position}
use Rattle.std.proofs.lemmas.Bool.{and_parts, and_from}
use Rattle.std.proofs.lemmas.Bool.Decides.{nat_tests}
use Rattle.std.proofs.lemmas.Fmt.{decimal_digit, decimal_injective, digits_decimal, length-decimal-le}
use Rattle.std.proofs.lemmas.List.{length-append}
use Rattle.std.proofs.lemmas.List.Elements.{All-map}
use Rattle.std.proofs.lemmas.List.Folds.{list_all-append}
use Rattle.std.proofs.lemmas.List.FromFn.{length-map-range_with_len, get_or-map-range_with_len, map-range_with_len_more, length-range_with_len, get_or-range_with_len}
use Rattle.std.proofs.lemmas.Nat.{mod_below}
use Rattle.ring_names.specs.Body.{IsBody}
use Rattle.ring_names.specs.Name.{IsName, is_bad_name_byte, name_or_fault, unless_bad}
use Rattle.ring_names.specs.declared.name.NameFault.TheVariants.{Empty, TooLong}
use Rattle.group_view.proofs.Lists.{at_range}
use Rattle.group_view.specs.Change.{AreDifferent}
use Rattle.ring_script.specs.Words.{is_text_byte, is_digit}
use Rattle.ring_script.specs.Line.{is_name}
use Rattle.ring_script.specs.Reading.{CanOpen}
use Rattle.ring_script.specs.Load.{openers, name_at, cast_body, first_body, second_body}
use Rattle.ring_script.proofs.Bodies.{IsBody-from}
use Rattle.ring_script.proofs.Names.{IsName-from}
use Rattle.ring_script.proofs.Numbers.{numerals}

-- ---- bodies

-- a digit is text
digit_is_text : (b : ℕ) → is_digit b ≡ true → is_text_byte b ≡ true
digit_is_text b h = grind (arith, nat_tests)

-- digits are text
digits_are_text : (digits : List ℕ) → list_all is_digit digits ≡ true → list_all is_text_byte digits ≡ true
digits_are_text [] h = refl
digits_are_text (b ∷ bs) h =
    let parts = and_parts (is_digit b) (list_all is_digit bs) h in
    and_from (is_text_byte b) (list_all is_text_byte bs) (digit_is_text b parts.0) (digits_are_text bs parts.1)

-- a number is written in text
decimal_is_text : (n : ℕ) → n < 2 ^ 32 → list_all is_text_byte (decimal n) ≡ true
decimal_is_text n l = digits_are_text (decimal n) (digits_decimal numerals n (omega arith))

-- and in few digits
short_decimal : (n : ℕ) → n < 2 ^ 32 → length (decimal n) ≤ 10
short_decimal n l = length-decimal-le 10 n (omega arith) (omega arith) (omega arith)

-- what is cast is a body
pub cast_fits : (n : ℕ) → n < 2 ^ 32 → IsBody (cast_body n)
cast_fits n l =
    let short : length (decimal n) ≤ 10 = short_decimal n l in
    IsBody-from (cast_body n) (omega arith) (decimal_is_text n l)

-- a number with a byte of text behind is a body
published_fits : (n last : ℕ) → n < 2 ^ 32 → is_text_byte last ≡ true → IsBody (codes "p" ++ decimal n ++ last ∷ [])
published_fits n last l text =
    let short : length (decimal n) ≤ 10 = short_decimal n l in
    let one : list_all is_text_byte (last ∷ []) ≡ true = and_from (is_text_byte last) true text refl in
    IsBody-from (codes "p" ++ decimal n ++ last ∷ []) (omega (arith, length-append (decimal n) (last ∷ [])))
    (list_all-append is_text_byte (decimal n) (last ∷ []) ∙ and_from (list_all is_text_byte (decimal n)) (list_all is_text_byte (last ∷ [])) (decimal_is_text n l) one)

-- and so is what is published first
pub first_fits : (n : ℕ) → n < 2 ^ 32 → IsBody (first_body n)
first_fits n l = published_fits n 97 l refl

-- and second
pub second_fits : (n : ℕ) → n < 2 ^ 32 → IsBody (second_body n)
second_fits n l = published_fits n 98 l refl

-- ---- names

-- a small place has one digit
name_is : (place : ℕ) → place < 10 → name_at place ≡ 109 ∷ (48 + place) ∷ []
name_is place l = ap (λ ds. 109 ∷ ds) (decimal_digit place l)

-- with any digit it is a name
digit_names : (place : ℕ) → place < 10 → is_name (109 ∷ (48 + place) ∷ []) ≡ true
digit_names place l = at_range (λ p. is_name (109 ∷ (48 + p) ∷ [])) 0 10 place refl (omega arith) (omega arith)

-- a name is read, by its tests
reads_by : (bytes : List ℕ) (e t : Bool) (o : Option ℕ) → is_ok (cond e (Err Empty) (cond t (Err TooLong) (unless_bad bytes o))) ≡ true
    → cond e (Err Empty) (cond t (Err TooLong) (unless_bad bytes o)) ≡ Ok bytes
reads_by bytes true t o h = cc
reads_by bytes false true o h = cc
reads_by bytes false false (Some at) h = cc
reads_by bytes false false None h = refl

-- the name of a place is read
pub place_reads : (place : ℕ) → place < 10 → name_or_fault (109 ∷ (48 + place) ∷ []) ≡ Ok (name_at place)
place_reads place l =
    let bytes : List ℕ = 109 ∷ (48 + place) ∷ [] in
    reads_by bytes (length bytes == 0) (nat_lt 16 (length bytes)) (position is_bad_name_byte bytes) (digit_names place l) ∙ ap Ok (sym (name_is place l))

-- and is one
place_fits : (place : ℕ) → place < 10 → IsName (name_at place)
place_fits place l = IsName-from (name_at place) (subst (λ n. is_name n ≡ true) (sym (name_is place l)) (digit_names place l))

-- ---- members

-- how many there are
pub openers_few : (seed : ℕ) → (3 ≤ openers seed) × (openers seed ≤ 8)
openers_few seed = (omega arith, omega (arith, mod_below seed 6 (omega arith)))

-- the place of who casts is one of theirs
pub caster_place : (seed j : ℕ) → 1 + (j + seed) % (openers seed - 1) < openers seed
caster_place seed j =
    let few = openers_few seed in
    let below : (j + seed) % (openers seed - 1) < openers seed - 1 = mod_below (j + seed) (openers seed - 1) (omega arith) in
    omega arith

-- the names of the first places
abbrev pub names_to : ℕ → List (List ℕ)
names_to count = map name_at (range_with_len 0 count)

-- each of them is one of these
pub place_in : (count place : ℕ) → place < count → Contains (names_to count) (name_at place)
place_in count place l = (place, omega (arith, length-map-range_with_len name_at 0 count), get_or-map-range_with_len name_at 0 count place place (name_at place) l (omega arith))

-- at its place
name_there : (count place : ℕ) → place < count → get_or (names_to count) place [] ≡ name_at place
name_there count place l = get_or-map-range_with_len name_at 0 count place place [] l (omega arith)

-- and no other has it
same_place : (j k : ℕ) → j < 10 → k < 10 → name_at j ≡ name_at k → j ≡ k
same_place j k a b e = let same : decimal j ≡ decimal k = cc in decimal_injective j k (omega arith) (omega arith) same

-- so none stands twice
names_differ : (count : ℕ) → count ≤ 8 → AreDifferent (names_to count)
names_differ count few j k a b e =
    let all : length (names_to count) ≡ count = length-map-range_with_len name_at 0 count in
    let first : j < count = omega arith in
    let second : k < count = omega arith in
    same_place j k (omega arith) (omega arith) (sym (name_there count j first) ∙ e ∙ name_there count k second)

-- and each is a name
names_fit : (count : ℕ) → count ≤ 8 → All IsName (names_to count)
names_fit count few = All-map IsName name_at (range_with_len 0 count) (λ k d l.
    let all : length (range_with_len 0 count) ≡ count = length-range_with_len 0 count in
    let below : k < count = omega arith in
    let is : get_or (range_with_len 0 count) k d ≡ k = omega (arith, get_or-range_with_len 0 count k d below) in
    subst (λ p. IsName (name_at p)) (sym is) (place_fits k (omega arith)))

-- one place more
pub names_more : (place : ℕ) → map name_at (range_with_len 0 (place + 1)) ≡ map name_at (range_with_len 0 place) ++ name_at place ∷ []
names_more place = map-range_with_len_more name_at 0 place place (omega arith)

-- a ring can open with them
pub names_open : (count : ℕ) → 3 ≤ count → count ≤ 8 → CanOpen (names_to count)
names_open count some few =
    let all : length (names_to count) ≡ count = length-map-range_with_len name_at 0 count in
    (record { some = omega arith; few = omega arith; different = names_differ count few }, names_fit count few)
