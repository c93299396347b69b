-- The opening that the first line of a journal gives.
use Rattle.std.specs.Prelude.{ℕ, Bool, true, false, ◌&&◌, not, nat_le, ◌==◌, is_some, if◌then◌else◌, Option, Some, None, Result, Ok, Err, option_and_then, unwrap_or, List, [], ◌∷◌, codes}
use Rattle.serde_json.specs.Data.{Num, Data, null, boolean, number, string, array, object, Items, no_items, item}
use Rattle.serde_json.specs.Events.{members_len}
use Rattle.serde_json.specs.Find.{get, at, as_str, as_number, as_array, as_u64, is_float}
use Rattle.ring_script.specs.Line.{members_fault, most_credit}
use Rattle.ring_journal.specs.declared.fault.Kind.{Kind}
use Rattle.ring_journal.specs.declared.fault.Kind.TheVariants.{BadHeader, UnknownVersion}
use Rattle.ring_journal.specs.declared.header.Header.{Header}
use Rattle.ring_journal.specs.Fields.{count}

-- the members with which a ring opens, and the credit of its links
pub record Opening : Type 0 where
  pub members : List (List ℕ)
  pub initial : ℕ
  pub more : ℕ

-- those of a header
abbrev pub opening_of : Header → Opening
opening_of header = record { members = header.members; initial = header.credit.initial; more = header.credit.more }

-- ---- the shape

-- how many members an object has; another value has none
abbrev pub keys : Data → ℕ
keys null = 0
keys (boolean b) = 0
keys (number n) = 0
keys (string s) = 0
keys (array ds) = 0
keys (object ms) = members_len ms

-- a whole number: one without a fraction or an exponent, of any sign, that 64 bits hold
abbrev pub is_whole_number : Option Num → Bool
is_whole_number None = false
is_whole_number (Some n) = not (is_float n)

-- a value that is one
abbrev pub is_whole : Option Data → Bool
is_whole d = is_whole_number (option_and_then as_number d)

-- such a number that isn't below 0
abbrev pub natural : Option Data → Option ℕ
natural d = option_and_then as_u64 (option_and_then as_number d)

-- an array of two whole numbers
abbrev pub are_two : Option Data → Bool
are_two None = false
are_two (Some d) = (count d == 2) && (is_whole (at 0 d) && is_whole (at 1 d))

-- whether each item is a text
abbrev pub all_texts : Items → Bool
all_texts no_items = true
all_texts (item d ds) = is_some (as_str d) && all_texts ds

-- the texts; no bytes for an item that is none
abbrev pub texts_of : Items → List (List ℕ)
texts_of no_items = []
texts_of (item d ds) = unwrap_or (as_str d) [] ∷ texts_of ds

-- items that are texts
abbrev pub are_items : Option Items → Bool
are_items None = false
are_items (Some ds) = all_texts ds

-- a value that is an array of texts
abbrev pub are_texts : Option Data → Bool
are_texts d = are_items (option_and_then as_array d)

-- an object of the members `credit`, `members` and `v` alone: two whole numbers, texts, and a whole number
abbrev pub has_shape : Data → Bool
has_shape d = (keys d == 3) && (are_two (get (codes "credit") d) && (are_texts (get (codes "members") d) && is_whole (get (codes "v") d)))

-- ---- the contents

-- the version is 1
abbrev pub is_first : Option ℕ → Bool
is_first None = false
is_first (Some n) = n == 1

-- whether two numbers make a credit
abbrev pub are_credit : ℕ → ℕ → Bool
are_credit initial more = nat_le 1 more && (nat_le more initial && nat_le initial most_credit)

-- the opening of these members, with these two numbers as its credit
abbrev pub opening_with : List (List ℕ) → Option ℕ → Option ℕ → Result Opening Kind
opening_with names None more = Err BadHeader
opening_with names (Some initial) None = Err BadHeader
opening_with names (Some initial) (Some more) =
    if are_credit initial more && not (is_some (members_fault names)) then Ok (record { members = names; initial = initial; more = more })
    else Err BadHeader

-- the items of an array that a value is
abbrev pub items_in : Option Data → Items
items_in d = unwrap_or (option_and_then as_array d) no_items

-- the opening that a value gives: its shape is judged first, then its version, then its credit and its members
abbrev pub header_in : Data → Result Opening Kind
header_in d =
    if not (has_shape d) then Err BadHeader
    else (if not (is_first (natural (get (codes "v") d))) then Err UnknownVersion
    else opening_with (texts_of (items_in (get (codes "members") d)))
    (natural (option_and_then (at 0) (get (codes "credit") d))) (natural (option_and_then (at 1) (get (codes "credit") d))))
