-- What a name is, and what reading one answers.
use Rattle.std.specs.Prelude.{◌≡◌, ℕ, ◌<◌, ◌≤◌, Bool, true, List, ◌&&◌, ◌||◌, not, length, nat_le, nat_lt, nat_eq, if◌then◌else◌, Option, Some, None, Result, Ok, Err, position}
use Rattle.ring_names.specs.declared.name.NameFault.{NameFault}
use Rattle.ring_names.specs.declared.name.NameFault.TheVariants.{Empty, TooLong, BadByte}

-- a byte that no name holds: neither a letter from a to z nor a digit
abbrev pub is_bad_name_byte : ℕ → Bool
is_bad_name_byte b = not ((nat_le 97 b && nat_le b 122) || (nat_le 48 b && nat_le b 57))

-- 1 to 16 letters and digits
pub record IsName (bytes : List ℕ) : Type 0 where
  pub some : 0 < length bytes
  pub short : length bytes ≤ 16
  pub letters : position is_bad_name_byte bytes ≡ None

-- bytes of a fitting length are a name, but for their first bad byte
abbrev pub unless_bad : List ℕ → Option ℕ → Result (List ℕ) NameFault
unless_bad bytes None = Ok bytes
unless_bad bytes (Some at) = Err (BadByte at)

-- the name that these bytes are, or the first fault
abbrev pub name_or_fault : List ℕ → Result (List ℕ) NameFault
name_or_fault bytes =
    if nat_eq (length bytes) 0 then Err Empty
    else (if nat_lt 16 (length bytes) then Err TooLong
    else unless_bad bytes (position is_bad_name_byte bytes))
