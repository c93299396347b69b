-- What a body is, and when reading one fails.
use Rattle.std.specs.Prelude.{◌≡◌, ℕ, ◌<◌, ◌≤◌, Bool, List, ◌||◌, length, nat_lt, Option, Some, None, position}
use Rattle.ring_names.specs.declared.body.BodyFault.{BodyFault}
use Rattle.ring_names.specs.declared.body.BodyFault.TheVariants.{TooLong, BadByte, OutOfMemory}

-- a byte that no body holds: below the space or above the tilde
abbrev pub is_bad_body_byte : ℕ → Bool
is_bad_body_byte b = nat_lt b 32 || nat_lt 126 b

-- at most 256 bytes of text
pub record IsBody (bytes : List ℕ) : Type 0 where
  pub short : length bytes ≤ 256
  pub text : position is_bad_body_byte bytes ≡ None

-- when each fault comes; want of memory comes only where the bytes are a body
abbrev pub FailsAsBody : List ℕ → BodyFault → Type 0
FailsAsBody bytes TooLong = 256 < length bytes
FailsAsBody bytes (BadByte at) = (length bytes ≤ 256) × (position is_bad_body_byte bytes ≡ Some at)
FailsAsBody bytes OutOfMemory = IsBody bytes
