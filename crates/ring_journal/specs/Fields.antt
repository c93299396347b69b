-- The fields of a JSON array.
use Rattle.std.specs.Prelude.{ℕ, Bool, ◌&&◌, not, nat_le, if◌then◌else◌, Option, Some, None, is_some, option_map, option_and_then, List, length, position}
use Rattle.std.specs.Result.{result_ok}
use Rattle.ring_names.specs.Name.{name_or_fault}
use Rattle.ring_names.specs.Body.{is_bad_body_byte}
use Rattle.ring_names.specs.declared.numbers.Position.{Position}
use Rattle.queue_core.specs.Shown.{as_position}
use Rattle.ring_script.specs.Vocabulary.{most_position}
use Rattle.serde_json.specs.Data.{Data, null, boolean, number, string, array, object}
use Rattle.serde_json.specs.Events.{items_len}
use Rattle.serde_json.specs.Find.{at, as_str, as_number, as_u64}

-- how many fields it has; a value that is no array has none
abbrev pub count : Data → ℕ
count null = 0
count (boolean b) = 0
count (number n) = 0
count (string s) = 0
count (array ds) = items_len ds
count (object ms) = 0

-- the text at a place, from 0
abbrev pub text_at : ℕ → Data → Option (List ℕ)
text_at place d = option_and_then as_str (at place d)

-- the name there
abbrev pub name_at : ℕ → Data → Option (List ℕ)
name_at place d = option_and_then (λ text. result_ok (name_or_fault text)) (text_at place d)

-- whether bytes are a body
abbrev pub is_body : List ℕ → Bool
is_body bytes = nat_le (length bytes) 256 && not (is_some (position is_bad_body_byte bytes))

-- the body there
abbrev pub body_at : ℕ → Data → Option (List ℕ)
body_at place d = option_and_then (λ text. if is_body text then Some text else None) (text_at place d)

-- the number there, from 1 up to a limit
abbrev pub number_at : ℕ → ℕ → Data → Option ℕ
number_at most place d = option_and_then (λ n. if nat_le 1 n && nat_le n most then Some n else None) (option_and_then as_u64 (option_and_then as_number (at place d)))

-- the position there
abbrev pub position_at : ℕ → Data → Option Position
position_at place d = option_map as_position (number_at most_position place d)
