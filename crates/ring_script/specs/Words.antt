-- Lines, the words in them, and numbers.
use Rattle.std.specs.Prelude.{◌≡◌, ℕ, ◌+◌, ◌<◌, ◌≤◌, Bool, ◌&&◌, not, nat_le, nat_lt, ◌==◌, if◌then◌else◌, Option, Some, None, List, [], ◌∷◌, length, take, drop}
use Rattle.std.specs.List.{list_all, slice_split, slice_index, onto_first, prefix_len, filter}
use Rattle.std.specs.Str.Parse.{digits_value}

-- ---- lines

-- the lines of a text: a line feed ends a line, and a last run of bytes without one is a line too
abbrev pub lines_of : List ℕ → List (List ℕ)
lines_of [] = []
lines_of (b ∷ bs) = if b == 10 then [] ∷ lines_of bs else onto_first b (lines_of bs)

-- a byte from the space to the tilde
abbrev pub is_text_byte : ℕ → Bool
is_text_byte b = nat_le 32 b && nat_le b 126

-- ---- words

-- whether a byte is a space
abbrev pub is_space : ℕ → Bool
is_space b = b == 32

-- a byte of a word
abbrev pub is_inner : ℕ → Bool
is_inner b = not (is_space b)

-- no byte but spaces
abbrev pub is_blank : List ℕ → Bool
is_blank text = list_all is_space text

-- there is a byte
abbrev pub has_byte : List ℕ → Bool
has_byte bytes = nat_lt 0 (length bytes)

-- the words of a text: what stands between its spaces, where a byte does
abbrev pub words_of : List ℕ → List (List ℕ)
words_of text = filter has_byte (slice_split is_space text)

-- a text without the spaces in front
abbrev pub from_word : List ℕ → List ℕ
from_word text = drop (prefix_len is_space text) text

-- the word in front, behind any spaces
abbrev pub first_word : List ℕ → List ℕ
first_word text = take (prefix_len is_inner (from_word text)) (from_word text)

-- what stands behind that word: nothing, or a space and further bytes
abbrev pub behind_word : List ℕ → List ℕ
behind_word text = drop (prefix_len is_inner (from_word text)) (from_word text)

-- a text without the one space in front, where one stands there
abbrev pub behind_space : List ℕ → List ℕ
behind_space text = drop (if slice_index text 0 == 32 then 1 else 0) text

-- ---- words, one after another

-- the place behind the one space at a place, where one stands there
abbrev pub body_start : List ℕ → ℕ → ℕ
body_start line at = if nat_lt at (length line) && (slice_index line at == 32) then at + 1 else at

-- The next word of a line that is read up to a place: only spaces stand between that place and the word, none
-- in the word, and behind it a space or nothing.
pub record IsNextWord (line : List ℕ) (at start end : ℕ) : Type 0 where
  pub behind : at ≤ start
  pub some : start < end
  pub within : end ≤ length line
  pub spaces : (k : ℕ) → at ≤ k → k < start → slice_index line k ≡ 32
  pub inner : (k : ℕ) → start ≤ k → k < end → (slice_index line k ≡ 32) → ⊥
  pub ends : end < length line → slice_index line end ≡ 32

-- ---- numbers

-- a digit from 0 to 9
abbrev pub is_digit : ℕ → Bool
is_digit b = nat_le 48 b && nat_le b 57

-- a digit from 1 to 9 and further digits
abbrev pub is_number : List ℕ → Bool
is_number word = has_byte word && (not (slice_index word 0 == 48) && list_all is_digit word)

-- the number that the word writes, where it is one up to the limit
abbrev pub number_of : ℕ → List ℕ → Option ℕ
number_of most word = if is_number word && nat_le (digits_value 10 word) most then Some (digits_value 10 word) else None
