-- The words of a line while they are read.
use Rattle.std.specs.Prelude.{ℕ, List, drop}
use Rattle.ring_script.specs.declared.words.Words.{Words}

-- the line that is read, and the place up to which it is read
abbrev pub line_in : Words → List ℕ
line_in words = words.line.now

-- the place in it from which the next word is read
abbrev pub place_in : Words → ℕ
place_in words = words.at

-- what is left of it
abbrev pub left_in : Words → List ℕ
left_in words = drop words.at words.line.now
