-- Where a reader stands among the used lines.
use Rattle.std.specs.Prelude.{◌≡◌, ℕ, List, [], ◌∷◌, length, if◌then◌else◌}
use Rattle.ring_script.specs.declared.reader.Reader.{Reader}
use Rattle.ring_script.specs.Line.{Grammar, is_skipped}
use Rattle.ring_script.specs.Reading.{next_of, members_of, known_of, credit_of, statements_of}

-- a line behind its number, where it isn't skipped
abbrev pub used_line : ℕ → List ℕ → List (ℕ × List ℕ)
used_line number line = if is_skipped line then [] else (number, line) ∷ []

-- a reader has what these used lines say
pub record HasRead {X : Type 0} (grammar : Grammar) (says : List ℕ → List ℕ → X) (used : List (ℕ × List ℕ)) (reader : Reader X) : Type 0 where
  pub next : reader.next ≡ next_of used
  pub known : reader.known.items ≡ known_of grammar used
  pub opening : reader.opening ≡ length (members_of used)
  pub credit : (reader.credit.initial, reader.credit.more) ≡ credit_of used
  pub lines : reader.lines.items ≡ statements_of says used
