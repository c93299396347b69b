-- What the words of the command line ask for.
use Rattle.std.specs.Prelude.{◌≡◌, ℕ, List, Some}
use Rattle.ring_words.specs.declared.asked.Asked.{Asked}
use Rattle.ring_words.specs.Words.{IsRefused, means, named_by}

-- the command doesn't refuse the words, and this is what they name
pub record Asks (words : List (List ℕ)) (asked : Asked) : Type 0 where
  pub taken : IsRefused words → ⊥
  pub named : named_by words ≡ Some (means asked)

-- the command refuses them
abbrev pub AsksNothing : List (List ℕ) → Type 0
AsksNothing words = IsRefused words
