-- The bytes of a text, judged one after another.
use Rattle.std.proofs.Common.{◌≡◌, ℕ, Bool, true, false, ◌&&◌, nat_le, List, [], ◌∷◌, ◌++◌, refl, ◌∙◌}
use Rattle.std.specs.List.{list_all}
use Rattle.std.proofs.lemmas.List.Folds.{list_all-append}
use Rattle.ring_script.specs.Words.{is_text_byte}

one_by : (all low high : Bool) → (all && ((low && high) && true)) ≡ ((all && low) && high)
one_by true true true = refl
one_by true true false = refl
one_by true false high = refl
one_by false low high = refl

-- a further byte is of a text too, or not all are
pub all_more : (bs : List ℕ) (b : ℕ) → list_all is_text_byte (bs ++ b ∷ []) ≡ ((list_all is_text_byte bs && nat_le 32 b) && nat_le b 126)
all_more bs b = list_all-append is_text_byte bs (b ∷ []) ∙ one_by (list_all is_text_byte bs) (nat_le 32 b) (nat_le b 126)
