-- Lines of packets, computed.
use Rattle.std.proofs.Common.{◌≡◌, ℕ, Bool, true, false, List, [], ◌∷◌, refl}
use Rattle.std.proofs.lemmas.Bool.{leb-true as le_of}
use Rattle.ring_rules.specs.Machine.{World, link_at, oldest}
use Rattle.ring_rules.specs.Step.{opening}
use Rattle.ring_rules.specs.Event.{Event, Cast, Put, Take}
use Rattle.ring_rules.specs.Compact.{line_in}
use Rattle.ring_rules.proofs.runs.JoinExamples.{reasons, ends_in}

abbrev a : List ℕ
a = 97 ∷ []

abbrev b : List ℕ
b = 98 ∷ []

abbrev x : List ℕ
x = 120 ∷ []

abbrev two : World
two = opening (record { initial = 4; more = 2; positive = le_of 1 2 refl; covered = le_of 2 4 refl; small = le_of 4 64 refl }) (a ∷ b ∷ [])

abbrev line_of : World → ℕ → ℕ → Bool
line_of w s p = line_in (link_at w s).had (oldest (link_at w s)) p

-- both publish; the first packet of b's link has a line for b, and none for a, of whom b has nothing
abbrev first : List Event
first = Cast a x ∷ Cast b x ∷ Put b ∷ []

first_happens : reasons two first ≡ []
first_happens = refl

first_lines : line_of (ends_in two first) 1 1 ∷ line_of (ends_in two first) 1 2 ∷ [] ≡ false ∷ true ∷ []
first_lines = refl

-- a takes it, publishes again and puts; b takes that and puts: its second packet has a line for a, and one for b, whose message has come round
abbrev second : List Event
second = Cast a x ∷ Cast b x ∷ Put b ∷ Take a ∷ Cast a x ∷ Put a ∷ Take b ∷ Put b ∷ []

second_happens : reasons two second ≡ []
second_happens = refl

second_lines : (link_at (ends_in two second) 1).had.fresh ∷ line_of (ends_in two second) 1 1 ∷ line_of (ends_in two second) 1 2 ∷ [] ≡ false ∷ true ∷ true ∷ []
second_lines = refl

-- where a alone publishes, its second packet has a line for a, and none for b
abbrev third : List Event
third = Cast a x ∷ Put a ∷ Take b ∷ Cast a x ∷ Put a ∷ []

third_happens : reasons two third ≡ []
third_happens = refl

third_lines : (link_at (ends_in two third) 0).had.fresh ∷ line_of (ends_in two third) 0 1 ∷ line_of (ends_in two third) 0 2 ∷ [] ≡ false ∷ true ∷ false ∷ []
third_lines = refl
