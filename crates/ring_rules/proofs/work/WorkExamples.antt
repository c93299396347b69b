-- The measure in small rings, computed: an admission with a first take, and a death with an erasure.
use Rattle.std.proofs.Common.{◌≡◌, ℕ, List, [], ◌∷◌, Some, None, Option, refl}
use Rattle.std.proofs.lemmas.Bool.{leb-true as le_of}
use Rattle.ring_names.specs.declared.reason.Reason.{Reason}
use Rattle.ring_rules.specs.declared.event.Event.{Event}
use Rattle.ring_rules.specs.declared.event.Event.TheVariants.{Cast, Put, Take, TakeEnd, Stop, Mark, Erase, Admit, Refresh, Pick}
use Rattle.ring_rules.specs.View.{left_by, right_by}
use Rattle.ring_rules.specs.Machine.{World, is_kept_of}
use Rattle.ring_rules.specs.Step.{opening}
use Rattle.ring_rules.specs.Event.{refusal, effect, last}
use Rattle.ring_rules.specs.Work.{work}

abbrev a : List ℕ
a = 97 ∷ []

abbrev b : List ℕ
b = 98 ∷ []

abbrev n : List ℕ
n = 110 ∷ []

abbrev x : List ℕ
x = 120 ∷ []

-- what is left to do after each event; nothing stands for one that is refused
abbrev shown : Option Reason → List ℕ → List ℕ
shown None ns = ns
shown (Some r) ns = []

abbrev works : World → List Event → List (List ℕ)
works w [] = []
works w (e ∷ es) = shown (refusal w e) (work (effect w e)) ∷ works (effect w e) es

abbrev two : World
two = opening (record { initial = 4; more = 2; positive = le_of 1 2 refl; covered = le_of 2 4 refl; small = le_of 4 64 refl }) (a ∷ b ∷ [])

-- a publishes and admits n, which raises it; n takes its first packet, and n and b read the view
abbrev joins : List Event
joins = Cast a x ∷ Admit a n ∷ Take n ∷ Refresh n 2 ∷ Refresh b 2 ∷ []

joining : works two joins ≡ (4 ∷ 0 ∷ 0 ∷ 20 ∷ []) ∷ (7 ∷ 2 ∷ 1 ∷ 31 ∷ []) ∷ (7 ∷ 2 ∷ 1 ∷ 26 ∷ []) ∷ (7 ∷ 1 ∷ 1 ∷ 30 ∷ []) ∷ (7 ∷ 0 ∷ 1 ∷ 29 ∷ []) ∷ []
unfolding left_by right_by is_kept_of
joining = refl

-- b takes from the new link, as it left the old one at its refresh, and the message goes on to a
joined : works (last two joins) (Pick b ∷ Take b ∷ Put b ∷ Take a ∷ []) ≡ (7 ∷ 0 ∷ 1 ∷ 28 ∷ []) ∷ (7 ∷ 0 ∷ 1 ∷ 26 ∷ []) ∷ (7 ∷ 0 ∷ 1 ∷ 25 ∷ []) ∷ (7 ∷ 0 ∷ 1 ∷ 23 ∷ []) ∷ []
unfolding left_by right_by is_kept_of
joined = refl

-- b stops; a takes the end of its link, has it marked, takes its own first packet, and has it erased
erasing : works two (Stop b ∷ TakeEnd a ∷ Mark a b ∷ Pick a ∷ Take a ∷ Erase a b ∷ []) ≡ (4 ∷ 0 ∷ 0 ∷ 4 ∷ []) ∷ (4 ∷ 0 ∷ 0 ∷ 1 ∷ []) ∷ (3 ∷ 1 ∷ 0 ∷ 7 ∷ []) ∷ (3 ∷ 1 ∷ 0 ∷ 6 ∷ []) ∷ (3 ∷ 1 ∷ 0 ∷ 4 ∷ []) ∷ (2 ∷ 1 ∷ 0 ∷ 4 ∷ []) ∷ []
unfolding left_by right_by is_kept_of
erasing = refl
