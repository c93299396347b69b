-- A ring of three whose publisher stops when only its right neighbour has the message: the walk of its origin, computed.
use Rattle.std.proofs.Common.{◌≡◌, ℕ, List, [], ◌∷◌, Some, refl}
use Rattle.ring_names.specs.declared.numbers.CreditSpec.{CreditSpec}
use Rattle.ring_names.specs.declared.reason.Reason.TheVariants as reason
use Rattle.ring_rules.specs.View.{left_by, right_by}
use Rattle.ring_rules.specs.Machine.{World, is_kept_of}
use Rattle.ring_rules.proofs.walks.CountedWalk.{walk}
use Rattle.ring_rules.specs.Step.{opening}
use Rattle.ring_rules.specs.Event.{Event, Cast, Put, Take, TakeEnd, Stop, Mark, Refresh, last, refusal}

abbrev pub a : List ℕ
a = 97 ∷ []

abbrev pub b : List ℕ
b = 98 ∷ []

abbrev pub c : List ℕ
c = 99 ∷ []

abbrev three : CreditSpec → List Event → World
three credit es = last (opening credit (a ∷ b ∷ c ∷ [])) es

abbrev cast_x : Event
cast_x = Cast a (120 ∷ [])

-- after the cast
after_cast : (credit : CreditSpec) → walk (three credit (cast_x ∷ [])) 1 ≡ 1 ∷ 0 ∷ 0 ∷ 0 ∷ 0 ∷ 0 ∷ 0 ∷ []
unfolding left_by right_by is_kept_of
after_cast credit = refl

-- the packet stands before b's own number
after_put : (credit : CreditSpec) → walk (three credit (cast_x ∷ Put a ∷ [])) 1 ≡ 1 ∷ 1 ∷ 0 ∷ 0 ∷ 0 ∷ 0 ∷ 0 ∷ 0 ∷ 0 ∷ []
unfolding left_by right_by is_kept_of
after_put credit = refl

after_take : (credit : CreditSpec) → walk (three credit (cast_x ∷ Put a ∷ Take b ∷ [])) 1 ≡ 1 ∷ 1 ∷ 0 ∷ 0 ∷ 0 ∷ 0 ∷ 0 ∷ []
unfolding left_by right_by is_kept_of
after_take credit = refl

-- a stops: b is the owner of its origin
after_stop : (credit : CreditSpec) → walk (three credit (cast_x ∷ Put a ∷ Take b ∷ Stop a ∷ [])) 1 ≡ 1 ∷ 0 ∷ 0 ∷ 0 ∷ 0 ∷ []
unfolding left_by right_by is_kept_of
after_stop credit = refl

after_end : (credit : CreditSpec) → walk (three credit (cast_x ∷ Put a ∷ Take b ∷ Stop a ∷ TakeEnd b ∷ [])) 1 ≡ 1 ∷ 0 ∷ 0 ∷ 0 ∷ 0 ∷ []
unfolding left_by right_by is_kept_of
after_end credit = refl

-- b marks a: its right neighbour stays c, so that no link opens
after_mark : (credit : CreditSpec) → walk (three credit (cast_x ∷ Put a ∷ Take b ∷ Stop a ∷ TakeEnd b ∷ Mark b a ∷ [])) 1 ≡ 1 ∷ 0 ∷ 0 ∷ 0 ∷ 0 ∷ []
unfolding left_by right_by is_kept_of
after_mark credit = refl

-- b's packet at c is of b's view, the second
after_second_put : (credit : CreditSpec) → walk (three credit (cast_x ∷ Put a ∷ Take b ∷ Stop a ∷ TakeEnd b ∷ Mark b a ∷ Put b ∷ [])) 1 ≡ 1 ∷ 1 ∷ 0 ∷ 0 ∷ 0 ∷ 0 ∷ 0 ∷ []
unfolding left_by right_by is_kept_of
after_second_put credit = refl

-- which c may not take yet
take_too_old : (credit : CreditSpec) → refusal (three credit (cast_x ∷ Put a ∷ Take b ∷ Stop a ∷ TakeEnd b ∷ Mark b a ∷ Put b ∷ [])) (Take c) ≡ Some (reason.ViewTooOld 2 1)
unfolding left_by right_by is_kept_of
take_too_old credit = refl

-- c refreshes: it opens a link to b with a first packet, which b can't take before it picks it
after_refresh : (credit : CreditSpec) → walk (three credit (cast_x ∷ Put a ∷ Take b ∷ Stop a ∷ TakeEnd b ∷ Mark b a ∷ Put b ∷ Refresh c 2 ∷ [])) 1 ≡ 1 ∷ 1 ∷ 0 ∷ 0 ∷ 0 ∷ 0 ∷ 0 ∷ 0 ∷ 0 ∷ []
unfolding left_by right_by is_kept_of
after_refresh credit = refl
