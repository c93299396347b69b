-- Small rings, computed: members that join, and origins that are erased.
use Rattle.std.proofs.Common.{◌≡◌, ℕ, true, ◌++◌, List, [], ◌∷◌, Some, None, Option, refl}
use Rattle.std.proofs.lemmas.Bool.{leb-true as le_of}
use Rattle.ring_names.specs.declared.numbers.CreditSpec.{CreditSpec}
use Rattle.queue_core.specs.declared.message.Message.{Message}
use Rattle.queue_core.specs.declared.message.Message.TheVariants as message
use Rattle.ring_names.specs.declared.reason.Reason.{Reason}
use Rattle.ring_names.specs.declared.reason.Reason.TheVariants as reason
use Rattle.group_view.specs.View.{ids, is_erased}
use Rattle.ring_rules.specs.View.{left_by, right_by}
use Rattle.ring_rules.specs.Machine.{World, is_kept_of, member_at, row_at, view_in}
use Rattle.ring_rules.specs.OpenLinks.{the_walk}
use Rattle.ring_rules.specs.Step.{opening}
use Rattle.ring_rules.specs.Event.{Event, Cast, Put, Take, TakeEnd, Stop, Mark, Erase, Admit, Refresh, Pick, refusal, effect}
use Rattle.ring_rules.proofs.runs.Examples.{a, b, c}

abbrev n : List ℕ
n = 110 ∷ []

abbrev x : List ℕ
x = 120 ∷ []

-- why some of the events are refused; a refused event does nothing
abbrev pub step_on : World → Event → Option Reason → World
step_on w e None = effect w e
step_on w e (Some r) = w

abbrev pub noted : Option Reason → List Reason → List Reason
noted None rs = rs
noted (Some r) rs = r ∷ rs

abbrev pub reasons : World → List Event → List Reason
reasons w [] = []
reasons w (e ∷ es) = noted (refusal w e) (reasons (step_on w e (refusal w e)) es)

abbrev pub ends_in : World → List Event → World
ends_in w [] = w
ends_in w (e ∷ es) = ends_in (step_on w e (refusal w e)) es

abbrev four : CreditSpec
four = record { initial = 4; more = 2; positive = le_of 1 2 refl; covered = le_of 2 4 refl; small = le_of 4 64 refl }

abbrev two : World
two = opening four (a ∷ b ∷ [])

-- what member q heard of the origin p
abbrev heard : World → ℕ → ℕ → List Message
heard w q p = (row_at (member_at w q) p).heard

-- ---- an admission and a first take

abbrev begins : List Event
begins = Cast a x ∷ Admit a n ∷ []

-- n, of id 3, comes right of a, and a's link to it holds a first packet of the second view: it stands for n
admitted_ids : ids (view_in (ends_in two begins) 2).entries ≡ 1 ∷ 3 ∷ 2 ∷ []
unfolding left_by right_by is_kept_of
admitted_ids = refl

-- the walk of a: a, n, b, and again; and what a has retired
admitted_walk : the_walk (ends_in two begins) 1 ≡ 1 ∷ 1 ∷ 0 ∷ 0 ∷ 0 ∷ 0 ∷ 0 ∷ []
unfolding left_by right_by is_kept_of
admitted_walk = refl

-- what n knows of a after its first take: it receives from 1 on, which was a's number of messages when it was admitted
first_take : row_at (member_at (ends_in two (begins ++ Take n ∷ [])) 3) 1 ≡ record { got = 1; forgot = 0; retired = 0; heard = []; base = 1; born = 1 }
unfolding left_by right_by is_kept_of
first_take = refl

-- who waits does nothing but take, take an end and stop
waiting_is_refused : reasons two (begins ++ Cast n x ∷ Put n ∷ Refresh n 2 ∷ Pick n ∷ Admit n b ∷ Erase n a ∷ []) ≡ reason.Waiting ∷ reason.Waiting ∷ reason.Waiting ∷ reason.Waiting ∷ reason.Waiting ∷ reason.Waiting ∷ []
unfolding left_by right_by is_kept_of
waiting_is_refused = refl

-- a name that was ever there is taken
name_is_taken : reasons two (begins ++ Admit b n ∷ Admit b a ∷ []) ≡ reason.NameTaken ∷ reason.NameTaken ∷ []
unfolding left_by right_by is_kept_of
name_is_taken = refl

-- ---- the admitter stops before the joiner's first take

abbrev admitter_stops : List Event
admitter_stops =
    Cast a x ∷ Admit a n ∷ Stop a ∷ Take n ∷ TakeEnd n ∷ Mark n a ∷ TakeEnd b ∷ Refresh b 3 ∷ Pick b ∷ Take b ∷ Pick n ∷ Take n
    ∷ Put b ∷ Take n ∷ Put n ∷ Take b ∷ Put b ∷ Take n ∷ Erase n a ∷ []

none_refused : reasons two admitter_stops ≡ []
unfolding left_by right_by is_kept_of
none_refused = refl

-- b, which was there before x, hears it from the joiner; the joiner itself joined after x
b_hears : heard (ends_in two admitter_stops) 2 1 ≡ message.Cast x ∷ []
unfolding left_by right_by is_kept_of
b_hears = refl

n_does_not : heard (ends_in two admitter_stops) 3 1 ≡ []
unfolding left_by right_by is_kept_of
n_does_not = refl

-- b is the master of the second term, as n isn't synchronised
b_leads : (view_in (ends_in two admitter_stops) 4).master ≡ Some (record { 0 = 2 })
unfolding left_by right_by is_kept_of
b_leads = refl

second_term : (view_in (ends_in two admitter_stops) 4).term ≡ 2
unfolding left_by right_by is_kept_of
second_term = refl

-- a is erased, and all numbers of it agree
erased_walk : the_walk (ends_in two admitter_stops) 1 ≡ 1 ∷ 1 ∷ 1 ∷ 1 ∷ 1 ∷ []
unfolding left_by right_by is_kept_of
erased_walk = refl

-- ---- a neighbour comes back

abbrev comes_back : List Event
comes_back =
    Cast a x ∷ Put a ∷ Cast a b ∷ Put a ∷ Take b ∷ Admit a n ∷ Stop n ∷ Mark a n ∷ Refresh b 3 ∷ Pick b ∷ Take b ∷ Erase a n ∷ Erase b n ∷ []

-- only b may erase n
not_owner : reasons two comes_back ≡ reason.NotOwner ∷ []
unfolding left_by right_by is_kept_of
not_owner = refl

-- the packet left in the first link is never taken, and nothing repeats
b_heard_both : heard (ends_in two comes_back) 2 1 ≡ message.Cast x ∷ message.Cast b ∷ []
unfolding left_by right_by is_kept_of
b_heard_both = refl

-- an entry that lives isn't erased, and one that was erased isn't again
not_dead : reasons two (comes_back ++ Erase b n ∷ Erase b a ∷ []) ≡ reason.NotOwner ∷ reason.NotDead ∷ reason.NotDead ∷ []
unfolding left_by right_by is_kept_of
not_dead = refl

-- ---- the publisher stops when only its right neighbour has the message

abbrev three : World
three = opening four (a ∷ b ∷ c ∷ [])

-- b and c carry it round between them, and then it is at both, and a is erased
abbrev one_has_it : List Event
one_has_it =
    Cast a x ∷ Put a ∷ Take b ∷ Stop a ∷ TakeEnd b ∷ Mark b a ∷ Put b ∷ Take c ∷ Refresh c 2 ∷ Take c ∷ Pick b ∷ Take b
    ∷ Put c ∷ Take b ∷ Put b ∷ Take c ∷ Put c ∷ Take b ∷ []

too_old : reasons three (one_has_it ++ Erase b a ∷ []) ≡ reason.ViewTooOld 2 1 ∷ []
unfolding left_by right_by is_kept_of
too_old = refl

c_hears : heard (ends_in three (one_has_it ++ Erase b a ∷ [])) 3 1 ≡ message.Cast x ∷ []
unfolding left_by right_by is_kept_of
c_hears = refl

is_erased_now : is_erased (view_in (ends_in three (one_has_it ++ Erase b a ∷ [])) 3).entries 1 ≡ true
unfolding left_by right_by is_kept_of
is_erased_now = refl

-- before the message and its acknowledgement have come round, a isn't erased
not_retired_yet : reasons three (Cast a x ∷ Put a ∷ Take b ∷ Stop a ∷ TakeEnd b ∷ Mark b a ∷ Erase b a ∷ []) ≡ reason.NotRetired 1 0 ∷ []
unfolding left_by right_by is_kept_of
not_retired_yet = refl

-- ---- the publisher stops before its put

-- the message stands nowhere else: c marks a, and b has it erased once it knows that
never_put : reasons three (Cast a x ∷ Stop a ∷ Mark c a ∷ Take b ∷ Erase b a ∷ Refresh b 2 ∷ Erase b a ∷ []) ≡ reason.EndNext ∷ reason.NotOwner ∷ []
unfolding left_by right_by is_kept_of
never_put = refl

-- ---- two neighbours stop before either is marked

abbrev d : List ℕ
d = 100 ∷ []

abbrev quartet : World
quartet = opening four (a ∷ b ∷ c ∷ d ∷ [])

abbrev two_stop : List Event
two_stop =
    Cast a x ∷ Put a ∷ Take b ∷ Put b ∷ Take c ∷ Stop a ∷ Stop b ∷ TakeEnd c ∷ Mark c b ∷ Mark c a ∷ Put c ∷ Refresh d 3 ∷ Take d ∷ Pick c ∷ Take c
    ∷ Put d ∷ Take c ∷ Put c ∷ Take d ∷ Put d ∷ Take c ∷ Erase c a ∷ Erase c b ∷ []

all_enabled : reasons quartet two_stop ≡ []
unfolding left_by right_by is_kept_of
all_enabled = refl

both_hear : heard (ends_in quartet two_stop) 3 1 ++ heard (ends_in quartet two_stop) 4 1 ≡ message.Cast x ∷ message.Cast x ∷ []
unfolding left_by right_by is_kept_of
both_hear = refl

-- c has both erased, and leads the second term
c_leads : (view_in (ends_in quartet two_stop) 5).master ≡ Some (record { 0 = 3 })
unfolding left_by right_by is_kept_of
c_leads = refl
