-- Small rings with a queue, computed.
use Rattle.std.proofs.Common.{◌≡◌, ℕ, ◌++◌, List, [], ◌∷◌, Some, None, refl}
use Rattle.std.proofs.lemmas.Bool.{leb-true as le_of}
use Rattle.ring_names.specs.declared.numbers.CreditSpec.{CreditSpec}
use Rattle.ring_names.specs.declared.numbers.Position.{Position}
use Rattle.ring_names.specs.declared.reason.Reason.TheVariants as reason
use Rattle.queue_core.specs.declared.held.CopyState.TheVariants.{Ready, Again}
use Rattle.queue_mirror.specs.Mirror.{MirrorState}
use Rattle.ring_rules.specs.View.{left_by, right_by}
use Rattle.ring_rules.specs.Machine.{World, is_kept_of, member_at, view_in, newest}
use Rattle.ring_rules.specs.Step.{opening}
use Rattle.ring_rules.specs.Asked.{counts_of}
use Rattle.ring_rules.specs.QueuePart.{masters_in, since_of}
use Rattle.ring_rules.specs.declared.event.Event.TheVariants.{Publish, Get, Ack, Requeue, Depth, Start, Put, Take, TakeEnd, Stop, Mark, Erase, Synced, Admit, Refresh, Pick}
use Rattle.ring_rules.specs.declared.event.Event.{Event}
use Rattle.ring_rules.proofs.runs.Examples.{a, b, c}
use Rattle.ring_rules.proofs.runs.JoinExamples.{reasons, ends_in}

abbrev one : List ℕ
one = 111 ∷ 110 ∷ 101 ∷ []

abbrev x : List ℕ
x = 120 ∷ []

abbrev y : List ℕ
y = 121 ∷ []

abbrev at : ℕ → Position
at p = record { 0 = p }

abbrev four : CreditSpec
four = record { initial = 4; more = 2; positive = le_of 1 2 refl; covered = le_of 2 4 refl; small = le_of 4 64 refl }

abbrev mirror : World → ℕ → MirrorState
mirror w q = (member_at w q).mirror

-- ---- deliveries, a return and acknowledgements

abbrev two : World
two = opening four (a ∷ b ∷ [])

abbrev served : List Event
served =
    Publish a one ∷ Publish a y ∷ Get a ∷ Get a ∷ Requeue a (at 1) ∷ Ack a (at 2) ∷ Ack a (at 1) ∷ Ack a (at 9) ∷ Get b
    ∷ Put a ∷ Take b ∷ Put b ∷ Take a ∷ []

-- one position is ready, one is unknown, and b doesn't lead
served_refusals : reasons two served ≡ reason.NotDelivered ∷ reason.UnknownPosition ∷ reason.NotMaster ∷ []
unfolding left_by right_by is_kept_of
served_refusals = refl

abbrev one_again : MirrorState
one_again = record { queue = record { next = 3; items = record { at = 1; body = one; state = Again } ∷ [] }; missing = Some 0 }

-- both mirrors hold the first message, ready again
served_master : mirror (ends_in two served) 1 ≡ one_again
unfolding left_by right_by is_kept_of
served_master = refl

served_mirror : mirror (ends_in two served) 2 ≡ one_again
unfolding left_by right_by is_kept_of
served_mirror = refl

-- both publishes are confirmed
served_counts : counts_of 1 (member_at (ends_in two served) 1) ≡ record { casts = 0; casts_confirmed = 0; publishes = 2; publishes_confirmed = 2 }
unfolding left_by right_by is_kept_of
served_counts = refl

-- ---- a promotion

abbrev three : World
three = opening four (a ∷ b ∷ c ∷ [])

abbrev round : List Event
round = Put a ∷ Take b ∷ Put b ∷ Take c ∷ Put c ∷ Take a ∷ []

abbrev promoted : List Event
promoted =
    Publish a x ∷ Publish a y ∷ Get a ∷ [] ++ round ++ round
    ++ Stop a ∷ Mark c a ∷ TakeEnd b ∷ Refresh b 2 ∷ Pick b ∷ Take b ∷ Erase b a ∷ Refresh c 3
    ∷ Get b ∷ Start c ∷ Start b ∷ Start b ∷ Put b ∷ Take c ∷ []

-- b leads, and has Start to publish first, once
promoted_refusals : reasons three promoted ≡ reason.NotStarted ∷ reason.NotMaster ∷ reason.AlreadyStarted ∷ []
unfolding left_by right_by is_kept_of
promoted_refusals = refl

promoted_masters : masters_in (ends_in three promoted) ≡ 1 ∷ 2 ∷ []
unfolding left_by right_by is_kept_of
promoted_masters = refl

abbrev both_stand : MirrorState
both_stand = record { queue = record { next = 3; items = record { at = 1; body = x; state = Again } ∷ record { at = 2; body = y; state = Ready } ∷ [] }; missing = Some 0 }

-- what was handed out is ready again, at both
promoted_master : mirror (ends_in three promoted) 2 ≡ both_stand
unfolding left_by right_by is_kept_of
promoted_master = refl

promoted_mirror : mirror (ends_in three promoted) 3 ≡ both_stand
unfolding left_by right_by is_kept_of
promoted_mirror = refl

-- ---- a newcomer that is told how many messages there are, and can't lead

abbrev solo : World
solo = opening four (a ∷ [])

abbrev joined : List Event
joined = Publish a x ∷ Put a ∷ Take a ∷ Put a ∷ Take a ∷ Admit a b ∷ Take b ∷ Refresh b 2 ∷ Pick a ∷ Take a ∷ Depth a ∷ Put a ∷ Take b ∷ []

joined_refusals : reasons solo joined ≡ []
unfolding left_by right_by is_kept_of
joined_refusals = refl

-- it joined behind one operation, holds nothing, and lacks one message
joined_mirror : mirror (ends_in solo joined) 2 ≡ record { queue = record { next = 1; items = [] }; missing = Some 1 }
unfolding left_by right_by is_kept_of
joined_mirror = refl

joined_since : since_of (ends_in solo joined) 2 ≡ Some 1
unfolding left_by right_by is_kept_of
joined_since = refl

abbrev orphaned : List Event
orphaned = joined ++ Put b ∷ Take a ∷ Put a ∷ Take b ∷ Put b ∷ Take a ∷ Stop a ∷ TakeEnd b ∷ Mark b a ∷ Pick b ∷ Take b ∷ Erase b a ∷ Publish b y ∷ []

orphaned_refusals : reasons solo orphaned ≡ reason.NoMaster ∷ []
unfolding left_by right_by is_kept_of
orphaned_refusals = refl

-- nobody leads any more, and it lacks the message still
orphaned_master : (view_in (ends_in solo orphaned) (newest (ends_in solo orphaned))).master ≡ None
unfolding left_by right_by is_kept_of
orphaned_master = refl

orphaned_mirror : (mirror (ends_in solo orphaned) 2).missing ≡ Some 1
unfolding left_by right_by is_kept_of
orphaned_mirror = refl

-- ---- a newcomer that is registered, and then leads

abbrev enrolled : List Event
enrolled =
    Admit a b ∷ Take b ∷ Refresh b 2 ∷ Synced b ∷ Pick a ∷ Take a ∷ Depth a ∷ Put a ∷ Take b ∷ Put b ∷ Take a ∷ Put a ∷ Take b ∷ Put b ∷ Take a
    ∷ Stop a ∷ TakeEnd b ∷ Mark b a ∷ Pick b ∷ Take b ∷ Erase b a ∷ Publish b y ∷ Synced b ∷ Synced b ∷ Publish b y ∷ Start b ∷ Publish b y ∷ []

-- it can't be before it is told how many there are, and then once; nobody leads until it is, and it starts first
enrolled_refusals : reasons solo enrolled ≡ reason.StillMissing None ∷ reason.NoMaster ∷ reason.AlreadySynced ∷ reason.NotStarted ∷ []
unfolding left_by right_by is_kept_of
enrolled_refusals = refl

enrolled_masters : masters_in (ends_in solo enrolled) ≡ 1 ∷ 2 ∷ []
unfolding left_by right_by is_kept_of
enrolled_masters = refl

enrolled_mirror : mirror (ends_in solo enrolled) 2 ≡ record { queue = record { next = 2; items = record { at = 1; body = y; state = Ready } ∷ [] }; missing = Some 0 }
unfolding left_by right_by is_kept_of
enrolled_mirror = refl
