-- Small rings, computed, whose master copies its queue to a mirror.
use Rattle.std.proofs.Common.{◌≡◌, ℕ, true, false, ◌++◌, List, [], ◌∷◌, length, Some, None, Option, refl}
use Rattle.std.proofs.lemmas.Bool.{leb-true as le_of}
use Rattle.ring_names.specs.declared.numbers.CreditSpec.{CreditSpec}
use Rattle.ring_names.specs.declared.reason.Reason.{Reason}
use Rattle.ring_names.specs.declared.reason.Reason.TheVariants as reason
use Rattle.queue_core.specs.declared.held.CopyState.TheVariants.{Ready, Unacked}
use Rattle.queue_mirror.specs.Mirror.{MirrorState, joining}
use Rattle.ring_rules.specs.View.{left_by, right_by}
use Rattle.ring_rules.specs.Machine.{is_kept_of, member_at, newest}
use Rattle.ring_rules.specs.Step.{opening}
use Rattle.ring_rules.specs.declared.kind.CopyStep.TheVariants as copying
use Rattle.ring_copies.specs.Copies.{CopyWorld, CopyLink, copy_link_at}
use Rattle.ring_rules.specs.declared.event.Event.TheVariants as event
use Rattle.ring_copies.specs.Events.{CopyEvent, OfRing, OnCopy, refusal, effect, without_copies}

abbrev a : List ℕ
a = 97 ∷ []

abbrev b : List ℕ
b = 98 ∷ []

abbrev n : List ℕ
n = 110 ∷ []

abbrev x : List ℕ
x = 120 ∷ []

abbrev y : List ℕ
y = 121 ∷ []

abbrev eight : CreditSpec
eight = record { initial = 8; more = 4; positive = le_of 1 4 refl; covered = le_of 4 8 refl; small = le_of 8 64 refl }

-- a refused event does nothing
abbrev step_on : CopyWorld → CopyEvent → Option Reason → CopyWorld
step_on W e None = effect W e
step_on W e (Some r) = W

abbrev noted : Option Reason → List Reason → List Reason
noted None rs = rs
noted (Some r) rs = r ∷ rs

abbrev reasons : CopyWorld → List CopyEvent → List Reason
reasons W [] = []
reasons W (e ∷ es) = noted (refusal W e) (reasons (step_on W e (refusal W e)) es)

abbrev ends_in : CopyWorld → List CopyEvent → CopyWorld
ends_in W [] = W
ends_in W (e ∷ es) = ends_in (step_on W e (refusal W e)) es

abbrev one : CopyWorld
one = without_copies (opening eight (a ∷ []))

abbrev mirror : CopyWorld → ℕ → MirrorState
mirror W q = (member_at W.ring q).mirror

-- ---- operations behind the mark

abbrev since_mark : List CopyEvent
since_mark =
    OfRing (event.Publish a x) ∷ OfRing (event.Admit a n) ∷ OfRing (event.Take n) ∷ OnCopy a (copying.Open n) ∷ OfRing (event.Publish a y) ∷ OfRing (event.Get a) ∷ OnCopy a copying.Put ∷ OnCopy a copying.Put ∷ OnCopy n copying.Take ∷ OnCopy n copying.Take
    ∷ OfRing (event.Put a) ∷ OfRing (event.Take n) ∷ OnCopy n copying.Take ∷ OfRing (event.Synced n) ∷ []

-- the last load waits for the mark
since_mark_refusals : reasons one since_mark ≡ reason.MarkNotSeen ∷ []
unfolding left_by right_by is_kept_of
since_mark_refusals = refl

abbrev both_held : MirrorState
both_held = record { queue = record { next = 3; items = record { at = 1; body = x; state = Unacked } ∷ record { at = 2; body = y; state = Ready } ∷ [] }; missing = Some 0 }

since_mark_master : mirror (ends_in one since_mark) 1 ≡ both_held
unfolding left_by right_by is_kept_of
since_mark_master = refl

since_mark_mirror : mirror (ends_in one since_mark) 2 ≡ both_held
unfolding left_by right_by is_kept_of
since_mark_mirror = refl

since_mark_view : newest (ends_in one since_mark).ring ≡ 3
unfolding left_by right_by is_kept_of
since_mark_view = refl

-- ---- a master that stops before all is put

abbrev cut_off : List CopyEvent
cut_off =
    OfRing (event.Publish a x) ∷ OfRing (event.Admit a n) ∷ OfRing (event.Take n) ∷ OnCopy a (copying.Open n) ∷ OnCopy a copying.Put ∷ OfRing (event.Stop a) ∷ OnCopy n copying.Take ∷ OnCopy n copying.Take ∷ OnCopy n copying.Take ∷ OfRing (event.Synced n) ∷ []

-- the item and the end are taken, and then n has no copy any more; its mirror misses what it did
cut_off_refusals : reasons one cut_off ≡ reason.NoSyncLink ∷ reason.StillMissing None ∷ []
unfolding left_by right_by is_kept_of
cut_off_refusals = refl

cut_off_mirror : mirror (ends_in one cut_off) 2 ≡ joining
unfolding left_by right_by is_kept_of
cut_off_mirror = refl

cut_off_copy : ((copy_link_at (ends_in one cut_off).copies 0).over ≡ true) × ((copy_link_at (ends_in one cut_off).copies 0).aside ≡ [])
unfolding left_by right_by is_kept_of
cut_off_copy = (refl, refl)

-- ---- why a copy isn't opened

abbrev openings : List CopyEvent
openings =
    OfRing (event.Publish a x) ∷ OfRing (event.Admit a n) ∷ OfRing (event.Take n) ∷ OnCopy a (copying.Open x) ∷ OnCopy n (copying.Open a) ∷ OnCopy a (copying.Open a) ∷ OnCopy a copying.Put ∷ OnCopy n copying.Take ∷ OnCopy a copying.Gain ∷ OnCopy a (copying.Open n) ∷ OnCopy a (copying.Open n) ∷ OnCopy n copying.Take ∷ OnCopy a copying.Gain
    ∷ OnCopy a copying.Put ∷ OnCopy a copying.Put ∷ OnCopy a copying.Put ∷ OnCopy a (copying.Open n) ∷ []

-- nobody has that name; n doesn't lead; a is registered; there is no copy yet; it is open; nothing is on it; no grant is under
-- way; all is put; and n was marked before
openings_refusals : reasons one openings ≡ reason.UnknownMember ∷ reason.NotMaster ∷ reason.AlreadySynced ∷ reason.NoSyncLink ∷ reason.NoSyncLink ∷ reason.NoSyncLink
    ∷ reason.AlreadySyncing ∷ reason.NothingToTake ∷ reason.NoGrant ∷ reason.NoSyncLink ∷ reason.AlreadySyncing ∷ []
unfolding left_by right_by is_kept_of
openings_refusals = refl

-- ---- a receiver that is blocked on its ring link

abbrev single : CreditSpec
single = record { initial = 1; more = 1; positive = le_of 1 1 refl; covered = le_of 1 1 refl; small = le_of 1 64 refl }

abbrev lone : CopyWorld
lone = without_copies (opening single (a ∷ []))

-- n's first packet takes all its credit
abbrev blocked : List CopyEvent
blocked = OfRing (event.Publish a x) ∷ OfRing (event.Publish a y) ∷ OfRing (event.Admit a n) ∷ OfRing (event.Take n) ∷ OnCopy a (copying.Open n) ∷ OfRing (event.Refresh n 2) ∷ OnCopy a copying.Put ∷ OnCopy a copying.Put ∷ OnCopy n copying.Take ∷ OnCopy a copying.Gain ∷ []

abbrev copy_of_n : List CopyEvent → CopyLink
copy_of_n es = copy_link_at (ends_in lone es).copies 0

-- the copy has no credit for a second load, and the grant for the first is held back
blocked_refusals : reasons lone blocked ≡ reason.NoCredit ∷ reason.NoGrant ∷ []
unfolding left_by right_by is_kept_of
blocked_refusals = refl

blocked_holds : ((copy_of_n blocked).flow.receiver.held ≡ 1) × ((copy_of_n blocked).flow.grants ≡ [])
unfolding left_by right_by is_kept_of
blocked_holds = (refl, refl)

-- it goes under way when n gains credit, and not before
abbrev freed : List CopyEvent
freed = blocked ++ OfRing (event.Pick a) ∷ OfRing (event.Take a) ∷ []

freed_holds : ((copy_of_n freed).flow.receiver.held ≡ 1) × ((copy_of_n freed).flow.grants ≡ [])
unfolding left_by right_by is_kept_of
freed_holds = (refl, refl)

freed_goes : ((copy_of_n (freed ++ OfRing (event.Gain n) ∷ [])).flow.receiver.held ≡ 0) × ((copy_of_n (freed ++ OfRing (event.Gain n) ∷ [])).flow.grants ≡ 1 ∷ [])
unfolding left_by right_by is_kept_of
freed_goes = (refl, refl)

-- ---- a target that dies

-- when a reads that n isn't live, its side is over
lost_refusals : reasons one (OfRing (event.Publish a x) ∷ OfRing (event.Publish a y) ∷ OfRing (event.Admit a n) ∷ OfRing (event.Take n) ∷ OnCopy a (copying.Open n) ∷ OnCopy a copying.Put ∷ OfRing (event.Stop n) ∷ OfRing (event.Mark a n) ∷ OnCopy a copying.Put ∷ []) ≡ reason.NoSyncLink ∷ []
unfolding left_by right_by is_kept_of
lost_refusals = refl

-- ---- a master that is erased

abbrev pair : CopyWorld
pair = without_copies (opening eight (a ∷ b ∷ []))

-- a stops with its copy half put, b marks and erases it, and n reads that
abbrev orphaned : List CopyEvent
orphaned =
    OfRing (event.Publish a x) ∷ OfRing (event.Admit a n) ∷ OfRing (event.Take n) ∷ OnCopy a (copying.Open n) ∷ OnCopy a copying.Put ∷ OnCopy n copying.Take ∷ OfRing (event.Refresh n 2) ∷ OfRing (event.Refresh b 2) ∷ OfRing (event.Stop a) ∷ []

orphaned_aside : length (copy_link_at (ends_in pair orphaned).copies 0).aside ≡ 1
unfolding left_by right_by is_kept_of
orphaned_aside = refl

-- what n keeps aside is dropped when it reads that a is erased
abbrev bereft : List CopyEvent
bereft = orphaned ++ OfRing (event.TakeEnd n) ∷ OfRing (event.Mark n a) ∷ OfRing (event.Pick b) ∷ OfRing (event.Take b) ∷ OfRing (event.Refresh b 3) ∷ OfRing (event.Pick n) ∷ OfRing (event.Take n) ∷ OfRing (event.Put n) ∷ OfRing (event.Take b) ∷ OfRing (event.Put b) ∷ OfRing (event.Take n) ∷ []

bereft_copy : ((copy_link_at (ends_in pair bereft).copies 0).over ≡ false) × ((copy_link_at (ends_in pair (bereft ++ OfRing (event.Erase n a) ∷ [])).copies 0).over ≡ true) × ((copy_link_at (ends_in pair (bereft ++ OfRing (event.Erase n a) ∷ [])).copies 0).aside ≡ [])
unfolding left_by right_by is_kept_of
bereft_copy = (refl, refl, refl)

bereft_refusals : reasons pair (bereft ++ OfRing (event.Erase n a) ∷ OnCopy n copying.Take ∷ []) ≡ reason.NoSyncLink ∷ []
unfolding left_by right_by is_kept_of
bereft_refusals = refl
