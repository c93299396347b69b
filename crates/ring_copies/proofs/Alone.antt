-- The events of a ring with copies: what a ring by itself does, a ring with copies does too.
use Rattle.std.proofs.Common.{◌≡◌, ◌≢◌, ℕ, Bool, true, false, not, nat_eq, List, [], ◌∷◌, refl, sym, ap, subst, ◌∙◌, Option, Some, None}
use Rattle.std.specs.Prelude.{◌&&◌}
use Rattle.std.proofs.lemmas.Bool.{false≢true}
use Rattle.ring_names.specs.declared.reason.Reason.{Reason}
use Rattle.ring_names.specs.declared.reason.Reason.TheVariants as reason
use Rattle.ring_names.specs.Reason.{code_of}
use Rattle.ring_rules.specs.Refusal.{refuse_if, or_else}
use Rattle.ring_rules.specs.Machine.{World, member_at, is_waiting}
use Rattle.ring_rules.specs.declared.event.Event.{Event}
use Rattle.ring_rules.specs.declared.event.Event.TheVariants as event
use Rattle.ring_rules.specs.declared.event.Client.TheVariants as client
use Rattle.ring_rules.specs.declared.kind.CopyStep.{CopyStep}
use Rattle.ring_rules.specs.declared.kind.CopyStep.TheVariants as copying
use Rattle.ring_rules.specs.Event.{by_of, id_of, of_member, is_stopped, up_refusal, is_told, refused_at, at_found, done_at}
use Rattle.ring_rules.specs.Event as ring
use Rattle.ring_rules.proofs.events.Enabled.{up_later}
use Rattle.ring_copies.specs.Copies.{CopyWorld}
use Rattle.ring_copies.specs.Events.{CopyEvent, OfRing, OnCopy, RefusesCopy, sort_of, step_refusal, refused_in, done_in, let_go_by, where_found}
use Rattle.ring_copies.specs.Events as sorted
use Rattle.ring_copies.specs.Work.{is_repair_with_copies, NothingLeftWithCopies}
use Rattle.ring_copies.specs.Runs.{refusal, effect, IsRun, last, is_repair, NothingLeft}

-- ---- a ring by itself has no step on a copy

waits_on : (w : World) (x : ℕ) → up_refusal w x (Some reason.Waiting) ≢ None
waits_on w x h = let bad : Some reason.Waiting ≡ None = up_later w x (Some reason.Waiting) h in cc

-- what it tells of one, it tells whatever else would refuse it
tells_phase : (code : ℕ) (w : World) (x : ℕ) (later : Option Reason) → is_told code (up_refusal w x (Some reason.Waiting)) ≡ true → is_told code (up_refusal w x later) ≡ true
tells_phase code w x later h = by_phase (is_stopped (member_at w x).phase) (is_waiting (member_at w x).phase) h
  where
    by_phase : (a b : Bool) → is_told code (or_else (refuse_if a reason.Stopped) (or_else (refuse_if b reason.Waiting) (Some reason.Waiting))) ≡ true → is_told code (or_else (refuse_if a reason.Stopped) (or_else (refuse_if b reason.Waiting) later)) ≡ true
    by_phase true b t = t
    by_phase false true t = t
    by_phase false false t = absurd (never (nat_eq (code_of reason.Waiting) code) t)
      where
        never : (b : Bool) → (b && false) ≡ true → ⊥
        never true k = false≢true k
        never false k = false≢true k

told_by : (b : Bool) → refuse_if (not b) reason.NotRefused ≡ None → b ≡ true
told_by true h = refl
told_by false h = cc

by_told : (b : Bool) → b ≡ true → refuse_if (not b) reason.NotRefused ≡ None
by_told b e = ap (λ c. refuse_if (not c) reason.NotRefused) e

-- ---- one event

pub same_by : (e : Event) → sorted.by_of (sort_of e) ≡ by_of e
same_by (event.Refuse code (client.Sync by target)) = refl
same_by (event.Refuse code inner) = refl
same_by e = refl

enabled_at : (W : CopyWorld) (e : Event) (x : ℕ) → refused_at W.ring e x ≡ None → refused_in W (sort_of e) x ≡ None
enabled_at W (event.Sync by target) x h = absurd (waits_on W.ring x h)
enabled_at W (event.SyncPut by) x h = absurd (waits_on W.ring x h)
enabled_at W (event.SyncTake by) x h = absurd (waits_on W.ring x h)
enabled_at W (event.SyncGain by) x h = absurd (waits_on W.ring x h)
enabled_at W (event.Refuse code (client.Sync by target)) x h = by_told _ (tells_phase code W.ring x (step_refusal W x (copying.Open target)) (told_by _ h))
enabled_at W e x h = h

done_same : (W : CopyWorld) (e : Event) (x : ℕ) → refused_at W.ring e x ≡ None → (done_in W (sort_of e) x).ring ≡ done_at W.ring e x
done_same W (event.Sync by target) x h = absurd (waits_on W.ring x h)
done_same W (event.SyncPut by) x h = absurd (waits_on W.ring x h)
done_same W (event.SyncTake by) x h = absurd (waits_on W.ring x h)
done_same W (event.SyncGain by) x h = absurd (waits_on W.ring x h)
done_same W (event.Refuse code (client.Sync by target)) x h = refl
done_same W e x h = refl

-- what a ring by itself may do, it may do with copies
pub enabled_with_copies : (W : CopyWorld) (e : Event) → ring.refusal W.ring e ≡ None → refusal W e ≡ None
enabled_with_copies W e h = ap (λ b. of_member (id_of W.ring b) (refused_in W (sort_of e))) (same_by e) ∙ by_id (id_of W.ring (by_of e)) h
  where
    by_id : (o : Option ℕ) → of_member o (refused_at W.ring e) ≡ None → of_member o (refused_in W (sort_of e)) ≡ None
    by_id None k = cc
    by_id (Some x) k = enabled_at W e x k

-- and then it is so as without
pub same_with_copies : (W : CopyWorld) (e : Event) → ring.refusal W.ring e ≡ None → (effect W e).ring ≡ ring.effect W.ring e
same_with_copies W e h = ap (λ b. (where_found (id_of W.ring b) W (λ x. let_go_by x (done_in W (sort_of e) x))).ring) (same_by e) ∙ by_id (id_of W.ring (by_of e)) h
  where
    by_id : (o : Option ℕ) → of_member o (refused_at W.ring e) ≡ None → (where_found o W (λ x. let_go_by x (done_in W (sort_of e) x))).ring ≡ at_found o W.ring (done_at W.ring e)
    by_id None k = cc
    by_id (Some x) k = done_same W e x k

-- ---- runs

-- a run of a ring by itself is one of a ring with copies
pub runs_with_copies : (W : CopyWorld) (es : List Event) → ring.IsRun W.ring es → IsRun W es × ((last W es).ring ≡ ring.last W.ring es)
runs_with_copies W [] r = (tt, refl)
runs_with_copies W (e ∷ es) r =
    let same : (effect W e).ring ≡ ring.effect W.ring e = same_with_copies W e r.0 in
    let more = runs_with_copies (effect W e) es (subst (λ w. ring.IsRun w es) (sym same) r.1) in
    ((enabled_with_copies W e r.0, more.0), more.1 ∙ ap (λ w. ring.last w es) same)

-- ---- where nothing is left

-- the event of a step on a copy, by the member of this name
abbrev step_event : CopyStep → List ℕ → Event
step_event (copying.Open target) by = event.Sync by target
step_event copying.Put by = event.SyncPut by
step_event copying.Take by = event.SyncTake by
step_event copying.Gain by = event.SyncGain by

step_sort : (s : CopyStep) (by : List ℕ) → sort_of (step_event s by) ≡ OnCopy by s
step_sort (copying.Open target) by = refl
step_sort copying.Put by = refl
step_sort copying.Take by = refl
step_sort copying.Gain by = refl

pub nothing_left : (W : CopyWorld) → NothingLeft W → NothingLeftWithCopies W
nothing_left W none (OfRing e) is may = by_event e is may
  where
    by_member : (e : Event) → ring.refusal W.ring e ≡ None → is_repair W e ≡ true → ⊥
    by_member e k r = none e r (enabled_with_copies W e k)

    by_event : (e : Event) → is_repair_with_copies W (OfRing e) ≡ true → sorted.refusal W (OfRing e) ≡ None → ⊥
    by_event (event.Sync by target) r k = false≢true r
    by_event (event.Refuse code inner) r k = false≢true r
    by_event (event.SyncPut by) r k = by_member (event.SyncPut by) k refl
    by_event (event.SyncTake by) r k = by_member (event.SyncTake by) k refl
    by_event (event.SyncGain by) r k = by_member (event.SyncGain by) k refl
    by_event e r k = by_member e k r
nothing_left W none (OnCopy by (copying.Open target)) is may = absurd (false≢true is)
nothing_left W none (OnCopy by s) is may =
    let e : Event = step_event s by in
    none e (ap (is_repair_with_copies W) (step_sort s by) ∙ is) (ap (sorted.refusal W) (step_sort s by) ∙ may)
nothing_left W none (RefusesCopy code by target) is may = absurd (false≢true is)
