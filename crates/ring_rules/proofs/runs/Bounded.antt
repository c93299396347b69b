-- The numbers that the events of a run name are small.
use Rattle.std.proofs.Common.{◌≡◌, ℕ, ◌<◌, ◌≤◌, true, not, nat_eq, List, [], ◌∷◌, Option, Some, None, ap, subst, arith}
use Rattle.ring_rules.specs.Act.{act_of}
use Rattle.std.specs.Prelude.{All}
use Rattle.std.proofs.lemmas.Bool.{and_parts}
use Rattle.std.proofs.lemmas.List.Elements.{All-nil, All-cons}
use Rattle.ring_names.specs.declared.numbers.CreditSpec.{CreditSpec}
use Rattle.ring_names.specs.declared.reason.Reason.{Reason}
use Rattle.ring_names.specs.declared.reason.Reason.TheVariants as reason
use Rattle.ring_names.specs.Reason.{code_of}
use Rattle.group_view.specs.Change.{AreOpeningNames}
use Rattle.group_view.proofs.Groups.{small_version}
use Rattle.group_view.proofs.Rings.{nat_eq-is}
use Rattle.ring_rules.specs.Bounded.{IsBounded}
use Rattle.ring_rules.specs.Refusal.{refuse_if}
use Rattle.ring_rules.specs.Event.{Event, Refresh, Refuse, IsRun, refusal, effect, id_of, of_member, asked_of, event_of, is_passing, is_told, doing_refusal, refused_at, refresh_refusal}
use Rattle.ring_rules.specs.declared.event.Client.{Client}
use Rattle.ring_rules.specs.Machine.{World, newest, view_in, runs_phase}
use Rattle.ring_rules.specs.Step.{opening}
use Rattle.ring_rules.proofs.events.Enabled.{up_none, refresh_later, refresh_upto}
use Rattle.ring_rules.proofs.events.Refusals.{refuse_none, not_false}
use Rattle.ring_rules.proofs.invariants.FromLeft.{IsGood, version_some}
use Rattle.ring_rules.proofs.invariants.Happens.{newest_is, opening_good, act_good}
use Rattle.ring_rules.proofs.queue.Told.{newest_version}

-- each refusal has a number among these
code_bounded : (r : Reason) → (6 ≤ code_of r) × (code_of r ≤ 44)
code_bounded reason.UnknownMember = (omega arith, omega arith)
code_bounded reason.AlreadyDead = (omega arith, omega arith)
code_bounded reason.NotDead = (omega arith, omega arith)
code_bounded reason.NameTaken = (omega arith, omega arith)
code_bounded reason.TooManyMembers = (omega arith, omega arith)
code_bounded reason.AlreadySynced = (omega arith, omega arith)
code_bounded reason.Stopped = (omega arith, omega arith)
code_bounded reason.Waiting = (omega arith, omega arith)
code_bounded (reason.ViewTooOld a b) = (omega arith, omega arith)
code_bounded reason.NoCredit = (omega arith, omega arith)
code_bounded reason.NothingNew = (omega arith, omega arith)
code_bounded reason.NothingToTake = (omega arith, omega arith)
code_bounded reason.NoLinkAtDoor = (omega arith, omega arith)
code_bounded reason.AwaitingAnswer = (omega arith, omega arith)
code_bounded reason.NotStopped = (omega arith, omega arith)
code_bounded reason.NotNeighbour = (omega arith, omega arith)
code_bounded reason.LinkNotEnded = (omega arith, omega arith)
code_bounded reason.NotOwner = (omega arith, omega arith)
code_bounded (reason.NotRetired a b) = (omega arith, omega arith)
code_bounded (reason.ViewOutOfRange a b c) = (omega arith, omega arith)
code_bounded reason.NotMaster = (omega arith, omega arith)
code_bounded reason.NoMaster = (omega arith, omega arith)
code_bounded reason.QueueEmpty = (omega arith, omega arith)
code_bounded reason.UnknownPosition = (omega arith, omega arith)
code_bounded reason.NotDelivered = (omega arith, omega arith)
code_bounded reason.AlreadySyncing = (omega arith, omega arith)
code_bounded reason.NotStarted = (omega arith, omega arith)
code_bounded (reason.StillMissing a) = (omega arith, omega arith)
code_bounded reason.NoSyncLink = (omega arith, omega arith)
code_bounded reason.MarkNotSeen = (omega arith, omega arith)
code_bounded reason.LinkFull = (omega arith, omega arith)
code_bounded reason.NoGrant = (omega arith, omega arith)
code_bounded reason.NoOutLink = (omega arith, omega arith)
code_bounded reason.NoCurrentLink = (omega arith, omega arith)
code_bounded reason.EndNext = (omega arith, omega arith)
code_bounded reason.AlreadyStarted = (omega arith, omega arith)
code_bounded reason.PacketNext = (omega arith, omega arith)
code_bounded reason.HasCurrentLink = (omega arith, omega arith)
code_bounded reason.NotRefused = (omega arith, omega arith)

version_bounded : (w : World) (v : ℕ) → IsGood w → v ≤ newest w → v < 256
version_bounded w v g le = omega (arith, small_version (view_in w (newest w)) (newest_is w g.views), newest_version w g)

refresh_bounded : (w : World) (by : List ℕ) (v : ℕ) → IsGood w → refusal w (Refresh by v) ≡ None → (1 ≤ v) × (v < 256)
refresh_bounded w by v g r = by_id (id_of w by) r
  where
    by_id : (o : Option ℕ) → of_member o (refused_at w (Refresh by v)) ≡ None → (1 ≤ v) × (v < 256)
    by_id None h = cc
    by_id (Some x) h =
        let u = up_none w x (refresh_refusal w x v) h in
        (omega (arith, version_some w x g (ap runs_phase u.0), refresh_later w x v u.1), version_bounded w v g (refresh_upto w x v u.1))

-- what a client is told
pub told_bounded : (code : ℕ) (o : Option Reason) → refuse_if (not (is_told code o)) reason.NotRefused ≡ None → (6 ≤ code) × (code ≤ 44)
told_bounded code o h = told o (not_false (is_told code o) (refuse_none (not (is_told code o)) reason.NotRefused h))
  where
    told : (o : Option Reason) → is_told code o ≡ true → (6 ≤ code) × (code ≤ 44)
    told None h = cc
    told (Some r) h = subst (λ n. (6 ≤ n) × (n ≤ 44)) (nat_eq-is (code_of r) code (and_parts (nat_eq (code_of r) code) (not (is_passing r)) h).0) (code_bounded r)

refuse_bounded : (w : World) (code : ℕ) (inner : Client) → refusal w (Refuse code inner) ≡ None → (6 ≤ code) × (code ≤ 44)
refuse_bounded w code inner r = by_id (id_of w (asked_of inner)) r
  where
    by_id : (o : Option ℕ) → of_member o (refused_at w (Refuse code inner)) ≡ None → (6 ≤ code) × (code ≤ 44)
    by_id None h = cc
    by_id (Some x) h = told_bounded code (doing_refusal w (event_of inner) x) h

pub event_bounded : (w : World) (e : Event) → IsGood w → refusal w e ≡ None → IsBounded e
event_bounded w (Refresh by version) g r = refresh_bounded w by version g r
event_bounded w (Refuse code inner) g r = refuse_bounded w code inner r
event_bounded w e g r = tt

run_bounded : (w : World) (es : List Event) → IsGood w → IsRun w es → All IsBounded es
run_bounded w [] g r = All-nil IsBounded
run_bounded w (e ∷ es) g r = All-cons IsBounded e es (event_bounded w e g r.0) (run_bounded (effect w e) es (act_good w (act_of e) g r.0) r.1)

-- each event of each run
pub reached_bounded : (credit : CreditSpec) (names : List (List ℕ)) (es : List Event) → AreOpeningNames names → IsRun (opening credit names) es → All IsBounded es
reached_bounded credit names es are r = run_bounded (opening credit names) es (opening_good credit names are) r
