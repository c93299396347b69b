-- Events of repair leave less to do, by whatever name their member goes; where none is left, the ring is idle.
use Rattle.std.proofs.Common.{◌≡◌, ◌≢◌, ℕ, zero, suc, ◌+◌, ◌<◌, ◌≤◌, Bool, true, false, nat_eq, nat_lt, List, length, Option, Some, None, is_some, if◌then◌else◌, refl, sym, ap, subst, ◌∙◌, ◌⊎◌, inl, inr, ⊎_elim, arith}
use Rattle.std.specs.Prelude.{◌&&◌, Ok}
use Rattle.std.proofs.lemmas.Bool.{false≢true, and_parts, cases_eq, not-false, false_from_ne_true}
use Rattle.ring_names.specs.declared.reason.Reason.{Reason}
use Rattle.ring_names.specs.declared.reason.Reason.TheVariants as reason
use Rattle.group_view.specs.Ring.{is_in}
use Rattle.group_view.proofs.Passing.{live_in, dead_in}
use Rattle.group_view.proofs.Truth.{none_there}
use Rattle.group_view.specs.Change.{marked}
use Rattle.ring_rules.specs.Refusal.{refuse_if, or_else}
use Rattle.ring_rules.specs.declared.phase.Phase.{Phase}
use Rattle.ring_rules.specs.declared.phase.Phase.TheVariants.{Waiting, Up, Stopped}
use Rattle.ring_rules.specs.Machine.{World, member_at, view_in, newest, ring, runs, runs_phase, link_at, oldest, Up, Waiting}
use Rattle.ring_rules.specs.Step.{size, current_is, gain_on, leave_link, put_on, with_view, begun, taker}
use Rattle.ring_rules.specs.declared.event.Event.{Event}
use Rattle.ring_rules.specs.declared.event.Event.TheVariants.{Put, Take, TakeEnd, Gain, Depth, Start, Mark, Erase, Synced, SyncPut, SyncTake, SyncGain, Refresh, Pick}
use Rattle.ring_rules.specs.Event.{id_of, of_member, on_link, is_stopped, running_refusal, up_refusal, put_refusal, take_refusal, end_refusal, gain_refusal, pick_refusal, mark_refusal, erase_refusal, synced_refusal, refresh_refusal, refusal, effect, at_door, at_found, by_of, done_at, erased_view, refused_at, taken_by, version_refusal, refreshed}
use Rattle.ring_rules.specs.Idle.{HasNoStep, HasNothingToDo, IsIdle}
use Rattle.ring_rules.proofs.rings.Rounds.{nat_eq-is, nat_eq-same}
use Rattle.ring_rules.proofs.events.Refusals.{id_within, refuse_none, none_of, not_less, runs_from, up_or_waits}
use Rattle.ring_rules.proofs.rests.Asked.{no_version}
use Rattle.ring_rules.proofs.events.Enabled.{mark_lives, take_some, up_none}
use Rattle.ring_rules.proofs.walks.Ended.{runs_lt}
use Rattle.ring_rules.proofs.events.Cases.{may_erase, may_mark, up_runs, IsRunning, at_link, at_named, may_sync, IsUp}
use Rattle.std.proofs.lemmas.Bool.Decides.{nat_tests}
use Rattle.group_view.specs.View.{Group}
use Rattle.ring_rules.specs.Work.{is_stale, is_led, is_late, untold, owed_at}
use Rattle.ring_rules.specs.Settling.{is_repair, owes_telling, stale_one, NothingLeft, EachRepairLeavesLess}
use Rattle.ring_rules.proofs.work.Fit.{IsFit}
use Rattle.ring_rules.proofs.work.Nobody.{ring_members}
use Rattle.ring_rules.proofs.work.Parts.{Lowers, LowersThen, event_follows}
use Rattle.ring_rules.proofs.work.Moves.{end_falls, pick_falls}
use Rattle.queue_core.specs.declared.message.Message.TheVariants as message
use Rattle.queue_core.specs.declared.op.Op.TheVariants as op
use Rattle.queue_mirror.specs.Master.{lead_refusal, or_refused}
use Rattle.ring_rules.specs.Event.{start_refusal, op_at, op_refusal, op_done}
use Rattle.ring_rules.proofs.work.TellFalls.{tells_falls, start_owed, depth_owed, led_none, late_none}
use Rattle.ring_rules.proofs.work.ViewFalls.{erase_falls, mark_falls, sync_falls}
use Rattle.ring_rules.proofs.work.Falls.{gain_falls, put_falls}
use Rattle.ring_rules.proofs.work.RefreshFalls.{stale_falls}
use Rattle.ring_rules.proofs.work.TakeFalls.{take_falls}

-- ---- each event of repair

-- whoever does it
done_lowers : (w : World) (e : Event) (x : ℕ) → IsFit w → is_repair w e ≡ true → id_of w (by_of e) ≡ Some x → 1 ≤ x → x < size w → refused_at w e x ≡ None → LowersThen w (done_at w e x)
done_lowers w (Put by) x f is at some lt h =
    let u = up_none w x _ h in
    at_link (LowersThen w) w reason.NoOutLink (put_refusal w x) (put_on w x) (member_at w x).out u.1 (λ o out k. put_falls w x o f (up_runs w x (record { some = some; lt = lt; up = u.0 })) out k)
done_lowers w (Take by) x f is at some lt h =
    let a = none_of (is_stopped (member_at w x).phase) reason.Stopped _ h in
    let u : IsRunning w x = record { some = some; lt = lt; runs_on = runs_from (member_at w x).phase a.0 } in
    at_link (LowersThen w) w reason.NoCurrentLink (take_refusal w x) (taken_by (member_at w x).phase w x) (member_at w x).current a.1
    (λ s takes k. ⊎_elim
    (λ (up : (member_at w x).phase ≡ Up). subst (λ p. LowersThen w (taken_by p w x s)) (sym up) (take_falls w x s (taker w x s) f u takes (take_some w x s k) (record { version = refl; out = refl; current = refl; log = refl; started = refl; told = refl })))
    (λ (waits : (member_at w x).phase ≡ Waiting). subst (λ p. LowersThen w (taken_by p w x s)) (sym waits) (take_falls w x s (begun (size w) (member_at w x) (oldest (link_at w s))) f u takes (take_some w x s k) (record { version = refl; out = refl; current = refl; log = refl; started = refl; told = refl })))
    (up_or_waits (member_at w x).phase a.0))
done_lowers w (TakeEnd by) x f is at some lt h =
    let a = none_of (is_stopped (member_at w x).phase) reason.Stopped _ h in
    at_link (LowersThen w) w reason.NoCurrentLink (end_refusal w) (leave_link w x) (member_at w x).current a.1 (λ s takes k. end_falls w x s f (record { some = some; lt = lt; runs_on = runs_from (member_at w x).phase a.0 }) takes)
done_lowers w (Gain by) x f is at some lt h =
    let u = up_none w x _ h in
    at_link (LowersThen w) w reason.NoOutLink (gain_refusal w) (gain_on w) (member_at w x).out u.1 (λ o out k. gain_falls w x o f (up_runs w x (record { some = some; lt = lt; up = u.0 })) out k)
done_lowers w (Mark by dead) x f is at some lt h =
    let u = up_none w x _ h in
    at_named (LowersThen w) w dead (mark_refusal w x) (λ d. refreshed (with_view w (marked (view_in w (newest w)) d)) x (newest w + 1)) u.1
    (λ d _ _ k. mark_falls w x d f (up_runs w x (record { some = some; lt = lt; up = u.0 })) (may_mark w x d lt u.0 k))
done_lowers w (Erase by origin) x f is at some lt h =
    let u = up_none w x _ h in
    at_named (LowersThen w) w origin (erase_refusal w x) (λ p. refreshed (with_view w (erased_view w p)) x (newest w + 1)) u.1
    (λ p _ _ k. erase_falls w x p f (up_runs w x (record { some = some; lt = lt; up = u.0 })) (may_erase w x p lt u.0 k))
done_lowers w (Start by) x f is at some lt h =
    let u = up_none w x _ h in
    by_refusal (start_refusal (view_in w (member_at w x).version) x (member_at w x).started) refl u.1
  where
    by_refusal : (o : Option Reason) → start_refusal (view_in w (member_at w x).version) x (member_at w x).started ≡ o → op_refusal (or_refused o (Ok (op.Start (length (member_at w x).mirror.queue.items)))) ≡ None
        → LowersThen w (op_done w x (or_refused o (Ok (op.Start (length (member_at w x).mirror.queue.items)))))
    by_refusal None e k =
        let u = up_none w x _ h in
        tells_falls w x (message.Queue (op.Start (length (member_at w x).mirror.queue.items))) f (up_runs w x (record { some = some; lt = lt; up = u.0 })) (start_owed w x (length (member_at w x).mirror.queue.items) e)
    by_refusal (Some r) e k = cc
done_lowers w (Depth by) x f is at some lt h =
    let u = up_none w x _ h in
    by_refusal (lead_refusal (view_in w (member_at w x).version) x (member_at w x).started) refl u.1
  where
    by_refusal : (o : Option Reason) → lead_refusal (view_in w (member_at w x).version) x (member_at w x).started ≡ o → op_refusal (or_refused o (Ok (op.Depth (length (member_at w x).mirror.queue.items)))) ≡ None
        → LowersThen w (op_done w x (or_refused o (Ok (op.Depth (length (member_at w x).mirror.queue.items)))))
    by_refusal None e k =
        let u = up_none w x _ h in
        tells_falls w x (message.Queue (op.Depth (length (member_at w x).mirror.queue.items))) f (up_runs w x (record { some = some; lt = lt; up = u.0 })) (depth_owed w x (length (member_at w x).mirror.queue.items) e (ap (owes_telling w) (sym at) ∙ is))
    by_refusal (Some r) e k = cc
done_lowers w (Synced by) x f is at some lt h =
    let u = up_none w x _ h in
    let i : IsUp w x = record { some = some; lt = lt; up = u.0 } in
    sync_falls w x f (up_runs w x i) (may_sync w x i u.1)
done_lowers w (Refresh by version) x f is at some lt h =
    let u = up_none w x _ h in
    let both = and_parts (nat_eq version (newest w)) (stale_one w (id_of w by)) is in
    subst (λ v. LowersThen w (refreshed w x v)) (sym (nat_eq-is version (newest w) both.0))
    (stale_falls w x f (up_runs w x (record { some = some; lt = lt; up = u.0 })) (sym (ap (stale_one w) at) ∙ both.1))
done_lowers w (Pick by) x f is at some lt h =
    let u = up_none w x _ h in
    let a = none_of (is_some (member_at w x).current) reason.HasCurrentLink _ u.1 in
    at_link (LowersThen w) w reason.NoLinkAtDoor (λ s. version_refusal (link_at w s).opened (member_at w x).version) (λ s. current_is w x (Some s)) (at_door w x) a.1
    (λ s door k. pick_falls w x s f (up_runs w x (record { some = some; lt = lt; up = u.0 })) (none_there (member_at w x).current a.0) door (not_less (member_at w x).version (link_at w s).opened _ k))
done_lowers w (SyncPut by) x f is at some lt h = let u = up_none w x _ h in let none : Some reason.Waiting ≡ None = u.1 in cc
done_lowers w (SyncTake by) x f is at some lt h = let u = up_none w x _ h in let none : Some reason.Waiting ≡ None = u.1 in cc
done_lowers w (SyncGain by) x f is at some lt h = let u = up_none w x _ h in let none : Some reason.Waiting ≡ None = u.1 in cc
done_lowers w e x f is at some lt h = absurd (false≢true is)

pub repair_lowers : (w : World) (e : Event) → IsFit w → is_repair w e ≡ true → refusal w e ≡ None → Lowers w (effect w e)
repair_lowers w e f is r = by_id (id_of w (by_of e)) refl r (event_follows w e f r)
  where
    by_id : (o : Option ℕ) → id_of w (by_of e) ≡ o → of_member o (refused_at w e) ≡ None → LowersThen w (at_found o w (done_at w e))
    by_id None at h = cc
    by_id (Some x) at h = let i = id_within w (by_of e) x at in done_lowers w e x f is at i.0 i.1 h

-- as it is told
pub repair_less : (w : World) → IsFit w → EachRepairLeavesLess w
repair_less w f e is = record { falls = λ r. (repair_lowers w e f is r).falls; less = λ r. (repair_lowers w e f is r).less }

-- ---- where nothing is left

-- each event of repair of y on its links is refused
pub record HasTriedSteps (w : World) (y : ℕ) : Type 0 where
  pub put : refusal w (Put (member_at w y).name) ≢ None
  pub take : refusal w (Take (member_at w y).name) ≢ None
  pub take_end : refusal w (TakeEnd (member_at w y).name) ≢ None
  pub gain : refusal w (Gain (member_at w y).name) ≢ None
  pub pick : refusal w (Pick (member_at w y).name) ≢ None
  pub refresh : is_stale (newest w) (member_at w y) ≡ true → refusal w (Refresh (member_at w y).name (newest w)) ≢ None

-- and each of the others
pub record HasTried (w : World) (y : ℕ) : Type 0 where
  pub steps : HasTriedSteps w y
  pub mark : (d : ℕ) → d < size w → refusal w (Mark (member_at w y).name (member_at w d).name) ≢ None
  pub erase : (p : ℕ) → p < size w → refusal w (Erase (member_at w y).name (member_at w p).name) ≢ None
  pub sync : refusal w (Synced (member_at w y).name) ≢ None
  pub start : refusal w (Start (member_at w y).name) ≢ None
  pub depth : nat_lt 0 (untold (view_in w (member_at w y).version) (member_at w y)) ≡ true → refusal w (Depth (member_at w y).name) ≢ None

module _ (w : World) (f : IsFit w) where
  -- the name of a member finds it, and it runs
  asks : (y : ℕ) (later : ℕ → Option Reason) → 1 ≤ y → y < size w → later y ≡ None → of_member (id_of w (member_at w y).name) later ≡ None
  asks y later some lt h = ap (λ o. of_member o later) (f.named y some lt) ∙ h

  running : (y : ℕ) (later : Option Reason) → runs w y ≡ true → later ≡ None → running_refusal w y later ≡ None
  running y later ry h = by_phase (member_at w y).phase ry
    where
      by_phase : (p : Phase) → runs_phase p ≡ true → or_else (refuse_if (is_stopped p) reason.Stopped) later ≡ None
      by_phase Waiting e = h
      by_phase Up e = h
      by_phase Stopped e = absurd (false≢true e)

  is_up : (y : ℕ) (later : Option Reason) → (member_at w y).phase ≡ Up → later ≡ None → up_refusal w y later ≡ None
  is_up y later up h = rw up h

  -- there is somebody at an id of the newest view
  some_id : (y : ℕ) → is_in y (ring w) ≡ true → 1 ≤ y
  some_id y i = (ring_members w f.good f.nobody y i).0

  -- and who runs stands there
  pub someone : (y : ℕ) → runs w y ≡ true → 1 ≤ y
  someone y ry = some_id y (f.good.inv.is_ring.stands y (newest w) ry (f.good.inv.is_ring.held y) (omega arith))

  -- the refresh of a stale member is one of repair
  refresh_repairs : (y : ℕ) → runs w y ≡ true → is_stale (newest w) (member_at w y) ≡ true → is_repair w (Refresh (member_at w y).name (newest w)) ≡ true
  refresh_repairs y ry e =
      ap (λ b. b && stale_one w (id_of w (member_at w y).name)) (nat_eq-same (newest w)) ∙ ap (stale_one w) (f.named y (someone y ry) (runs_lt w y ry)) ∙ e

  module _ (y : ℕ) (ry : runs w y ≡ true) (t : HasTriedSteps w y) where
    some : 1 ≤ y
    some = someone y ry

    lt : y < size w
    lt = runs_lt w y ry

    -- it has the newest view and sends on a link
    fresh : (member_at w y).phase ≡ Up → (nat_eq (member_at w y).version (newest w) && is_some (member_at w y).out) ≡ true
    fresh up = not-false _ (false_from_ne_true (is_stale (newest w) (member_at w y))
        (λ e. t.refresh e (asks y (λ x. up_refusal w x (refresh_refusal w x (newest w))) some lt (is_up y (refresh_refusal w y (newest w)) up in_range))))
      where
        in_range : refresh_refusal w y (newest w) ≡ None
        in_range =
            let a : nat_lt (newest w) (member_at w y).version ≡ false = refuse_none (nat_lt (newest w) (member_at w y).version) _ (no_version (member_at w y).version (newest w) (f.good.inv.is_ring.held y)) in
            let b : nat_lt (newest w) (newest w) ≡ false = refuse_none (nat_lt (newest w) (newest w)) _ (no_version (newest w) (newest w) (omega arith)) in
            rw (a, b) refl

    -- on its out link
    no_put : (member_at w y).phase ≡ Up → (o : ℕ) → (member_at w y).out ≡ Some o → put_refusal w y o ≢ None
    no_put up o out q = t.put
        (asks y (λ x. up_refusal w x (on_link (member_at w x).out reason.NoOutLink (put_refusal w x))) some lt (is_up y _ up (ap (λ k. on_link k reason.NoOutLink (put_refusal w y)) out ∙ q)))

    no_gain : (member_at w y).phase ≡ Up → (o : ℕ) → (member_at w y).out ≡ Some o → gain_refusal w o ≢ None
    no_gain up o out q = t.gain
        (asks y (λ x. up_refusal w x (on_link (member_at w x).out reason.NoOutLink (gain_refusal w))) some lt (is_up y _ up (ap (λ k. on_link k reason.NoOutLink (gain_refusal w)) out ∙ q)))

    no_pick : (member_at w y).phase ≡ Up → (member_at w y).current ≡ None → pick_refusal w y ≢ None
    no_pick up current q = t.pick
        (asks y (λ x. up_refusal w x (or_else (refuse_if (is_some (member_at w x).current) reason.HasCurrentLink) (pick_refusal w x))) some lt
        (is_up y _ up (ap (λ k. or_else (refuse_if (is_some k) reason.HasCurrentLink) (pick_refusal w y)) current ∙ q)))

    pub no_step : HasNoStep w y
    no_step = record {
      take = λ s current q. t.take
          (asks y (λ x. running_refusal w x (on_link (member_at w x).current reason.NoCurrentLink (take_refusal w x))) some lt
          (running y _ ry (ap (λ k. on_link k reason.NoCurrentLink (take_refusal w y)) current ∙ q)));
      take_end = λ s current q. t.take_end
          (asks y (λ x. running_refusal w x (on_link (member_at w x).current reason.NoCurrentLink (end_refusal w))) some lt
          (running y _ ry (ap (λ k. on_link k reason.NoCurrentLink (end_refusal w)) current ∙ q)));
      up = λ up. record {
        newest = nat_eq-is (member_at w y).version (newest w) (and_parts _ (is_some (member_at w y).out) (fresh up)).0;
        sends = λ out. false≢true (sym (ap is_some out) ∙ (and_parts (nat_eq (member_at w y).version (newest w)) _ (fresh up)).1);
        pick = no_pick up;
        gain = no_gain up;
        put = no_put up;
      };
    }

  -- d can't be marked by y
  pub no_mark : (y d : ℕ) → runs w y ≡ true → (member_at w y).phase ≡ Up → d < size w → refusal w (Mark (member_at w y).name (member_at w d).name) ≢ None → mark_refusal w y d ≢ None
  no_mark y d ry up dl t q = t
      (asks y (λ x. up_refusal w x (of_member (id_of w (member_at w d).name) (mark_refusal w x))) (someone y ry) (runs_lt w y ry)
      (is_up y _ up (asks d (mark_refusal w y) (some_id d (live_in (view_in w (newest w)).entries d (mark_lives w y d q))) dl q)))

  -- nor erased
  no_erase : (y p : ℕ) → runs w y ≡ true → (member_at w y).phase ≡ Up → p < size w → refusal w (Erase (member_at w y).name (member_at w p).name) ≢ None → erase_refusal w y p ≢ None
  no_erase y p ry up pl t q = t
      (asks y (λ x. up_refusal w x (of_member (id_of w (member_at w p).name) (erase_refusal w x))) (someone y ry) (runs_lt w y ry)
      (is_up y _ up (asks p (erase_refusal w y) (some_id p (dead_in (view_in w (newest w)).entries p (may_erase w y p (runs_lt w y ry) up q).dead)) pl q)))

  -- nor is y registered
  no_sync : (y : ℕ) → runs w y ≡ true → (member_at w y).phase ≡ Up → refusal w (Synced (member_at w y).name) ≢ None → synced_refusal w y ≢ None
  no_sync y ry up t q = t (asks y (λ x. up_refusal w x (synced_refusal w x)) (someone y ry) (runs_lt w y ry) (is_up y _ up q))

  -- and it owes nothing
  no_owed : (y : ℕ) → runs w y ≡ true → (member_at w y).phase ≡ Up → HasTried w y → owed_at w y ≡ 0
  no_owed y ry up t = by_case (is_led g.master y) refl (is_late g (member_at w y).started) refl (nat_lt 0 (untold g (member_at w y))) refl
    where
      g : Group
      g = view_in w (member_at w y).version

      starts : start_refusal g y (member_at w y).started ≡ None → ⊥
      starts e = t.start (asks y (λ x. up_refusal w x (op_refusal (op_at w (Start (member_at w y).name) x))) (someone y ry) (runs_lt w y ry)
          (is_up y _ up (ap (λ o. op_refusal (or_refused o (Ok (op.Start (length (member_at w y).mirror.queue.items))))) e)))

      tells : lead_refusal g y (member_at w y).started ≡ None → nat_lt 0 (untold g (member_at w y)) ≡ true → ⊥
      tells e some = t.depth some (asks y (λ x. up_refusal w x (op_refusal (op_at w (Depth (member_at w y).name) x))) (someone y ry) (runs_lt w y ry)
          (is_up y _ up (ap (λ o. op_refusal (or_refused o (Ok (op.Depth (length (member_at w y).mirror.queue.items))))) e)))

      by_case : (a : Bool) → is_led g.master y ≡ a → (b : Bool) → is_late g (member_at w y).started ≡ b → (c : Bool) → nat_lt 0 (untold g (member_at w y)) ≡ c → (if a then (if b then 1 else 0) + untold g (member_at w y) else 0) ≡ 0
      by_case false ea b eb c ec = refl
      by_case true ea true eb c ec = absurd (starts (late_none g y (member_at w y).started ea eb))
      by_case true ea false eb true ec = absurd (tells (led_none g.master y (is_late g (member_at w y).started) ea eb) ec)
      by_case true ea false eb false ec = grind (arith, nat_tests, ec)

  nothing_to_do : (y : ℕ) → runs w y ≡ true → HasTried w y → HasNothingToDo w y
  nothing_to_do y ry t = record {
    steps = no_step y ry t.steps;
    up = λ up. record { mark = λ d dl. no_mark y d ry up dl (t.mark d dl); erase = λ p pl. no_erase y p ry up pl (t.erase p pl) };
    queue = λ up. record { sync = no_sync y ry up t.sync; owes = no_owed y ry up t };
  }

  -- where nobody can do more, the ring is idle
  tried_is_idle : ((y : ℕ) → runs w y ≡ true → HasTried w y) → IsIdle w
  tried_is_idle h y ry = nothing_to_do y ry (h y ry)

  -- ---- a search for an event of repair

  abbrev Found : Type 0
  Found = (e : Event) × ((is_repair w e ≡ true) × (refusal w e ≡ None))

  -- one event is refused, or found
  try : (e : Event) → is_repair w e ≡ true → (refusal w e ≢ None) ⊎ Found
  try e is = by_refusal (refusal w e) refl
    where
      by_refusal : (o : Option Reason) → refusal w e ≡ o → (refusal w e ≢ None) ⊎ Found
      by_refusal None q = inr (e, (is, q))
      by_refusal (Some r) q = inl (λ n. let both : None ≡ Some r = sym n ∙ q in cc)

  -- all below a number, or one is found
  try_each : (n : ℕ) (P : ℕ → Type 0) → ((k : ℕ) → P k ⊎ Found) → ((k : ℕ) → k < n → P k) ⊎ Found
  try_each zero P h = inl (λ k l. absurd (omega arith))
  try_each (suc n) P h = by_last (h n) (try_each n P h)
    where
      by_last : P n ⊎ Found → ((k : ℕ) → k < n → P k) ⊎ Found → ((k : ℕ) → k < suc n → P k) ⊎ Found
      by_last (inr q) hs = inr q
      by_last (inl a) (inr q) = inr q
      by_last (inl a) (inl b) = inl (λ k l. ⊎_elim (λ (e : k ≡ n). subst P (sym e) a) (λ (ne : k ≢ n). b k (omega arith)) (cases_eq k n))

  try_both : (A B : Type 0) → A ⊎ Found → B ⊎ Found → (A × B) ⊎ Found
  try_both A B (inr q) b = inr q
  try_both A B (inl a) (inr q) = inr q
  try_both A B (inl a) (inl b) = inl (a, b)

  -- of one member
  try_one : (y : ℕ) → runs w y ≡ true → HasTried w y ⊎ Found
  try_one y ry =
      by_all
      (try_both _ _ (try (Start name) refl)
      (try_both _ _ try_depth
      (try_both _ _ (try (Synced name) refl)
      (try_both _ _ (try (Put name) refl)
      (try_both _ _ (try (Take name) refl)
      (try_both _ _ (try (TakeEnd name) refl)
      (try_both _ _ (try (Gain name) refl)
      (try_both _ _ (try (Pick name) refl)
      (try_both _ _ try_refresh
      (try_both _ _ (try_each (size w) (λ d. refusal w (Mark name (member_at w d).name) ≢ None) (λ d. try (Mark name (member_at w d).name) refl))
      (try_each (size w) (λ p. refusal w (Erase name (member_at w p).name) ≢ None) (λ p. try (Erase name (member_at w p).name) refl))))))))))))
    where
      name : List ℕ
      name = (member_at w y).name

      try_depth : (nat_lt 0 (untold (view_in w (member_at w y).version) (member_at w y)) ≡ true → refusal w (Depth name) ≢ None) ⊎ Found
      try_depth = by_some (nat_lt 0 (untold (view_in w (member_at w y).version) (member_at w y))) refl
        where
          by_some : (b : Bool) → nat_lt 0 (untold (view_in w (member_at w y).version) (member_at w y)) ≡ b → (nat_lt 0 (untold (view_in w (member_at w y).version) (member_at w y)) ≡ true → refusal w (Depth name) ≢ None) ⊎ Found
          by_some false e = inl (λ k. absurd (false≢true (sym e ∙ k)))
          by_some true e = by_try (try (Depth name) (ap (owes_telling w) (f.named y (someone y ry) (runs_lt w y ry)) ∙ e))
            where
              by_try : (refusal w (Depth name) ≢ None) ⊎ Found → (nat_lt 0 (untold (view_in w (member_at w y).version) (member_at w y)) ≡ true → refusal w (Depth name) ≢ None) ⊎ Found
              by_try (inl a) = inl (λ _. a)
              by_try (inr q) = inr q

      try_refresh : (is_stale (newest w) (member_at w y) ≡ true → refusal w (Refresh name (newest w)) ≢ None) ⊎ Found
      try_refresh = by_stale (is_stale (newest w) (member_at w y)) refl
        where
          by_stale : (b : Bool) → is_stale (newest w) (member_at w y) ≡ b → (is_stale (newest w) (member_at w y) ≡ true → refusal w (Refresh name (newest w)) ≢ None) ⊎ Found
          by_stale false e = inl (λ k. absurd (false≢true (sym e ∙ k)))
          by_stale true e = by_try (try (Refresh name (newest w)) (refresh_repairs y ry e))
            where
              by_try : (refusal w (Refresh name (newest w)) ≢ None) ⊎ Found → (is_stale (newest w) (member_at w y) ≡ true → refusal w (Refresh name (newest w)) ≢ None) ⊎ Found
              by_try (inl a) = inl (λ _. a)
              by_try (inr q) = inr q

      by_all : ((refusal w (Start name) ≢ None) × ((nat_lt 0 (untold (view_in w (member_at w y).version) (member_at w y)) ≡ true → refusal w (Depth name) ≢ None) × ((refusal w (Synced name) ≢ None) × ((refusal w (Put name) ≢ None) × ((refusal w (Take name) ≢ None) × ((refusal w (TakeEnd name) ≢ None) × ((refusal w (Gain name) ≢ None) × ((refusal w (Pick name) ≢ None)
          × ((is_stale (newest w) (member_at w y) ≡ true → refusal w (Refresh name (newest w)) ≢ None)
          × (((d : ℕ) → d < size w → refusal w (Mark name (member_at w d).name) ≢ None) × ((p : ℕ) → p < size w → refusal w (Erase name (member_at w p).name) ≢ None))))))))))) ⊎ Found → HasTried w y ⊎ Found
      by_all (inr q) = inr q
      by_all (inl both) = let s = both.1.1.0 in let a = both.1.1.1 in inl (record { steps = record { put = a.0; take = a.1.0; take_end = a.1.1.0; gain = a.1.1.1.0; pick = a.1.1.1.1.0; refresh = a.1.1.1.1.1.0 }; mark = a.1.1.1.1.1.1.0; erase = a.1.1.1.1.1.1.1; sync = s; start = both.0; depth = both.1.0 })

  -- the ring is idle, or an event of repair is enabled
  pub idle_or_not : IsIdle w ⊎ ((e : Event) × ((is_repair w e ≡ true) × (refusal w e ≡ None)))
  idle_or_not = by_all (try_each (size w) (λ y. runs w y ≡ true → HasTried w y) try_if)
    where
      by_all : ((y : ℕ) → y < size w → runs w y ≡ true → HasTried w y) ⊎ Found → IsIdle w ⊎ Found
      by_all (inl h) = inl (tried_is_idle (λ y ry. h y (runs_lt w y ry) ry))
      by_all (inr q) = inr q

      try_if : (y : ℕ) → (runs w y ≡ true → HasTried w y) ⊎ Found
      try_if y = by_runs (runs w y) refl
        where
          by_runs : (b : Bool) → runs w y ≡ b → (runs w y ≡ true → HasTried w y) ⊎ Found
          by_runs false e = inl (λ k. absurd (false≢true (sym e ∙ k)))
          by_runs true e = by_try (try_one y e)
            where
              by_try : HasTried w y ⊎ Found → (runs w y ≡ true → HasTried w y) ⊎ Found
              by_try (inl a) = inl (λ _. a)
              by_try (inr q) = inr q

  -- so where none is, it is idle
  pub none_left_is_idle : NothingLeft w → IsIdle w
  none_left_is_idle none = ⊎_elim (λ (idle : IsIdle w). idle) (λ (q : Found). absurd (none q.0 q.1.0 q.1.1)) idle_or_not
