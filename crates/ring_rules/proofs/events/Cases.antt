-- What holds after an event that may happen, by what the event does and the conditions under which it may.
use Rattle.std.proofs.Common.{◌≡◌, ℕ, ◌+◌, ◌<◌, ◌≤◌, Bool, true, false, List, Option, Some, None, is_some, refl, sym, ap, subst, ◌∙◌, not, nat_eq, ◌⊎◌, inl, inr, ⊎_elim}
use Rattle.std.proofs.lemmas.Bool.{false≢true}
use Rattle.queue_core.specs.declared.message.Message.{Message}
use Rattle.queue_core.specs.declared.message.Message.TheVariants as message
use Rattle.std.specs.Prelude.{Result, Ok, Err, ⊤}
use Rattle.queue_mirror.specs.Mirror.{MirrorState}
use Rattle.queue_core.specs.declared.op.Op.{Op}
use Rattle.ring_names.specs.declared.reason.Reason.{Reason}
use Rattle.ring_names.specs.declared.reason.Reason.TheVariants as reason
use Rattle.group_view.specs.Change.{marked}
use Rattle.group_view.specs.View.{is_dead, is_alias, entry_in}
use Rattle.group_view.proofs.Rings.{nat_eq-is}
use Rattle.group_view.proofs.Truth.{none_there}
use Rattle.ring_rules.specs.Machine.{Waiting, Up, Halted, World, row_at, member_at, link_at, view_in, newest, runs, runs_phase}
use Rattle.ring_rules.specs.Step.{size, put_on, gain_on, publish_at, take_from, begin_from, come_to, copied_at, current_is, leave_link, stop_at, end_out, with_view}
use Rattle.ring_rules.specs.declared.kind.LinkStep.TheVariants as step
use Rattle.ring_rules.specs.declared.kind.ViewChange.TheVariants as change
use Rattle.ring_rules.specs.Event.{Event, Saying, Own, OfQueue, Kind, Says, Steps, Copying, Changes, Stops, Reads, Tells, kind_of, MayPublish, op_as, op_refusal, op_done, queue_message, saying_refusal, said, synced_refusal, missing_refusal, synced_view, is_stopped, id_of, of_member, on_link, put_refusal, take_refusal, end_refusal, gain_refusal, version_refusal, refresh_refusal, at_door, mark_refusal, erase_refusal, not_retired, erased_view, admit_refusal, refreshed, by_of, is_for_up_kind, phase_refusal, further_as, doing_as, refused_as, refused_at, refusal, at_found, taken_by, done_as, done_at, effect}
use Rattle.ring_rules.specs.Act.{Deed, OfKind, Copies, Act, deed_refusal, deed_done, DeedIs, refusal as act_refusal, effect as act_effect}
use Rattle.ring_rules.proofs.events.WhatRefuses.{MayTake, MayBegin, MayLook, MayMark, MayErase, MaySync}
use Rattle.ring_rules.proofs.events.Refusals.{none_of, refuse_none, id_within, not_less, not_false, up_or_waits}
use Rattle.ring_rules.proofs.events.Enabled.{up_none, take_some, take_version, end_empty, mark_lives, mark_stops, refresh_later, refresh_upto}
use Rattle.ring_rules.proofs.invariants.FromLeft.{IsGood, version_some}

-- a member that is up
pub record IsUp (w : World) (x : ℕ) : Type 0 where
  pub some : 1 ≤ x
  pub lt : x < size w
  pub up : (member_at w x).phase ≡ Up

-- one that runs
pub record IsRunning (w : World) (x : ℕ) : Type 0 where
  pub some : 1 ≤ x
  pub lt : x < size w
  pub runs_on : runs w x ≡ true

pub up_runs : (w : World) (x : ℕ) → IsUp w x → IsRunning w x
up_runs w x u = record { some = u.some; lt = u.lt; runs_on = ap runs_phase u.up }

-- P holds after each put that may happen
abbrev pub EachPut : (World → Type 0) → World → Type 0
EachPut P w = (x o : ℕ) → IsUp w x → (member_at w x).out ≡ Some o → put_refusal w x o ≡ None → P (put_on w x o)

-- after each take of an end
abbrev pub EachLeave : (World → Type 0) → World → Type 0
EachLeave P w = (y s : ℕ) → IsUp w y → (member_at w y).current ≡ Some s → end_refusal w s ≡ None → P (leave_link w y s)

-- after each gain
abbrev pub EachGain : (World → Type 0) → World → Type 0
EachGain P w = (x o : ℕ) → IsUp w x → (member_at w x).out ≡ Some o → gain_refusal w o ≡ None → P (gain_on w o)

-- after each pick
abbrev pub EachPick : (World → Type 0) → World → Type 0
EachPick P w = (y s : ℕ) → IsUp w y → (member_at w y).current ≡ None → at_door w y ≡ Some s → (link_at w s).opened ≤ (member_at w y).version → P (current_is w y (Some s))

-- each event by itself, under its conditions; who waits takes its first packet, or stops
pub record Cases (P : World → Type 0) (w : World) : Type 0 where
  pub casts : (x : ℕ) (m : Message) → IsUp w x → MayPublish w x m → P (publish_at w x m)
  pub puts : EachPut P w
  pub takes : (y s : ℕ) → IsUp w y → MayTake w y s → P (take_from w y s)
  pub begins : (y s : ℕ) → IsRunning w y → MayBegin w y s → P (begin_from w y s)
  pub leaves : EachLeave P w
  pub gains : EachGain P w
  pub stops : (x : ℕ) → IsRunning w x → P (end_out Halted (stop_at w x) (member_at w x).out)
  pub marks : (x d : ℕ) → IsUp w x → MayMark w x d → P (refreshed (with_view w (marked (view_in w (newest w)) d)) x (newest w + 1))
  pub erases : (x d : ℕ) → IsUp w x → MayErase w x d → P (refreshed (with_view w (erased_view w d)) x (newest w + 1))
  pub syncs : (x : ℕ) → IsUp w x → MaySync w x → P (refreshed (with_view w (synced_view w x)) x (newest w + 1))
  pub admits : (x : ℕ) (name : List ℕ) → IsUp w x → admit_refusal w name ≡ None → P (refreshed (come_to w x name) x (newest w + 1))
  pub refreshes : (x v : ℕ) → IsUp w x → MayLook w x v → P (refreshed w x v)
  pub picks : EachPick P w
  pub refuses : P w

-- ---- conditions

-- who acts is up, or waits and does what such a member may; and the further conditions hold
pub acts : (w : World) (for_up : Bool) (x : ℕ) (later : Option Reason) → phase_refusal for_up w x later ≡ None → (((member_at w x).phase ≡ Up) ⊎ (((member_at w x).phase ≡ Waiting) × (for_up ≡ false))) × (later ≡ None)
acts w true x later h = let u = up_none w x later h in (inl u.0, u.1)
acts w false x later h =
    let a = none_of (is_stopped (member_at w x).phase) reason.Stopped later h in
    (⊎_elim (λ (up : (member_at w x).phase ≡ Up). inl up) (λ (waits : (member_at w x).phase ≡ Waiting). inr (waits, refl)) (up_or_waits (member_at w x).phase a.0), a.1)

-- a packet that may be taken
pub may_take : (w : World) (y s : ℕ) → y < size w → (member_at w y).phase ≡ Up → (member_at w y).current ≡ Some s → take_refusal w y s ≡ None → MayTake w y s
may_take w y s lt up current h = record { is_member = lt; up = up; current = current; has = take_some w y s h; version = take_version w y s h }

-- and one that may be taken first
pub may_begin : (w : World) (y s : ℕ) → IsGood w → y < size w → (member_at w y).phase ≡ Waiting → (member_at w y).current ≡ Some s → take_refusal w y s ≡ None → MayBegin w y s
may_begin w y s g lt waits current h = record { is_member = lt; waits = waits; current = current; has = take_some w y s h; version = take_version w y s h; late = version_some w y g (ap runs_phase waits) }

-- who waits has its first packet before it, so no end
pub no_end : (w : World) (y s : ℕ) → IsGood w → (member_at w y).phase ≡ Waiting → (member_at w y).current ≡ Some s → end_refusal w s ≡ None → ⊥
no_end w y s g waits current h = false≢true (sym (g.inv.waiting.first y s waits current) ∙ end_empty w s h)

-- a member that may be marked
pub may_mark : (w : World) (x d : ℕ) → x < size w → (member_at w x).phase ≡ Up → mark_refusal w x d ≡ None → MayMark w x d
may_mark w x d lt up h = record { is_member = lt; up = up; rests = mark_stops w x d h; lives = mark_lives w x d h }

-- and a dead one that may be erased
pub may_erase : (w : World) (x d : ℕ) → x < size w → (member_at w x).phase ≡ Up → erase_refusal w x d ≡ None → MayErase w x d
may_erase w x d lt up h =
    let a = none_of (not (is_dead (view_in w (newest w)).entries d)) reason.NotDead _ h in
    let b = none_of (not (is_alias (view_in w (member_at w x).version).entries x d)) reason.NotOwner _ a.1 in
    let c = refuse_none (not (nat_eq (row_at (member_at w x) d).got (row_at (member_at w x) d).retired)) (not_retired w x d) b.1 in
    record { is_member = lt; up = up; dead = not_false _ a.0; owned = not_false _ b.0; come_round = nat_eq-is _ _ (not_false _ c) }

-- a mirror that misses nothing
nothing_missed : (k : Option ℕ) → missing_refusal k ≡ None → k ≡ Some 0
nothing_missed None e = cc
nothing_missed (Some n) e = ap Some (nat_eq-is n 0 (not_false (nat_eq n 0) (refuse_none (not (nat_eq n 0)) (reason.StillMissing (Some n)) e)))

-- a member that may be registered
pub may_sync : (w : World) (x : ℕ) → IsUp w x → synced_refusal w x ≡ None → MaySync w x
may_sync w x u h =
    let a = none_of (entry_in (view_in w (newest w)).entries x).synced reason.AlreadySynced _ h in
    record { is_member = u.lt; up = u.up; unsynced = a.0; full = nothing_missed (member_at w x).mirror.missing a.1 }

-- a view that may be read
pub may_look : (w : World) (x v : ℕ) → x < size w → (member_at w x).phase ≡ Up → refresh_refusal w x v ≡ None → MayLook w x v
may_look w x v lt up h = record { is_member = lt; up = up; later = refresh_later w x v h; upto = refresh_upto w x v h }

-- what is done at a link, where it is there
pub at_link : (P : World → Type 0) (w : World) (missing : Reason) (later : ℕ → Option Reason) (f : ℕ → World) (o : Option ℕ) → on_link o missing later ≡ None
    → ((s : ℕ) → o ≡ Some s → later s ≡ None → P (f s)) → P (at_found o w f)
at_link P w missing later f None h k = cc
at_link P w missing later f (Some s) h k = k s refl h

-- and at the member of a name
pub at_named : (P : World → Type 0) (w : World) (name : List ℕ) (later : ℕ → Option Reason) (f : ℕ → World) → of_member (id_of w name) later ≡ None
    → ((x : ℕ) → 1 ≤ x → x < size w → later x ≡ None → P (f x)) → P (at_found (id_of w name) w f)
at_named P w name later f h k = by_id (id_of w name) refl h
  where
    by_id : (o : Option ℕ) → id_of w name ≡ o → of_member o later ≡ None → P (at_found o w f)
    by_id None e r = cc
    by_id (Some x) e r = let i = id_within w name x e in k x i.0 i.1 r

-- what a member says is published
each_says : (P : World → Type 0) (w : World) (x : ℕ) (s : Saying) → Cases P w → IsUp w x → saying_refusal w x s ≡ None → P (said w x s)
each_says P w x (Own body) c u h = c.casts x (message.Cast body) u (Own body, refl)
each_says P w x (OfQueue q) c u h = by_op (op_as w x q) refl h
  where
    by_op : (o : Result Op Reason) → op_as w x q ≡ o → op_refusal o ≡ None → P (op_done w x o)
    by_op (Ok o) is k = c.casts x (message.Queue o) u (OfQueue q, ap queue_message is)
    by_op (Err r) is k = cc

-- ---- events

-- of a member that is up
each_up : (P : World → Type 0) (w : World) (k : Kind) (x : ℕ) → Cases P w → IsUp w x → further_as w x k ≡ None → P (done_as w x k)
each_up P w (Says s) x c u h = each_says P w x s c u h
each_up P w (Steps step.Put) x c u h = at_link P w reason.NoOutLink (put_refusal w x) (put_on w x) (member_at w x).out h (λ o out k. c.puts x o u out k)
each_up P w (Steps step.Take) x c u h = at_link P w reason.NoCurrentLink (take_refusal w x) (taken_by (member_at w x).phase w x) (member_at w x).current h
    (λ s current k. subst (λ f. P (taken_by f w x s)) (sym u.up) (c.takes x s u (may_take w x s u.lt u.up current k)))
each_up P w (Steps step.TakeEnd) x c u h = at_link P w reason.NoCurrentLink (end_refusal w) (leave_link w x) (member_at w x).current h (λ s current k. c.leaves x s u current k)
each_up P w (Steps step.Gain) x c u h = at_link P w reason.NoOutLink (gain_refusal w) (gain_on w) (member_at w x).out h (λ o out k. c.gains x o u out k)
each_up P w (Steps step.Pick) x c u h =
    let a = none_of (is_some (member_at w x).current) reason.HasCurrentLink _ h in
    at_link P w reason.NoLinkAtDoor (λ s. version_refusal (link_at w s).opened (member_at w x).version) (λ s. current_is w x (Some s)) (at_door w x) a.1
    (λ s e k. c.picks x s u (none_there (member_at w x).current a.0) e (not_less (member_at w x).version (link_at w s).opened _ k))
each_up P w (Copying s) x c u h = c.refuses
each_up P w (Changes (change.Mark dead)) x c u h = at_named P w dead (mark_refusal w x) (λ d. refreshed (with_view w (marked (view_in w (newest w)) d)) x (newest w + 1)) h
    (λ d some lt k. c.marks x d u (may_mark w x d u.lt u.up k))
each_up P w (Changes (change.Erase origin)) x c u h = at_named P w origin (erase_refusal w x) (λ d. refreshed (with_view w (erased_view w d)) x (newest w + 1)) h
    (λ d some lt k. c.erases x d u (may_erase w x d u.lt u.up k))
each_up P w (Changes (change.Admit name)) x c u h = c.admits x name u h
each_up P w (Changes change.Register) x c u h = c.syncs x u (may_sync w x u h)
each_up P w Stops x c u h = c.stops x (up_runs w x u)
each_up P w (Reads version) x c u h = c.refreshes x version u (may_look w x version u.lt u.up h)
each_up P w (Tells code inner) x c u h = c.refuses

-- of one that waits
each_waiting : (P : World → Type 0) (w : World) (k : Kind) (x : ℕ) → IsGood w → Cases P w → IsRunning w x → (member_at w x).phase ≡ Waiting → is_for_up_kind k ≡ false → further_as w x k ≡ None → P (done_as w x k)
each_waiting P w (Steps step.Take) x g c r waits f h = at_link P w reason.NoCurrentLink (take_refusal w x) (taken_by (member_at w x).phase w x) (member_at w x).current h
    (λ s current k. subst (λ f. P (taken_by f w x s)) (sym waits) (c.begins x s r (may_begin w x s g r.lt waits current k)))
each_waiting P w (Steps step.TakeEnd) x g c r waits f h = at_link P w reason.NoCurrentLink (end_refusal w) (leave_link w x) (member_at w x).current h (λ s current k. absurd (no_end w x s g waits current k))
each_waiting P w Stops x g c r waits f h = c.stops x r
each_waiting P w k x g c r waits f h = absurd (false≢true (sym f))

-- of whoever acts
each_done : (P : World → Type 0) (w : World) (k : Kind) (x : ℕ) → IsGood w → Cases P w → 1 ≤ x → x < size w → doing_as w x k ≡ None → P (done_as w x k)
each_done P w k x g c some lt h =
    let a = acts w (is_for_up_kind k) x (further_as w x k) h in
    ⊎_elim
    (λ (up : (member_at w x).phase ≡ Up). each_up P w k x c (record { some = some; lt = lt; up = up }) a.1)
    (λ (q : ((member_at w x).phase ≡ Waiting) × (is_for_up_kind k ≡ false)). each_waiting P w k x g c (record { some = some; lt = lt; runs_on = ap runs_phase q.0 }) q.0 q.1 a.1) a.0

each_at : (P : World → Type 0) (w : World) (k : Kind) (x : ℕ) → IsGood w → Cases P w → 1 ≤ x → x < size w → refused_as w x k ≡ None → P (done_as w x k)
each_at P w (Tells code inner) x g c some lt h = c.refuses
each_at P w (Says s) x g c some lt h = each_done P w (Says s) x g c some lt h
each_at P w (Steps s) x g c some lt h = each_done P w (Steps s) x g c some lt h
each_at P w (Copying s) x g c some lt h = c.refuses
each_at P w (Changes v) x g c some lt h = each_done P w (Changes v) x g c some lt h
each_at P w Stops x g c some lt h = each_done P w Stops x g c some lt h
each_at P w (Reads version) x g c some lt h = each_done P w (Reads version) x g c some lt h

-- what each event does under its conditions is what an event does that may happen
pub each_event : (P : World → Type 0) (w : World) (e : Event) → IsGood w → Cases P w → refusal w e ≡ None → P (effect w e)
each_event P w e g c r = at_named P w (by_of e) (refused_at w e) (done_at w e) r (λ x some lt k. each_at P w (kind_of e) x g c some lt k)

-- ---- acts

-- P holds after each copy that is done, where C is known of the mirror that it makes
abbrev pub EachCopy : (ℕ → MirrorState → Type 0) → (World → Type 0) → World → Type 0
EachCopy C P w = (x : ℕ) (m : MirrorState) → IsUp w x → m.missing ≡ Some 0 → C x m → P (copied_at w x m)

-- what a member does
each_deed : (C : ℕ → MirrorState → Type 0) (P : World → Type 0) (w : World) (x : ℕ) (d : Deed) → IsGood w → Cases P w → EachCopy C P w → 1 ≤ x → x < size w → DeedIs C x d → deed_refusal w x d ≡ None → P (deed_done w x d)
each_deed C P w x (OfKind k) g c copies some lt is h = each_at P w k x g c some lt h
each_deed C P w x (Copies m) g c copies some lt is h =
    let u = up_none w x _ h in
    copies x m (record { some = some; lt = lt; up = u.0 }) (nothing_missed m.missing u.1) is

-- what each event does under its conditions, and each copy that is done, is what an act does that may happen
pub each_act_of : (C : ℕ → MirrorState → Type 0) (P : World → Type 0) (w : World) (a : Act) → IsGood w → Cases P w → EachCopy C P w → ((x : ℕ) → id_of w a.by ≡ Some x → DeedIs C x a.deed) → act_refusal w a ≡ None → P (act_effect w a)
each_act_of C P w a g c copies is r = by_id (id_of w a.by) refl r
  where
    by_id : (o : Option ℕ) → id_of w a.by ≡ o → of_member o (λ x. deed_refusal w x a.deed) ≡ None → P (at_found o w (λ x. deed_done w x a.deed))
    by_id None e h = cc
    by_id (Some x) e h = let i = id_within w a.by x e in each_deed C P w x a.deed g c copies i.0 i.1 (is x e) h

-- where nothing is known of such a mirror
pub each_act : (P : World → Type 0) (w : World) (a : Act) → IsGood w → Cases P w → ((x : ℕ) (m : MirrorState) → IsUp w x → m.missing ≡ Some 0 → P (copied_at w x m)) → act_refusal w a ≡ None → P (act_effect w a)
each_act P w a g c copies r = each_act_of (λ x m. ⊤) P w a g c (λ x m u none _. copies x m u none) (λ x e. nothing_known x a.deed) r
  where
    nothing_known : (x : ℕ) (d : Deed) → DeedIs (λ x m. ⊤) x d
    nothing_known x (OfKind k) = tt
    nothing_known x (Copies m) = tt
