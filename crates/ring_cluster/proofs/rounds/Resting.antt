-- When the members of a state have nothing left to do, those of the opening and those that joined.
use Rattle.std.proofs.Common.{inl, inr, ◌≡◌, ◌≢◌, ℕ, ◌+◌, ◌-◌, ◌<◌, ◌≤◌, Bool, true, false, List, [], ◌∷◌, length, get_or, Option, Some, None, refl, sym, ap, subst, ◌∙◌, arith}
use Rattle.std.proofs.lemmas.Bool.{false≢true}
use Rattle.std.specs.Prelude.{◌&&◌, ◌^◌, nat_eq, All}
use Rattle.queue_core.specs.Queue.{greatest}
use Rattle.ring_names.specs.declared.reason.Reason.TheVariants as reason
use Rattle.group_view.specs.declared.entry.Entry.{Entry}
use Rattle.group_view.specs.declared.entry.Mark.{Mark as EntryMark}
use Rattle.group_view.specs.declared.entry.Mark.TheVariants.{Live, Dead, Erased}
use Rattle.group_view.specs.View.{entry_in, is_live_mark}
use Rattle.group_view.proofs.Passing.{live_in}
use Rattle.ring_rules.specs.declared.event.Event.{Event}
use Rattle.ring_rules.specs.declared.event.Client.{Client}
use Rattle.ring_rules.specs.View.{is_live}
use Rattle.ring_rules.specs.Quiet.{IsAtRest, RingRests, IsQuiet}
use Rattle.ring_rules.specs.Settling.{is_repair, stale_one, owes_telling, NothingLeft}
use Rattle.ring_rules.proofs.events.WhatRefuses.{MayMark}
use Rattle.ring_rules.proofs.events.Cases.{may_mark}
use Rattle.ring_rules.specs.Refusal.{refuse_if, or_else}
use Rattle.ring_rules.proofs.events.Refusals.{none_of, id_within, runs_from}
use Rattle.ring_rules.proofs.rests.Rests.{entry_at}
use Rattle.ring_rules.proofs.runs.Published.{found_name}
use Rattle.ring_rules.proofs.runs.OfEvents.{run_idle_is_quiet}
use Rattle.ring_rules.proofs.work.Fit as ring
use Rattle.ring_cluster.specs.Agendas.{IsForNoCopy}
use Rattle.ring_cluster.specs.Plays.{agenda_of, takes_up, passes, AgendasAreEmpty}
use Rattle.ring_names.specs.declared.numbers.MemberId.{MemberId}
use Rattle.ring_names.specs.declared.reason.Reason.{Reason}
use Rattle.ring_rules.specs.declared.event.Event.TheVariants.{Put, Take, TakeEnd, Gain, Pick, Start, Synced, Depth, Refresh, Mark, Erase, SyncPut, SyncTake, SyncGain}
use Rattle.ring_rules.specs.declared.phase.Phase.{Phase}
use Rattle.ring_rules.specs.declared.phase.Phase.TheVariants.{Waiting, Up, Stopped}
use Rattle.ring_rules.specs.Machine.{World, member_at, view_in, newest, right, runs, runs_phase, is_waiting}
use Rattle.ring_rules.specs.Step.{size}
use Rattle.ring_rules.specs.Event.{by_of, asked_of, event_of, id_of, of_member, is_stopped, up_refusal, is_passing, mark_refusal, erase_refusal, refused_at, refusal}
use Rattle.ring_rules.specs.Idle.{NobodySteps, MarksNobody, ErasesNobody, IsIdle}
use Rattle.ring_rules.specs.Work.{LeavesLess}
use Rattle.ring_rules.proofs.events.Enabled.{up_later}
use Rattle.ring_rules.proofs.events.Kinds.{step_by}
use Rattle.ring_rules.proofs.walks.Ended.{runs_lt}
use Rattle.ring_rules.proofs.work.Settling.{repair_less, none_left_is_idle, no_step, no_mark, someone}
use Rattle.gm_member.proofs.Fit.{IsFit}
use Rattle.ring_rules.specs.declared.kind.LinkStep.{LinkStep}
use Rattle.ring_rules.specs.declared.kind.LinkStep.TheVariants as step
use Rattle.ring_cluster.specs.declared.driver.OwnTurn.{OwnTurn}
use Rattle.ring_cluster.specs.declared.driver.OwnTurn.TheVariants as turn
use Rattle.ring_parties.specs.Parties.{Parties}
use Rattle.ring_parties.specs.Standing.{StandAfter}
use Rattle.ring_cluster.specs.Seen.{Seen, state_of, IsGoing, SameButOwed}
use Rattle.ring_cluster.specs.Turns.{turn_event, HasTurn, RestsAt, AllRest, AllLeaveAgendas}
use Rattle.ring_rules.specs.Kind.{step_event}
use Rattle.ring_parties.specs.Refused.{IsRefusalAt}
use Rattle.ring_cluster.proofs.rounds.Named.{going_fit, going_ring, step_less, mark_less, erase_less}
use Rattle.ring_cluster.proofs.rounds.Members.{found_in, stale_less, refresh_may, erase_may, waiting_takes_in}
use Rattle.ring_cluster.proofs.rounds.Passing.{passing_starts}
use Rattle.ring_cluster.proofs.rounds.Settling.{right_there, at_id, worked_rests}

-- ---- refusals as the parties tell them

-- of a step of the member at a place
pub step_told : (c : Seen) (q : Parties) (i : ℕ) (s : LinkStep) (r : Option Reason) → i + 1 < size (state_of c) → StandAfter c.credit c.names c.events q → ((by : List ℕ) → IsRefusalAt i (step_event s by) q r)
    → r ≡ refusal (state_of c) (step_event s (member_at (state_of c) (i + 1)).name)
step_told c q i s r l st h = let name = (member_at (state_of c) (i + 1)).name in h name c.credit c.names c.events st (l, step_by s name)

-- and of the one of a name being marked or erased by it
pub mark_told : (c : Seen) (q : Parties) (i : ℕ) (dead : List ℕ) (r : Option Reason) → i + 1 < size (state_of c) → StandAfter c.credit c.names c.events q → ((by : List ℕ) → IsRefusalAt i (Mark by dead) q r)
    → r ≡ refusal (state_of c) (Mark (member_at (state_of c) (i + 1)).name dead)
mark_told c q i dead r l st h = h (member_at (state_of c) (i + 1)).name c.credit c.names c.events st (l, refl)

pub erase_told : (c : Seen) (q : Parties) (i : ℕ) (origin : List ℕ) (r : Option Reason) → i + 1 < size (state_of c) → StandAfter c.credit c.names c.events q → ((by : List ℕ) → IsRefusalAt i (Erase by origin) q r)
    → r ≡ refusal (state_of c) (Erase (member_at (state_of c) (i + 1)).name origin)
erase_told c q i origin r l st h = h (member_at (state_of c) (i + 1)).name c.credit c.names c.events st (l, refl)

-- ---- whom a member that is up may have erased, by its place and that one's name

-- by its name as it stands at its place
placed : (w : World) (y p : ℕ) (name : List ℕ) → 1 ≤ y → name ≡ (member_at w p).name → refusal w (Erase (member_at w (y - 1 + 1)).name name) ≡ refusal w (Erase (member_at w y).name (member_at w p).name)
placed w y p name some same =
    let back : y - 1 + 1 ≡ y = omega arith in
    ap (λ k. refusal w (Erase (member_at w k).name name)) back ∙ ap (λ n. refusal w (Erase (member_at w y).name n)) same

pub erases_it : (w : World) (y : ℕ) (origin : MemberId) (name : List ℕ) → 1 ≤ y → 1 ≤ origin.0 → origin.0 < size w → name ≡ (member_at w origin.0).name → refusal w (Erase (member_at w (y - 1 + 1)).name name) ≡ None → HasTurn w y (turn.Erase origin)
erases_it w y origin name some some_p lt_p same h = (some_p, lt_p, sym (placed w y origin.0 name some same) ∙ h)

pub erases_not : (w : World) (y p : ℕ) (name : List ℕ) → IsFit w → 1 ≤ y → y < size w → 1 ≤ p → p < size w → (member_at w y).phase ≡ Up → name ≡ (member_at w p).name → refusal w (Erase (member_at w (y - 1 + 1)).name name) ≢ None → erase_refusal w y p ≢ None
erases_not w y p name f some lt some_p lt_p up same h q = h (placed w y p name some same ∙ erase_may w y f some lt p some_p lt_p up q)

-- ---- the event of a turn

-- it leaves less to do
pub to_do_less : (c : Seen) (y : ℕ) (t : OwnTurn) → IsGoing c → 1 ≤ y → y < size (state_of c) → HasTurn (state_of c) y t → LeavesLess (state_of c) (turn_event (state_of c) y t)
to_do_less c y turn.Start g some lt h = repair_less (state_of c) (going_ring c g) _ refl
to_do_less c y turn.Refresh g some lt h = stale_less c y (member_at (state_of c) y).name (newest (state_of c)) g some lt refl refl h.1
to_do_less c y turn.Mark g some lt h = mark_less c (member_at (state_of c) y).name _ g
to_do_less c y (turn.Erase origin) g some lt h = erase_less c (member_at (state_of c) y).name _ g
to_do_less c y turn.Register g some lt h = repair_less (state_of c) (going_ring c g) _ refl
to_do_less c y turn.Tell g some lt h = repair_less (state_of c) (going_ring c g) _ (ap (owes_telling (state_of c)) ((going_fit c g).named y some lt) ∙ h.0)
to_do_less c y (turn.Step s) g some lt h = step_less c s (member_at (state_of c) y).name g

-- and may happen
pub to_do_enabled : (c : Seen) (y : ℕ) (t : OwnTurn) → IsGoing c → 1 ≤ y → y < size (state_of c) → HasTurn (state_of c) y t → refusal (state_of c) (turn_event (state_of c) y t) ≡ None
to_do_enabled c y turn.Start g some lt h = h
to_do_enabled c y turn.Refresh g some lt h = refresh_may (state_of c) y (going_fit c g) some lt h.0
to_do_enabled c y turn.Mark g some lt h = h
to_do_enabled c y (turn.Erase origin) g some lt h = h.2
to_do_enabled c y turn.Register g some lt h = h
to_do_enabled c y turn.Tell g some lt h = h.1
to_do_enabled c y (turn.Step s) g some lt h = h

-- ---- all of them

rests_there : (c : Seen) (y : ℕ) → IsGoing c → AllRest (state_of c) → RestsAt (state_of c) y
rests_there c y g h r =
    let some : 1 ≤ y = someone (state_of c) (going_ring c g) y r in
    let lt : y < size (state_of c) = runs_lt (state_of c) y r in
    let back : y - 1 + 1 ≡ y = omega arith in
    subst (RestsAt (state_of c)) back (h (y - 1) (omega arith)) r

-- nobody that runs waits then: who waited could take its first packet
pub all_up : (c : Seen) → IsGoing c → AllRest (state_of c) → (y : ℕ) → runs (state_of c) y ≡ true → (member_at (state_of c) y).phase ≡ Up
all_up c g h y r = by_phase (member_at (state_of c) y).phase refl
  where
    by_phase : (f : Phase) → (member_at (state_of c) y).phase ≡ f → (member_at (state_of c) y).phase ≡ Up
    by_phase Waiting e = absurd ((rests_there c y g h r).0 step.Take (waiting_takes_in c y g e))
    by_phase Up e = e
    by_phase Stopped e = absurd (false≢true (sym (ap runs_phase e) ∙ r))

-- nobody has a step to do, or can have anybody marked or erased
pub all_rest_steps : (c : Seen) → IsGoing c → AllRest (state_of c) → NobodySteps (state_of c)
all_rest_steps c g h y r =
    let k = rests_there c y g h r in
    no_step (state_of c) (going_ring c g) y r (record {
      put = k.0 step.Put;
      take = k.0 step.Take;
      take_end = k.0 step.TakeEnd;
      gain = k.0 step.Gain;
      pick = k.0 step.Pick;
      refresh = λ stale. absurd (false≢true (sym (k.1 (all_up c g h y r)).1.fresh ∙ stale));
    })

pub all_rest_marks : (c : Seen) → IsGoing c → AllRest (state_of c) → MarksNobody (state_of c)
all_rest_marks c g h y r =
    let w : World = state_of c in
    let up : (member_at w y).phase ≡ Up = all_up c g h y r in
    no_mark w (going_ring c g) y (right w (newest w) y) r up (right_there w y (going_ring c g) r).1 ((rests_there c y g h r).1 up).1.marks

pub all_rest_erases : (c : Seen) → IsGoing c → AllRest (state_of c) → ErasesNobody (state_of c)
all_rest_erases c g h y r = ((rests_there c y g h r).1 (all_up c g h y r)).1.erases

-- fewer events than there are positions
few_events : (n : ℕ) → n < 2 ^ 59 → n < greatest
few_events n l = omega (arith, l)

-- so the ring rests
rests : (c : Seen) → IsGoing c → AllRest (state_of c) → RingRests (state_of c)
rests c g h = worked_rests c g (all_rest_steps c g h) (all_rest_marks c g h) (all_rest_erases c g h)

-- ---- no event of repair is enabled

-- both hold
both_true : (a b : Bool) → (a && b) ≡ true → b ≡ true
both_true true b e = e
both_true false b e = absurd (false≢true e)

-- who is live in the newest view of a ring that rests runs
live_runs : (w : World) (d : ℕ) → ring.IsFit w → IsAtRest w → is_live (view_in w (newest w)) d ≡ true → runs w d ≡ true
live_runs w d f rest lives = at_id (λ k. is_live (view_in w (newest w)) k ≡ true → runs w k ≡ true) es d each (live_in es d lives) lives
  where
    es : List Entry
    es = (view_in w (newest w)).entries

    live_mark : (m : EntryMark) → is_live_mark m ≡ true → m ≡ Live
    live_mark Live e = refl
    live_mark Dead e = absurd (false≢true e)
    live_mark Erased e = absurd (false≢true e)

    each : All (λ (e : Entry). is_live (view_in w (newest w)) e.id.0 ≡ true → runs w e.id.0 ≡ true) es
    each k e l = λ live.
        let is : entry_in es (get_or es k e).id.0 ≡ get_or es k e = entry_at es k e (f.good.inv.is_ring.distinct (newest w) (omega arith)) l in
        (rest.entries k e l).runs (live_mark (get_or es k e).mark (sym (ap (λ (x : Entry). is_live_mark x.mark) is) ∙ live))

-- so it marks nobody
marks_nobody : (w : World) (x d : ℕ) → ring.IsFit w → RingRests w → runs w x ≡ true → x < size w → (member_at w x).phase ≡ Up → mark_refusal w x d ≡ None → ⊥
marks_nobody w x d f (inl none) r lt up may = false≢true (sym (none x) ∙ r)
marks_nobody w x d f (inr rest) r lt up may =
    let m : MayMark w x d = may_mark w x d lt up may in
    false≢true (sym (ap runs_phase m.rests) ∙ live_runs w d f rest m.lives)

module _ (c : Seen) (g : IsGoing c) (h : AllRest (state_of c)) where
  abbrev w : World
  w = state_of c

  -- the event is that of the member of this id
  named_is : (by : List ℕ) (x : ℕ) → id_of w by ≡ Some x → by ≡ (member_at w x).name
  named_is by x is = sym (found_name w by x is)

  steps_none : (s : LinkStep) (by : List ℕ) (x : ℕ) → id_of w by ≡ Some x → runs w x ≡ true → refusal w (step_event s by) ≡ None → ⊥
  steps_none s by x is r none = (rests_there c x g h r).0 s (subst (λ n. refusal w (step_event s n) ≡ None) (named_is by x is) none)

  -- who isn't refused for having stopped runs
  running : (x : ℕ) (later : Option Reason) → or_else (refuse_if (is_stopped (member_at w x).phase) reason.Stopped) later ≡ None → runs w x ≡ true
  running x later k = runs_from _ (none_of (is_stopped (member_at w x).phase) reason.Stopped later k).0

  -- no step on a copy is enabled
  copies_none : (x : ℕ) → up_refusal w x (Some reason.Waiting) ≡ None → ⊥
  copies_none x k = let none : Some reason.Waiting ≡ None = up_later w x (Some reason.Waiting) k in cc

  none_at : (e : Event) (x : ℕ) → is_repair w e ≡ true → refusal w e ≡ None → id_of w (by_of e) ≡ Some x → refused_at w e x ≡ None → ⊥
  none_at (Put by) x is none there k = steps_none step.Put by x there (running x _ k) none
  none_at (Take by) x is none there k = steps_none step.Take by x there (running x _ k) none
  none_at (TakeEnd by) x is none there k = steps_none step.TakeEnd by x there (running x _ k) none
  none_at (Gain by) x is none there k = steps_none step.Gain by x there (running x _ k) none
  none_at (Pick by) x is none there k = steps_none step.Pick by x there (running x _ k) none
  none_at (Start by) x is none there k =
      let r : runs w x ≡ true = running x _ k in
      ((rests_there c x g h r).1 (all_up c g h x r)).0 (subst (λ n. refusal w (Start n) ≡ None) (named_is by x there) none)
  none_at (Synced by) x is none there k =
      let r : runs w x ≡ true = running x _ k in
      ((rests_there c x g h r).1 (all_up c g h x r)).1.synced (subst (λ n. refusal w (Synced n) ≡ None) (named_is by x there) none)
  none_at (Depth by) x is none there k =
      let r : runs w x ≡ true = running x _ k in
      ((rests_there c x g h r).1 (all_up c g h x r)).1.tells (sym (ap (owes_telling w) there) ∙ is) (subst (λ n. refusal w (Depth n) ≡ None) (named_is by x there) none)
  none_at (Refresh by version) x is none there k =
      let r : runs w x ≡ true = running x _ k in
      false≢true (sym ((rests_there c x g h r).1 (all_up c g h x r)).1.fresh ∙ sym (ap (stale_one w) there) ∙ both_true (nat_eq version (newest w)) _ is)
  none_at (Mark by dead) x is none there k = by_id (id_of w dead) refl (none_of (is_waiting (member_at w x).phase) reason.Waiting _ (none_of (is_stopped (member_at w x).phase) reason.Stopped _ k).1).1
    where
      r : runs w x ≡ true
      r = running x _ k

      by_id : (o : Option ℕ) → id_of w dead ≡ o → of_member o (mark_refusal w x) ≡ None → ⊥
      by_id None e m = cc
      by_id (Some d) e m = marks_nobody w x d (going_ring c g) (rests c g h) r (runs_lt w x r) (all_up c g h x r) m
  none_at (Erase by origin) x is none there k = by_id (id_of w origin) refl (none_of (is_waiting (member_at w x).phase) reason.Waiting _ (none_of (is_stopped (member_at w x).phase) reason.Stopped _ k).1).1
    where
      r : runs w x ≡ true
      r = running x _ k

      by_id : (o : Option ℕ) → id_of w origin ≡ o → of_member o (erase_refusal w x) ≡ None → ⊥
      by_id None e m = cc
      by_id (Some p) e m = ((rests_there c x g h r).1 (all_up c g h x r)).1.erases p (id_within w origin p e).1 m
  none_at (SyncPut by) x is none there k = copies_none x k
  none_at (SyncTake by) x is none there k = copies_none x k
  none_at (SyncGain by) x is none there k = copies_none x k
  none_at e x is none there k = absurd (false≢true is)

  -- so none is left
  none_left : NothingLeft w
  none_left e is none = by_id (id_of w (by_of e)) refl none
    where
      by_id : (o : Option ℕ) → id_of w (by_of e) ≡ o → of_member o (refused_at w e) ≡ None → ⊥
      by_id None there k = cc
      by_id (Some x) there k = none_at e x is none there k

  -- and the ring is idle, and quiet
  pub idle_rest : IsIdle w
  idle_rest = none_left_is_idle w (going_ring c g) none_left

  pub quiet_rest : IsQuiet w
  quiet_rest = run_idle_is_quiet c.credit c.names c.events g.are g.run (few_events (length c.events) g.few) idle_rest

-- after a pass in which nobody did anything
pub rest_after : (c d : Seen) → SameButOwed c d × AllRest (state_of c) → AllRest (state_of d)
rest_after c d h = subst (λ x. AllRest (state_of x)) (sym h.0.1) h.1

-- ---- every agenda is empty

-- where what refuses tasks would pass, none is left
pub all_empty : (c : Seen) → IsGoing c → AllRest (state_of c) → AllLeaveAgendas c → AgendasAreEmpty c
all_empty c g h leave i name at = by_tasks (agenda_of c name) refl
  where
    x : ℕ
    x = i + 1

    by_reason : (t : Client) (ts : List Client) (r : Reason) → agenda_of c name ≡ t ∷ ts → asked_of t ≡ name → IsForNoCopy t → is_passing r ≡ true → refusal (state_of c) (event_of t) ≡ Some r → agenda_of c name ≡ []
    by_reason t ts r e asks none pass refused = by_phase (member_at (state_of c) x).phase refl
      where
        takes : (f : Phase) → (member_at (state_of c) x).phase ≡ f → takes_up f t ≡ true → ⊥
        takes f p k =
            let named = found_in c i g at.0 in
            let may = passing_starts (state_of c) x t r none (ap (id_of (state_of c)) (asks ∙ sym at.1) ∙ named) named (ap (λ q. takes_up q t) p ∙ k) pass refused in
            ((rests_there c x g h (ap runs_phase may.0)).1 may.0).0 may.1

        by_phase : (f : Phase) → (member_at (state_of c) x).phase ≡ f → agenda_of c name ≡ []
        by_phase Waiting p = absurd (waits_not (all_up c g h x (ap runs_phase p)) p)
          where
            waits_not : (member_at (state_of c) x).phase ≡ Up → (member_at (state_of c) x).phase ≡ Waiting → ⊥
            waits_not a b = let both : Up ≡ Waiting = sym a ∙ b in cc
        by_phase Up p = absurd (takes Up p refl)
        by_phase Stopped p = absurd (takes Stopped p refl)

    by_refusal : (t : Client) (ts : List Client) (o : Option Reason) → agenda_of c name ≡ t ∷ ts → asked_of t ≡ name → IsForNoCopy t → refusal (state_of c) (event_of t) ≡ o → passes o ≡ true → agenda_of c name ≡ []
    by_refusal t ts None e asks none refused pass = absurd (false≢true pass)
    by_refusal t ts (Some r) e asks none refused pass = by_reason t ts r e asks none pass refused

    by_tasks : (ts : List Client) → agenda_of c name ≡ ts → agenda_of c name ≡ []
    by_tasks [] e = e
    by_tasks (t ∷ ts) e = let left = leave i name at t ts e in by_refusal t ts (refusal (state_of c) (event_of t)) e left.0 left.1 refl left.2

-- the same, where only what is owed has changed since
pub drained_empty : (c d : Seen) → IsGoing c → AllRest (state_of c) → SameButOwed c d × AllLeaveAgendas c → AgendasAreEmpty d
drained_empty c d g h k = subst AgendasAreEmpty (sym k.0.1) (all_empty c g h k.1)
