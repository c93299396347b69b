-- The invariant of a World: what the code needs comes out of it, and one more event keeps it.
use Rattle.std.proofs.Common.{◌≡◌, ℕ, ◌+◌, ◌<◌, ◌≤◌, ◌^◌, Bool, true, List, [], ◌∷◌, ◌++◌, length, map, Some, None, refl, lit<, lit≤, sym, ap, subst, ◌∙◌, arith}
use Rattle.std.specs.Coded.{le_prop}
use Rattle.std.proofs.Math.Nat.{ℕ_set}
use Rattle.std.proofs.Props.{props}
use Rattle.std.proofs.Math.Logic.{∥∥₁_elim, ∥∥₁_map}
use Rattle.std.proofs.lemmas.List.{length_push}
use Rattle.std.proofs.lemmas.List.Elements.{filter-append}
use Rattle.ring_names.specs.declared.numbers.CreditSpec.{CreditSpec}
use Rattle.group_view.specs.View.{Group}
use Rattle.group_view.specs.Change.{AreOpeningNames, marked, erased, admitted, registered}
use Rattle.group_view.proofs.Groups.{small_version}
use Rattle.group_view.proofs.History.{Follows, mark_follows, erase_follows}
use Rattle.group_view.proofs.Joining.{admit_follows}
use Rattle.group_view.proofs.Syncing.{sync_follows}
use Rattle.ring_rules.proofs.code.Enables.{sync_unsynced}
use Rattle.group_view.proofs.Passing.{live_in, dead_in}
use Rattle.ring_rules.specs.Machine.{World, member_at, link_at, view_in, newest, runs, runs_phase}
use Rattle.ring_rules.specs.Step.{size, opening}
use Rattle.ring_rules.specs.Event.{by_of, id_of, refused_as, done_as, is_refusal, refusals_of}
use Rattle.ring_rules.specs.Act as ring
use Rattle.ring_rules.specs.Act.{Act}
use Rattle.ring_copies.specs.Copies.{CopyWorld}
use Rattle.ring_copies.specs.Events.{sort_of, sorted, refused_in, done_in, let_go_by}
use Rattle.ring_copies.proofs.Others.{kind_leaves}
use Rattle.ring_copies.proofs.Runs.{goes_on_with_copies}
use Rattle.ring_rules.specs.Kind.{Kind, Says, Steps, Copying, Changes, Stops, Reads, Tells, kind_of, shown_kind}
use Rattle.ring_rules.specs.Laws.{GoesOn}
use Rattle.ring_rules.proofs.events.Enabled.{up_phase}
use Rattle.ring_rules.proofs.events.Refusals.{id_within}
use Rattle.ring_rules.proofs.work.OwnEnds.{OwnEnds, reached_owns}
use Rattle.std.proofs.lemmas.Bool.{false≢true}
use Rattle.ring_world.proofs.code.Steps.{refusal_found, effect_found}
use Rattle.ring_copies.specs.Runs.{IsRun, last, refusal, effect, without_copies}
use Rattle.ring_copies.proofs.Seen.{RingRuns, ring_runs}
use Rattle.ring_copies.proofs.Rise.{AreOrdered, reached_ordered}
use Rattle.queue_core.specs.Queue.{greatest}
use Rattle.ring_world.specs.Copied.{copy_of, reads_kind, AreCopied, IsThen, AreThen}
use Rattle.ring_rules.specs.declared.event.Event.{Event}
use Rattle.ring_world.specs.Placed.{IsPlaced, IsReady}
use Rattle.ring_world.specs.Shows.{world_of}
use Rattle.ring_world.specs.Reached.{WorldSeen, IsReachedIn, IsRunning, with_copies, state_of, seen_of}
use Rattle.ring_world.specs.declared.world.World.TheInside.{Inside}
use Rattle.ring_rules.proofs.invariants.FromLeft.{nobody_first}
use Rattle.ring_rules.proofs.invariants.FromLeft.{HasViews}
use Rattle.ring_rules.proofs.invariants.Happens.{IsGood, act_good, newest_is, may_admit, opening_good}
use Rattle.ring_rules.proofs.work.Fit.{few_members}
use Rattle.ring_world.proofs.code.Sized.{IsSized, opening_sized, act_sized}

-- ---- what the code needs, of one state

versions_are : (w : World) (h : HasViews w) → newest w ≡ length h.groups
versions_are w h = let many = ap length h.is in omega (arith, many)

-- the newest view is of the newest version
newest_version : (w : World) (h : HasViews w) → (view_in w (newest w)).version ≡ newest w
newest_version w h = ap (λ (g : Group). g.version) (sym h.ends.last) ∙ h.ends.history.numbered (length h.groups) h.ends.some (omega arith) ∙ sym (versions_are w h)

few_versions : (w : World) (h : HasViews w) → newest w ≤ 256
few_versions w h = omega (arith, newest_version w h, small_version (view_in w (newest w)) (newest_is w h))

-- a view may follow
more_versions : (w : World) (h : HasViews w) (g : Group) → Follows (view_in w (newest w)) g → newest w < 256
more_versions w h g f = omega (arith, newest_version w h, f.version, small_version g f.is_group)

pub good_placed : (w : World) → IsGood w → IsSized w → IsPlaced w
good_placed w h s = record {
  few = few_members w h;
  versions = few_versions w h.views;
  some = omega (arith, versions_are w h.views, h.views.ends.some);
  rows = s.rows;
  row = s.logged.sized;
  own = λ x _ _. s.logged.own x;
  out = λ x o r e. h.inv.linked.out_lt x o r e;
  current = λ x o r e. h.inv.current.lt x o r e;
  held = h.inv.is_ring.held;
  from_one = λ x r. nobody_first w h.views (member_at w x).version x (h.inv.is_ring.stands x (member_at w x).version r (omega arith) (h.inv.is_ring.held x));
  opened = λ j l. nobody_first w h.views (link_at w j).opened (link_at w j).receiver (h.inv.history.known j l);
  upto = h.inv.linked.opened;
}

-- and what it needs before an event
pub good_ready : (w : World) → IsGood w → IsSized w → IsReady w
good_ready w h s =
    let g : Group = view_in w (newest w) in
    record {
      placed = good_placed w h s;
      lives = λ x up. h.inv.is_ring.lives x (newest w) (ap runs_phase up) (h.inv.is_ring.held x) (omega arith);
      marks = λ d lives. more_versions w h.views (marked g d) (mark_follows g d (newest_is w h.views) (record { there = live_in g.entries d lives; lives = lives }));
      erases = λ p dead. more_versions w h.views (erased g p) (erase_follows g p (newest_is w h.views) (record { there = dead_in g.entries p dead; dead = dead }));
      syncs = λ x up k. more_versions w h.views (registered g x) (sync_follows g x (newest_is w h.views) (record { there = live_in g.entries x (h.inv.is_ring.lives x (newest w) (ap runs_phase up) (h.inv.is_ring.held x) (omega arith)); unsynced = sync_unsynced w x k }));
      admits = λ x name up k. more_versions w h.views (admitted g x name) (admit_follows g x name (may_admit w x name up k h));
    }

-- who reads a view runs on
reads_runs : (W : CopyWorld) (x : ℕ) (e : Event) → OwnEnds W.ring → x < size W.ring → refused_in W (sort_of e) x ≡ None → reads_kind (shown_kind (kind_of e)) ≡ true → runs (done_in W (sort_of e) x).ring x ≡ true
reads_runs W x e own lt r reads = by_kind (kind_of e) refl r reads
  where
    by_kind : (k : Kind) → kind_of e ≡ k → refused_in W (sorted e k) x ≡ None → reads_kind (shown_kind k) ≡ true → runs (done_in W (sorted e k) x).ring x ≡ true
    by_kind (Changes c) is h b = subst (λ j. runs (done_as W.ring x j) x ≡ true) (sym is) ((kind_leaves W.ring x (Changes c) own).alive x lt (λ _. refl) (ap runs_phase (up_phase W.ring x _ (subst (λ j. refused_as W.ring x j ≡ None) is h))))
    by_kind (Reads v) is h b = subst (λ j. runs (done_as W.ring x j) x ≡ true) (sym is) ((kind_leaves W.ring x (Reads v) own).alive x lt (λ _. refl) (ap runs_phase (up_phase W.ring x _ (subst (λ j. refused_as W.ring x j ≡ None) is h))))
    by_kind (Says s) is h b = absurd (false≢true b)
    by_kind (Steps s) is h b = absurd (false≢true b)
    by_kind (Copying s) is h b = absurd (false≢true b)
    by_kind Stops is h b = absurd (false≢true b)
    by_kind (Tells code inner) is h b = absurd (false≢true b)

-- ---- runs

acts_sound : (w : World) (acts : List Act) → IsGood w → IsSized w → ring.IsRun w acts → IsGood (ring.last w acts) × IsSized (ring.last w acts)
acts_sound w [] g s r = (g, s)
acts_sound w (a ∷ acts) g s r = acts_sound (ring.effect w a) acts (act_good w a g r.0) (act_sized w a g r.0 s) r.1

-- the run with copies is one of the ring
pub reached_runs : (seen : WorldSeen) (n : ℕ) (r : IsReachedIn seen n) → RingRuns (without_copies (opening r.credit r.names)) (map sort_of r.events)
reached_runs seen n r = ring_runs (without_copies (opening r.credit r.names)) (map sort_of r.events) r.run

pub reached_ring : (seen : WorldSeen) (n : ℕ) (r : IsReachedIn seen n) → ring.last (opening r.credit r.names) (reached_runs seen n r).acts ≡ seen.ring
reached_ring seen n r = (reached_runs seen n r).ends ∙ sym (ap (λ (W : CopyWorld). W.ring) r.is)

reached_owned : (seen : WorldSeen) (n : ℕ) → IsReachedIn seen n → OwnEnds seen.ring
reached_owned seen n r =
    let k : RingRuns (without_copies (opening r.credit r.names)) (map sort_of r.events) = reached_runs seen n r in
    subst OwnEnds (reached_ring seen n r) (reached_owns r.credit r.names k.acts r.are k.run)

pub reached_sound : (seen : WorldSeen) (n : ℕ) → IsReachedIn seen n → IsGood seen.ring × IsSized seen.ring
reached_sound seen n r =
    let k : RingRuns (without_copies (opening r.credit r.names)) (map sort_of r.events) = reached_runs seen n r in
    subst (λ w. IsGood w × IsSized w) (reached_ring seen n r) (acts_sound (opening r.credit r.names) k.acts (opening_good r.credit r.names r.are) (opening_sized r.credit r.names r.are) k.run)

runs_on : (W : CopyWorld) (es : List Event) (e : Event) → IsRun W es → refusal (last W es) e ≡ None → IsRun W (es ++ e ∷ [])
runs_on W [] e r k = (k, tt)
runs_on W (d ∷ es) e r k = (r.0, runs_on (effect W d) es e r.1 k)

last_on : (W : CopyWorld) (es : List Event) (e : Event) → last W (es ++ e ∷ []) ≡ effect (last W es) e
last_on W [] e = refl
last_on W (d ∷ es) e = last_on (effect W d) es e

-- one more event
pub reached_more : (seen seen' : WorldSeen) (n n' : ℕ) (e : Event) → IsReachedIn seen n → refusal (with_copies seen) e ≡ None → with_copies seen' ≡ effect (with_copies seen) e → seen'.refusals ≡ seen.refusals ++ refusals_of (e ∷ []) → n' ≡ n + 1 → IsReachedIn seen' n'
reached_more seen seen' n n' e r x is noted count = record {
  credit = r.credit;
  names = r.names;
  are = r.are;
  events = r.events ++ e ∷ [];
  run = runs_on (without_copies (opening r.credit r.names)) r.events e r.run (ap (λ v. refusal v e) (sym r.is) ∙ x);
  is = is ∙ ap (λ v. effect v e) r.is ∙ sym (last_on (without_copies (opening r.credit r.names)) r.events e);
  refused = noted ∙ ap (λ es. es ++ refusals_of (e ∷ [])) r.refused ∙ sym (filter-append is_refusal r.events (e ∷ []));
  count = length_push r.events e ∙ ap (λ k. k + 1) r.count ∙ sym count;
}

-- what is known of some run is known
ready_from : (seen : WorldSeen) (n : ℕ) (v : World) → ∥ IsReachedIn seen n ∥₁ → (IsReachedIn seen n → IsReady v) → IsReady v
ready_from seen n v r f = record {
  placed = record {
    few = ∥∥₁_elim r le_prop (λ h. (f h).placed.few);
    versions = ∥∥₁_elim r le_prop (λ h. (f h).placed.versions);
    some = ∥∥₁_elim r le_prop (λ h. (f h).placed.some);
    rows = λ x a b. ∥∥₁_elim r le_prop (λ h. (f h).placed.rows x a b);
    row = λ x a b. ∥∥₁_elim r le_prop (λ h. (f h).placed.row x a b);
    own = λ x a b. ∥∥₁_elim r (ℕ_set _ _) (λ h. (f h).placed.own x a b);
    out = λ x o a b. ∥∥₁_elim r le_prop (λ h. (f h).placed.out x o a b);
    current = λ x o a b. ∥∥₁_elim r le_prop (λ h. (f h).placed.current x o a b);
    held = λ x. ∥∥₁_elim r le_prop (λ h. (f h).placed.held x);
    from_one = λ x a. ∥∥₁_elim r le_prop (λ h. (f h).placed.from_one x a);
    opened = λ s a. ∥∥₁_elim r le_prop (λ h. (f h).placed.opened s a);
    upto = λ s a. ∥∥₁_elim r le_prop (λ h. (f h).placed.upto s a);
  };
  lives = λ x a. ∥∥₁_elim r (bools_set _ _) (λ h. (f h).lives x a);
  marks = λ d a. ∥∥₁_elim r le_prop (λ h. (f h).marks d a);
  erases = λ p a. ∥∥₁_elim r le_prop (λ h. (f h).erases p a);
  syncs = λ x a b. ∥∥₁_elim r le_prop (λ h. (f h).syncs x a b);
  admits = λ x name a b. ∥∥₁_elim r le_prop (λ h. (f h).admits x name a b);
}
  where
    bools_set : (a b : Bool) → IsProp (a ≡ b)
    bools_set a b = hlevel props

-- ---- the same of what a World holds

pub running_ready : (a : Inside) → IsRunning a → IsReady (state_of a)
running_ready a r = ready_from (seen_of a) a.applied (state_of a) r.reached (λ h. let s = reached_sound (seen_of a) a.applied h in good_ready (state_of a) s.0 s.1)

pub running_placed : (a : Inside) → IsRunning a → IsPlaced (world_of a.ring)
running_placed a r = (running_ready a r).placed

pub running_opening : (a : Inside) (credit : CreditSpec) (names : List (List ℕ)) → AreOpeningNames names → state_of a ≡ opening credit names → a.copies.items ≡ [] → a.refusals.items ≡ [] → a.applied ≡ 0 → IsRunning a
running_opening a credit names are e nobody none z = record {
  reached = ∣ record { credit = credit; names = names; are = are; events = []; run = tt; is = ap (λ w. record { ring = w; copies = map copy_of a.copies.items }) e ∙ ap (λ cs. record { ring = opening credit names; copies = map copy_of cs }) nobody; refused = none; count = sym z } ∣₁;
  few = rw z (lit< tt);
}

-- what copies need
copied_from : (seen : WorldSeen) (n : ℕ) → ∥ IsReachedIn seen n ∥₁ → n < greatest → AreCopied (with_copies seen)
copied_from seen n r few = record {
  rise = λ i l. (∥∥₁_elim r (bools_set _ _) (λ h. ((ordered h).copies i l).0), ∥∥₁_elim r (bools_set _ _) (λ h. ((ordered h).copies i l).1));
  some = λ y. ∥∥₁_elim r le_prop (λ h. ((ordered h).queues y).some);
}
  where
    bools_set : (a b : Bool) → IsProp (a ≡ b)
    bools_set a b = hlevel props

    ordered : IsReachedIn seen n → AreOrdered (with_copies seen)
    ordered h = subst AreOrdered (sym h.is) (reached_ordered h.credit h.names (map sort_of h.events) h.run)

pub running_copied : (a : Inside) → IsRunning a → AreCopied (with_copies (seen_of a))
running_copied a r = let small : 2 ^ 59 ≤ greatest = lit≤ tt in copied_from (seen_of a) a.applied r.reached (omega (arith, r.few, small))

-- ---- the ring after an enabled event

then_of : (seen : WorldSeen) (n : ℕ) (e : Event) (x : ℕ) → refusal (with_copies seen) e ≡ None → Some x ≡ id_of seen.ring (by_of e) → IsReachedIn seen n → IsThen (done_in (with_copies seen) (sort_of e) x).ring x (reads_kind (shown_kind (kind_of e)))
then_of seen n e x r is h =
    let W : CopyWorld = with_copies seen in
    let first : CopyWorld = without_copies (opening h.credit h.names) in
    let more : effect W e ≡ let_go_by x (done_in W (sort_of e) x) = effect_found W e x is in
    let seen' : WorldSeen = record { ring = (effect W e).ring; copies = (effect W e).copies; refusals = seen.refusals ++ refusals_of (e ∷ []) } in
    let s = reached_sound seen' (n + 1) (reached_more seen seen' n (n + 1) e h r refl refl refl) in
    let here : (effect W e).ring ≡ (done_in W (sort_of e) x).ring = ap (λ (V : CopyWorld). V.ring) more in
    let on : GoesOn seen.ring (effect W e).ring = subst (λ V. GoesOn V.ring (effect V e).ring) (sym h.is) (goes_on_with_copies h.credit h.names h.are (map sort_of h.events) (sort_of e ∷ []) h.run (ap (λ V. refusal V e) (sym h.is) ∙ r, tt)) in
    let there : x < size seen.ring = (id_within seen.ring (by_of e) x (sym is)).1 in
    record {
      placed = subst IsPlaced here (good_placed (effect W e).ring s.0 s.1);
      there = let more_of : size seen.ring ≤ size (done_in W (sort_of e) x).ring = subst (λ w. size seen.ring ≤ size w) here on.never_falls.more in omega (arith, more_of, there);
      runs = λ reads. reads_runs W x e (reached_owned seen n h) there (sym (refusal_found W e x is) ∙ r) reads;
    }

then_from : (w : World) (x : ℕ) (b : Bool) (seen : WorldSeen) (n : ℕ) → ∥ IsReachedIn seen n ∥₁ → (IsReachedIn seen n → IsThen w x b) → IsReady w → IsThen w x b
then_from w x b seen n r f ready = record { placed = ready.placed; there = ∥∥₁_elim r le_prop (λ h. (f h).there); runs = λ k. ∥∥₁_elim r (bools_set _ _) (λ h. (f h).runs k) }
  where
    bools_set : (a b : Bool) → IsProp (a ≡ b)
    bools_set a b = hlevel props

pub running_then : (a : Inside) (e : Event) → IsRunning a → refusal (with_copies (seen_of a)) e ≡ None → AreThen (with_copies (seen_of a)) e
running_then a e r k x is =
    let seen : WorldSeen = seen_of a in
    let W : CopyWorld = with_copies seen in
    let seen' : WorldSeen = record { ring = (effect W e).ring; copies = (effect W e).copies; refusals = seen.refusals ++ refusals_of (e ∷ []) } in
    let here : (effect W e).ring ≡ (done_in W (sort_of e) x).ring = ap (λ (V : CopyWorld). V.ring) (effect_found W e x is) in
    then_from (done_in W (sort_of e) x).ring x (reads_kind (shown_kind (kind_of e))) seen a.applied r.reached (then_of seen a.applied e x k is)
    (subst IsReady here (ready_from seen a.applied (effect W e).ring r.reached (λ h. let s = reached_sound seen' (a.applied + 1) (reached_more seen seen' a.applied (a.applied + 1) e h k refl refl refl) in good_ready (effect W e).ring s.0 s.1)))

pub running_more : (seen : WorldSeen) (n : ℕ) (a : Inside) (e : Event) → ∥ IsReachedIn seen n ∥₁ → refusal (with_copies seen) e ≡ None → with_copies (seen_of a) ≡ effect (with_copies seen) e → a.refusals.items ≡ seen.refusals ++ refusals_of (e ∷ []) → a.applied ≡ n + 1 → a.applied < 2 ^ 59 → IsRunning a
running_more seen n a e r x is noted count few = record { reached = ∥∥₁_map r (λ h. reached_more seen (seen_of a) n a.applied e h x is noted count); few = few }
