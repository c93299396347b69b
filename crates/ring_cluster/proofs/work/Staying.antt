-- The members that are there stay, with their names, and their phases only go on; an admission alone adds one.
use Rattle.std.proofs.Common.{◌≡◌, ◌≢◌, ◌⊎◌, inl, inr, ⊎_elim, ℕ, ◌+◌, ◌<◌, ◌≤◌, List, [], ◌∷◌, ◌++◌, length, get_or, Option, Some, None, true, refl, sym, ap, subst, ◌∙◌, arith}
use Rattle.std.specs.Prelude.{⊤, Result, Ok, Err}
use Rattle.std.proofs.lemmas.Bool.{false≢true}
use Rattle.std.proofs.lemmas.List.{length-set, length_push, get_or_append_left, get_or_push}
use Rattle.queue_core.specs.declared.message.Message.TheVariants as message
use Rattle.queue_core.specs.declared.op.Op.{Op}
use Rattle.ring_names.specs.declared.reason.Reason.{Reason}
use Rattle.group_view.specs.View.{Group}
use Rattle.group_view.specs.Change.{marked}
use Rattle.ring_rules.specs.View.{right_of}
use Rattle.ring_rules.specs.declared.phase.Phase.{Phase}
use Rattle.ring_rules.specs.declared.phase.Phase.TheVariants.{Waiting, Up, Stopped}
use Rattle.ring_rules.specs.declared.phase.Ending.TheVariants.{Halted}
use Rattle.ring_rules.specs.declared.event.Event.{Event}
use Rattle.ring_rules.specs.declared.event.Event.TheVariants.{Admit}
use Rattle.ring_rules.specs.declared.kind.LinkStep.TheVariants as step
use Rattle.ring_rules.specs.declared.kind.ViewChange.TheVariants as change
use Rattle.ring_rules.specs.Kind.{Saying, Own, OfQueue, Kind, Says, Steps, Copying, Changes, Stops, Reads, Tells, kind_of}
use Rattle.ring_rules.specs.Machine.{Member, World, runs_phase, no_member, member_at, link_at, view_in, newest, oldest}
use Rattle.ring_rules.specs.Step.{size, log_of, with_member, with_view, published, taker, begun, with_current, stopped, stop_at, moved_to, opened_link, joiner, come_to}
use Rattle.ring_rules.specs.Event.{id_of, of_member, at_found, at_door, taken_by, refreshed, erased_view, synced_view, op_as, op_done, said, by_of, refused_at, done_as, done_at, refusal, effect, IsRun, last}
use Rattle.ring_rules.proofs.events.Composed.{end_composed, refresh_composed}
use Rattle.ring_rules.proofs.events.Kinds.{admits}
use Rattle.ring_rules.proofs.events.Leaves.{member_leaves, with_opened}

-- ---- phases

-- a member waits, is up, and stops: so its phase goes on
abbrev pub GoesOnTo : Phase → Phase → Type 0
GoesOnTo Waiting g = ⊤
GoesOnTo Up g = g ≢ Waiting
GoesOnTo Stopped g = g ≡ Stopped

pub on_refl : (f : Phase) → GoesOnTo f f
on_refl Waiting = tt
on_refl Up = λ e. cc
on_refl Stopped = refl

pub on_trans : (f g h : Phase) → GoesOnTo f g → GoesOnTo g h → GoesOnTo f h
on_trans Waiting g h a b = tt
on_trans Up Waiting h a b = absurd (a refl)
on_trans Up Up h a b = b
on_trans Up Stopped h a b = λ e. let both : Stopped ≡ Waiting = sym b ∙ e in cc
on_trans Stopped g h a b = subst (λ k. GoesOnTo k h) a b

to_stopped : (f : Phase) → GoesOnTo f Stopped
to_stopped Waiting = tt
to_stopped Up = λ e. cc
to_stopped Stopped = refl

-- one that has ceased to wait doesn't wait again
pub waits_not_again : (f g : Phase) → GoesOnTo f g → f ≢ Waiting → g ≢ Waiting
waits_not_again Waiting g h differs = absurd (differs refl)
waits_not_again Up g h differs = h
waits_not_again Stopped g h differs = λ e. let both : Stopped ≡ Waiting = sym h ∙ e in cc

-- and who runs has run before
pub ran_before : (f g : Phase) → GoesOnTo f g → runs_phase g ≡ true → runs_phase f ≡ true
ran_before Waiting g h r = refl
ran_before Up g h r = refl
ran_before Stopped g h r = absurd (false≢true (sym (ap runs_phase h) ∙ r))

-- ---- an event that admits nobody

-- the same members are there, with the same names
pub record SameNames (w w' : World) : Type 0 where
  pub many : size w' ≡ size w
  pub name : (q : ℕ) → (member_at w' q).name ≡ (member_at w q).name
  pub phase : (q : ℕ) → GoesOnTo (member_at w q).phase (member_at w' q).phase

itself : (w : World) → SameNames w w
itself w = record { many = refl; name = λ q. refl; phase = λ q. on_refl (member_at w q).phase }

-- one is written
written : (w : World) (x : ℕ) (y : Member) → y.name ≡ (member_at w x).name → GoesOnTo (member_at w x).phase y.phase → SameNames w (with_member w x y)
written w x y e on = record {
  many = length-set w.members x y;
  name = λ q. member_leaves (λ _ a b. b.name ≡ a.name) w x y e (λ _. refl) q;
  phase = λ q. member_leaves (λ _ a b. GoesOnTo a.phase b.phase) w x y on (λ k. on_refl (member_at w k).phase) q;
}

-- in the phase that it had
kept : (w : World) (x : ℕ) (y : Member) → y.name ≡ (member_at w x).name → y.phase ≡ (member_at w x).phase → SameNames w (with_member w x y)
kept w x y e same = written w x y e (subst (GoesOnTo (member_at w x).phase) (sym same) (on_refl (member_at w x).phase))

found : (w : World) (o : Option ℕ) (f : ℕ → World) → ((x : ℕ) → SameNames w (f x)) → SameNames w (at_found o w f)
found w None f k = itself w
found w (Some x) f k = k x

links_of : (w u v : World) → u.members ≡ v.members → SameNames w v → SameNames w u
links_of w u v e h = record {
  many = ap length e ∙ h.many;
  name = λ q. ap (λ ms. (get_or ms q no_member).name) e ∙ h.name q;
  phase = λ q. subst (λ ms. GoesOnTo (member_at w q).phase (get_or ms q no_member).phase) (sym e) (h.phase q);
}

-- a refresh
refresh_names : (w : World) (x v : ℕ) → SameNames w (refreshed w x v)
refresh_names w x v = refresh_composed (SameNames w) w x v
    (λ k e h. record { many = h.many; name = h.name; phase = h.phase })
    (λ u e h.
    let k = kept (with_opened u (opened_link u x (right_of (view_in w v) x))) x (record (member_at u x) { out = Some (length u.links) }) refl refl in
    record { many = k.many ∙ h.many; name = λ q. k.name q ∙ h.name q; phase = λ q. on_trans (member_at w q).phase (member_at u q).phase _ (h.phase q) (k.phase q) })
    (kept w x (moved_to w x v) refl refl)

view_names : (w : World) (x : ℕ) (v : Group) → SameNames w (refreshed (with_view w v) x (newest w + 1))
view_names w x v = let k = refresh_names (with_view w v) x (newest w + 1) in record { many = k.many; name = k.name; phase = k.phase }

take_names : (phase : Phase) (w : World) (y s : ℕ) → (member_at w y).phase ≡ phase → SameNames w (taken_by phase w y s)
take_names Waiting w y s e =
    let begins : SameNames w (with_member w y (begun (size w) (member_at w y) (oldest (link_at w s)))) =
    written w y (begun (size w) (member_at w y) (oldest (link_at w s))) refl (subst (λ f. GoesOnTo f Up) (sym e) tt) in
    links_of w _ (with_member w y (begun (size w) (member_at w y) (oldest (link_at w s)))) refl begins
take_names Up w y s e = links_of w _ (with_member w y (taker w y s)) refl (kept w y (taker w y s) refl refl)
take_names Stopped w y s e = itself w

-- what a member says
says_names : (w : World) (x : ℕ) (s : Saying) → SameNames w (said w x s)
says_names w x (Own body) = kept w x (published x (message.Cast body) (member_at w x)) refl refl
says_names w x (OfQueue q) = by_op (op_as w x q)
  where
    by_op : (o : Result Op Reason) → SameNames w (op_done w x o)
    by_op (Ok o) = kept w x (published x (message.Queue o) (member_at w x)) refl refl
    by_op (Err r) = itself w

-- what is done
done_names : (w : World) (k : Kind) (x : ℕ) → ((name : List ℕ) → k ≡ Changes (change.Admit name) → ⊥) → SameNames w (done_as w x k)
done_names w (Says s) x none = says_names w x s
done_names w (Steps step.Put) x none = found w (member_at w x).out _ (λ o. links_of w _ w refl (itself w))
done_names w (Steps step.Take) x none = found w (member_at w x).current (taken_by (member_at w x).phase w x) (λ s. take_names (member_at w x).phase w x s refl)
done_names w (Steps step.TakeEnd) x none = found w (member_at w x).current _ (λ s. links_of w _ (with_member w x (with_current None (member_at w x))) refl (kept w x (with_current None (member_at w x)) refl refl))
done_names w (Steps step.Gain) x none = found w (member_at w x).out _ (λ o. links_of w _ w refl (itself w))
done_names w (Steps step.Pick) x none = found w (at_door w x) _ (λ s. kept w x (with_current (Some s) (member_at w x)) refl refl)
done_names w (Copying s) x none = itself w
done_names w (Changes (change.Mark dead)) x none = found w (id_of w dead) _ (λ d. view_names w x (marked (view_in w (newest w)) d))
done_names w (Changes (change.Erase origin)) x none = found w (id_of w origin) _ (λ d. view_names w x (erased_view w d))
done_names w (Changes (change.Admit name)) x none = absurd (none name refl)
done_names w (Changes change.Register) x none = view_names w x (synced_view w x)
done_names w Stops x none = end_composed (SameNames w) Halted (stop_at w x) (member_at w x).out (λ o e h. record { many = h.many; name = h.name; phase = h.phase }) (written w x (stopped (member_at w x)) refl (to_stopped (member_at w x).phase))
done_names w (Reads version) x none = refresh_names w x version
done_names w (Tells code inner) x none = itself w

-- an event that is no admission leaves the members, by their names
pub event_same : (w : World) (e : Event) → ((by name : List ℕ) → e ≡ Admit by name → ⊥) → SameNames w (effect w e)
event_same w e none = found w (id_of w (by_of e)) (done_at w e) (λ x. done_names w (kind_of e) x (λ name is. none (by_of e) name (admits e name is)))

-- ---- an admission

-- members that are there keep their names, and their phases only go on
pub record KeepsNames (w w' : World) : Type 0 where
  pub many : size w ≤ size w'
  pub name : (q : ℕ) → q < size w → (member_at w' q).name ≡ (member_at w q).name
  pub phase : (q : ℕ) → q < size w → GoesOnTo (member_at w q).phase (member_at w' q).phase

-- One more member is there, called so; it has published nothing, and the others stay with their names.
pub record Joins (w : World) (called : List ℕ) (w' : World) : Type 0 where
  pub many : size w' ≡ size w + 1
  pub keeps : KeepsNames w w'
  pub new : (member_at w' (size w)).name ≡ called
  pub nothing : log_of w' (size w) ≡ []

refresh_log : (w : World) (x v q : ℕ) → log_of (refreshed w x v) q ≡ log_of w q
refresh_log w x v q = refresh_composed (λ u. log_of u q ≡ log_of w q) w x v
    (λ k e h. h)
    (λ u e h. member_leaves (λ _ a b. b.log ≡ a.log) (with_opened u (opened_link u x (right_of (view_in w v) x))) x (record (member_at u x) { out = Some (length u.links) }) refl (λ _. refl) q ∙ h)
    (member_leaves (λ _ a b. b.log ≡ a.log) w x (moved_to w x v) refl (λ _. refl) q)

come_joins : (w : World) (x : ℕ) (name : List ℕ) → Joins w name (refreshed (come_to w x name) x (newest w + 1))
come_joins w x name = record {
  many = more;
  keeps = record {
    many = omega (arith, more);
    name = λ q lt. k.name q ∙ ap (λ (y : Member). y.name) (get_or_append_left w.members (joiner w name ∷ []) no_member q lt);
    phase = λ q lt. subst (λ (y : Member). GoesOnTo y.phase (member_at (refreshed (come_to w x name) x (newest w + 1)) q).phase) (get_or_append_left w.members (joiner w name ∷ []) no_member q lt) (k.phase q);
  };
  new = k.name (size w) ∙ ap (λ (y : Member). y.name) here;
  nothing = refresh_log (come_to w x name) x (newest w + 1) (size w) ∙ ap (λ (y : Member). y.log) here;
}
  where
    k : SameNames (come_to w x name) (refreshed (come_to w x name) x (newest w + 1))
    k = refresh_names (come_to w x name) x (newest w + 1)

    more : size (refreshed (come_to w x name) x (newest w + 1)) ≡ size w + 1
    more = k.many ∙ length_push w.members (joiner w name)

    here : member_at (come_to w x name) (size w) ≡ joiner w name
    here = get_or_push w.members (joiner w name) no_member (size w) refl

pub admit_joins : (w : World) (by name : List ℕ) → refusal w (Admit by name) ≡ None → Joins w name (effect w (Admit by name))
admit_joins w by name r = by_id (id_of w by) r
  where
    by_id : (o : Option ℕ) → of_member o (refused_at w (Admit by name)) ≡ None → Joins w name (at_found o w (done_at w (Admit by name)))
    by_id None k = cc
    by_id (Some x) k = come_joins w x name

-- ---- each event

-- whether an event is an admission is known
pub is_admission : (e : Event) → ((by : List ℕ) × (name : List ℕ) × (e ≡ Admit by name)) ⊎ ((by name : List ℕ) → e ≡ Admit by name → ⊥)
is_admission (Admit by name) = inl (by, name, refl)
is_admission e = inr (λ by name is. cc)

pub event_keeps : (w : World) (e : Event) → refusal w e ≡ None → KeepsNames w (effect w e)
event_keeps w e r = ⊎_elim
    (λ (a : (by : List ℕ) × (name : List ℕ) × (e ≡ Admit by name)).
    let k : Joins w a.1 (effect w (Admit a.0 a.1)) = admit_joins w a.0 a.1 (subst (λ x. refusal w x ≡ None) a.2 r) in
    subst (λ x. KeepsNames w (effect w x)) (sym a.2) k.keeps)
    (λ (none : (by name : List ℕ) → e ≡ Admit by name → ⊥).
    let k : SameNames w (effect w e) = event_same w e none in
    record { many = omega (arith, k.many); name = λ q _. k.name q; phase = λ q _. k.phase q })
    (is_admission e)

-- and do so in every run
pub run_keeps_names : (w : World) (events : List Event) → IsRun w events → KeepsNames w (last w events)
run_keeps_names w [] r = record { many = omega arith; name = λ q _. refl; phase = λ q _. on_refl (member_at w q).phase }
run_keeps_names w (e ∷ es) r =
    let h : KeepsNames w (effect w e) = event_keeps w e r.0 in
    let k : KeepsNames (effect w e) (last (effect w e) es) = run_keeps_names (effect w e) es r.1 in
    record {
      many = omega (arith, h.many, k.many);
      name = λ q lt. k.name q (omega (arith, lt, h.many)) ∙ h.name q lt;
      phase = λ q lt. on_trans (member_at w q).phase (member_at (effect w e) q).phase (member_at (last (effect w e) es) q).phase (h.phase q lt) (k.phase q (omega (arith, lt, h.many)));
    }

-- what follows in a run is a run
pub run_behind : (w : World) (before more : List Event) → IsRun w (before ++ more) → IsRun (last w before) more
run_behind w [] more r = r
run_behind w (e ∷ before) more r = run_behind (effect w e) before more r.1
