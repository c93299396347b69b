-- Who runs after an act ran before it, and only who reads a view has another version.
use Rattle.std.proofs.Common.{◌≡◌, ◌≢◌, ℕ, ◌+◌, ◌<◌, Bool, true, false, [], ◌∷◌, ◌++◌, length, get_or, refl, sym, ap, ◌∙◌, Option, Some, None, Result, Ok, Err}
use Rattle.std.proofs.lemmas.Bool.{false≢true}
use Rattle.std.proofs.lemmas.List.{get_or_append_left, get_or-set_other}
use Rattle.ring_names.specs.declared.reason.Reason.{Reason}
use Rattle.queue_core.specs.declared.op.Op.{Op}
use Rattle.queue_core.specs.declared.message.Message.TheVariants as message
use Rattle.queue_mirror.specs.Mirror.{MirrorState}
use Rattle.group_view.specs.Change.{marked}
use Rattle.ring_rules.specs.declared.phase.Phase.{Phase}
use Rattle.ring_rules.specs.declared.phase.Phase.TheVariants.{Waiting, Up, Stopped}
use Rattle.ring_rules.specs.declared.phase.Ending.TheVariants.{Halted}
use Rattle.ring_rules.specs.declared.kind.LinkStep.TheVariants as step
use Rattle.ring_rules.specs.declared.kind.ViewChange.TheVariants as change
use Rattle.ring_rules.specs.View.{right_of}
use Rattle.ring_rules.specs.Machine.{Member, World, no_member, member_at, link_at, view_in, newest, runs, runs_phase, oldest}
use Rattle.ring_rules.specs.Step.{size, publish_at, published, put_on, take_from, taker, begin_from, begun, leave_link, current_is, with_current, stop_at, stopped, end_out, with_member, with_view, moved_to, opened_link, come_to, joiner, copied, copied_at}
use Rattle.ring_rules.specs.Kind.{Kind, Says, Steps, Copying, Changes, Stops, Reads, Tells, Saying, Own, OfQueue}
use Rattle.ring_rules.specs.Event.{id_of, at_found, at_door, op_as, op_done, said, taken_by, done_as, refreshed, erased_view, synced_view}
use Rattle.ring_rules.proofs.events.Composed.{end_composed, refresh_composed}
use Rattle.ring_rules.proofs.events.Leaves.{member_leaves}

-- whether an event of this kind reads a view
abbrev pub reads_view : Kind → Bool
reads_view (Changes c) = true
reads_view (Reads v) = true
reads_view k = false

-- those that were there run only where they ran before, and the others' versions stay, and x's own where it reads no view
pub record Stays (w : World) (x : ℕ) (reads : Bool) (w' : World) : Type 0 where
  pub ran : (q : ℕ) → q < size w → runs w' q ≡ true → runs w q ≡ true
  pub others : (q : ℕ) → q < size w → q ≢ x → (member_at w' q).version ≡ (member_at w q).version
  pub mine : reads ≡ false → x < size w → (member_at w' x).version ≡ (member_at w x).version

same : (w : World) (x : ℕ) (b : Bool) → Stays w x b w
same w x b = record { ran = λ q lt r. r; others = λ q lt ne. refl; mine = λ e lt. refl }

-- where one member is written, and links may be
written : (w : World) (x : ℕ) (b : Bool) (y : Member) (w' : World) → w'.members ≡ (with_member w x y).members → (runs_phase y.phase ≡ true → runs w x ≡ true) → y.version ≡ (member_at w x).version → Stays w x b w'
written w x b y w' e runs_on version = record {
  ran = λ q lt r. member_leaves (λ _ a z. runs_phase z.phase ≡ true → runs_phase a.phase ≡ true) w x y runs_on (λ _ k. k) q (ap (λ ms. runs_phase (get_or ms q no_member).phase) (sym e) ∙ r);
  others = λ q lt ne. now q;
  mine = λ _ lt. now x;
}
  where
    now : (q : ℕ) → (member_at w' q).version ≡ (member_at w q).version
    now q = ap (λ ms. (get_or ms q no_member).version) e ∙ member_leaves (λ _ a z. z.version ≡ a.version) w x y version (λ _. refl) q

-- a refresh of x, behind a change of views or one that has come
record IsWay (u : World) (x : ℕ) (t : World) : Type 0 where
  pub phase : (q : ℕ) → (member_at t q).phase ≡ (member_at u q).phase
  pub others : (q : ℕ) → q ≢ x → (member_at t q).version ≡ (member_at u q).version

refreshed_way : (u : World) (x v : ℕ) → IsWay u x (refreshed u x v)
refreshed_way u x v = refresh_composed (IsWay u x) u x v
    (λ o e k. record { phase = k.phase; others = k.others })
    (λ t e k. record {
      phase = λ q. member_leaves (λ _ a b. b.phase ≡ a.phase) (record t { links = t.links ++ opened_link t x (right_of (view_in u v) x) ∷ [] }) x (record (member_at t x) { out = Some (length t.links) }) refl (λ _. refl) q ∙ k.phase q;
      others = λ q ne. member_leaves (λ _ a b. b.version ≡ a.version) (record t { links = t.links ++ opened_link t x (right_of (view_in u v) x) ∷ [] }) x (record (member_at t x) { out = Some (length t.links) }) refl (λ _. refl) q ∙ k.others q ne;
    })
    (record {
      phase = λ q. member_leaves (λ _ a b. b.phase ≡ a.phase) u x (moved_to u x v) refl (λ _. refl) q;
      others = λ q ne. ap (λ (a : Member). a.version) (get_or-set_other u.members x q (moved_to u x v) no_member ne);
    })

looks : (w u : World) (x v : ℕ) → ((q : ℕ) → q < size w → member_at u q ≡ member_at w q) → Stays w x true (refreshed u x v)
looks w u x v old =
    let k : IsWay u x (refreshed u x v) = refreshed_way u x v in
    record {
      ran = λ q lt r. ap (λ (a : Member). runs_phase a.phase) (sym (old q lt)) ∙ ap runs_phase (sym (k.phase q)) ∙ r;
      others = λ q lt ne. k.others q ne ∙ ap (λ (a : Member). a.version) (old q lt);
      mine = λ e. absurd (false≢true (sym e));
    }

found : (w : World) (x : ℕ) (b : Bool) (o : Option ℕ) (f : ℕ → World) → ((s : ℕ) → Stays w x b (f s)) → Stays w x b (at_found o w f)
found w x b None f h = same w x b
found w x b (Some s) f h = h s

says : (w : World) (x : ℕ) (s : Saying) → Stays w x false (said w x s)
says w x (Own body) = written w x false (published x (message.Cast body) (member_at w x)) (publish_at w x (message.Cast body)) refl (λ r. r) refl
says w x (OfQueue q) = by_op (op_as w x q)
  where
    by_op : (o : Result Op Reason) → Stays w x false (op_done w x o)
    by_op (Ok o) = written w x false (published x (message.Queue o) (member_at w x)) (publish_at w x (message.Queue o)) refl (λ r. r) refl
    by_op (Err r) = same w x false

pub kind_stays : (w : World) (x : ℕ) (k : Kind) → Stays w x (reads_view k) (done_as w x k)
kind_stays w x (Says s) = says w x s
kind_stays w x (Steps step.Put) = found w x false (member_at w x).out (put_on w x) (λ o. record { ran = λ q lt r. r; others = λ q lt ne. refl; mine = λ e lt. refl })
kind_stays w x (Steps step.Take) = found w x false (member_at w x).current (taken_by (member_at w x).phase w x) (λ s. by_phase s (member_at w x).phase refl)
  where
    by_phase : (s : ℕ) (f : Phase) → (member_at w x).phase ≡ f → Stays w x false (taken_by f w x s)
    by_phase s Waiting e = written w x false (begun (size w) (member_at w x) (oldest (link_at w s))) (begin_from w x s) refl (λ _. ap runs_phase e) refl
    by_phase s Up e = written w x false (taker w x s) (take_from w x s) refl (λ r. r) refl
    by_phase s Stopped e = same w x false
kind_stays w x (Steps step.TakeEnd) = found w x false (member_at w x).current (leave_link w x) (λ s. written w x false (with_current None (member_at w x)) (leave_link w x s) refl (λ r. r) refl)
kind_stays w x (Steps step.Gain) = found w x false (member_at w x).out _ (λ o. record { ran = λ q lt r. r; others = λ q lt ne. refl; mine = λ e lt. refl })
kind_stays w x (Steps step.Pick) = found w x false (at_door w x) _ (λ s. written w x false (with_current (Some s) (member_at w x)) (current_is w x (Some s)) refl (λ r. r) refl)
kind_stays w x (Changes (change.Mark dead)) = found w x true (id_of w dead) _ (λ d. looks w (with_view w (marked (view_in w (newest w)) d)) x (newest w + 1) (λ q lt. refl))
kind_stays w x (Changes (change.Erase origin)) = found w x true (id_of w origin) _ (λ p. looks w (with_view w (erased_view w p)) x (newest w + 1) (λ q lt. refl))
kind_stays w x (Changes (change.Admit name)) = looks w (come_to w x name) x (newest w + 1) (λ q lt. get_or_append_left w.members (joiner w name ∷ []) no_member q lt)
kind_stays w x (Changes change.Register) = looks w (with_view w (synced_view w x)) x (newest w + 1) (λ q lt. refl)
kind_stays w x Stops = written w x false (stopped (member_at w x)) (end_out Halted (stop_at w x) (member_at w x).out)
    (end_composed (λ v. v.members ≡ (stop_at w x).members) Halted (stop_at w x) (member_at w x).out (λ o e k. refl) refl) (λ r. absurd (false≢true r)) refl
kind_stays w x (Reads version) = looks w w x version (λ q lt. refl)
kind_stays w x (Copying s) = same w x false
kind_stays w x (Tells code inner) = same w x false

-- a copy that is done
pub copied_stays : (w : World) (x : ℕ) (m : MirrorState) → Stays w x false (copied_at w x m)
copied_stays w x m = written w x false (copied m (member_at w x)) (copied_at w x m) refl (λ r. r) refl
