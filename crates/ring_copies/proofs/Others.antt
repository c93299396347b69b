-- What an act of x leaves of the others, of those that run, and of the views.
use Rattle.std.proofs.Common.{◌≡◌, ◌≢◌, ℕ, ◌+◌, ◌<◌, ◌≤◌, Bool, true, false, [], ◌∷◌, ◌++◌, length, get_or, refl, sym, ap, ◌∙◌, arith, Option, Some, None, Result, Ok, Err}
use Rattle.std.proofs.lemmas.List.{length-set, length_push, get_or_append_left, get_or-set_other}
use Rattle.ring_names.specs.declared.reason.Reason.{Reason}
use Rattle.queue_core.specs.declared.op.Op.{Op}
use Rattle.queue_core.specs.declared.message.Message.TheVariants as message
use Rattle.credit_flow.specs.Credit.{is_blocked}
use Rattle.queue_mirror.specs.Mirror.{MirrorState}
use Rattle.group_view.specs.View.{Group}
use Rattle.group_view.specs.Since.{no_group}
use Rattle.group_view.specs.Change.{marked}
use Rattle.ring_rules.specs.declared.phase.Phase.{Phase}
use Rattle.ring_rules.specs.declared.phase.Phase.TheVariants.{Waiting, Up, Stopped}
use Rattle.ring_rules.specs.declared.phase.Ending.TheVariants.{Moved, Halted}
use Rattle.ring_rules.specs.declared.kind.LinkStep.TheVariants as step
use Rattle.ring_rules.specs.declared.kind.ViewChange.TheVariants as change
use Rattle.ring_rules.specs.View.{right_of}
use Rattle.ring_rules.specs.Machine.{Member, Link, World, no_member, no_link, member_at, link_at, view_in, newest, runs, runs_phase, oldest}
use Rattle.ring_rules.specs.Step.{size, publish_at, published, put_on, take_from, taker, begin_from, begun, leave_link, finished, current_is, with_current, stop_at, stopped, end_out, ended, popped, with_member, with_link, with_view, look_at, moved_to, open_to, opened_link, come_to, joiner, admitted_view, copied, copied_at}
use Rattle.ring_rules.specs.Kind.{Kind, Says, Steps, Copying, Changes, Stops, Reads, Tells, Saying, Own, OfQueue}
use Rattle.ring_rules.specs.Event.{id_of, at_found, at_door, op_as, op_done, said, taken_by, done_as, refreshed, erased_view, synced_view}
use Rattle.ring_rules.proofs.events.Composed.{end_composed, refresh_composed}
use Rattle.ring_rules.proofs.events.Leaves.{member_leaves, link_leaves}
use Rattle.ring_rules.proofs.work.OwnEnds.{OwnEnds, other_out}
use Rattle.ring_copies.specs.Copies.{is_blocked_by, is_blocked_at}

-- x may have stopped by it, or not
abbrev pub is_stop : Kind → Bool
is_stop Stops = true
is_stop k = false

pub record Leaves (w : World) (x : ℕ) (stops : Bool) (w' : World) : Type 0 where
  -- who ran runs on, but for x where it stops
  pub alive : (q : ℕ) → q < size w → (q ≡ x → stops ≡ false) → runs w q ≡ true → runs w' q ≡ true
  -- the views stay
  pub views : (v : ℕ) → v < length w.views → view_in w' v ≡ view_in w v
  pub longer : length w.views ≤ length w'.views
  -- and whether another is blocked
  pub blocked : (q : ℕ) → q < size w → q ≢ x → is_blocked_at w' q ≡ is_blocked_at w q

-- ---- on the way

-- the others send where they sent, with the credit that they had
record IsLeft (w : World) (x : ℕ) (t : World) : Type 0 where
  pub out : (q : ℕ) → q < size w → q ≢ x → (member_at t q).out ≡ (member_at w q).out
  pub credit : (q o : ℕ) → q < size w → q ≢ x → (member_at w q).out ≡ Some o → (link_at t o).flow.sender ≡ (link_at w o).flow.sender
  pub more : length w.links ≤ length t.links

left_blocked : (w : World) (x : ℕ) (t : World) → IsLeft w x t → (q : ℕ) → q < size w → q ≢ x → is_blocked_at t q ≡ is_blocked_at w q
left_blocked w x t k q lt ne = ap (is_blocked_by t) (k.out q lt ne) ∙ by_out (member_at w q).out refl
  where
    by_out : (o : Option ℕ) → (member_at w q).out ≡ o → is_blocked_by t o ≡ is_blocked_by w o
    by_out None e = refl
    by_out (Some o) e = ap is_blocked (k.credit q o lt ne e)

-- one member is written, with its out link
member_left : (w : World) (x : ℕ) (y : Member) → IsLeft w x (with_member w x y)
member_left w x y = record {
  out = λ q lt ne. ap (λ (a : Member). a.out) (get_or-set_other w.members x q y no_member ne);
  credit = λ q o lt ne e. refl;
  more = omega arith;
}

-- a link is written, which isn't another's out link, or whose credit stays
link_left : (w : World) (x : ℕ) (t : World) (o : ℕ) (l : Link) → IsLeft w x t → ((q : ℕ) → q < size w → q ≢ x → (member_at w q).out ≡ Some o → l.flow.sender ≡ (link_at t o).flow.sender) → IsLeft w x (with_link t o l)
link_left w x t o l k same = record {
  out = k.out;
  credit = λ q j lt ne e. link_leaves (λ i a b. i ≡ j → b.flow.sender ≡ a.flow.sender) t o l (λ is. same q lt ne (e ∙ ap Some (sym is))) (λ _ _. refl) j refl ∙ k.credit q j lt ne e;
  more = omega (arith, k.more, length-set t.links o l);
}

refreshed_left : (w u : World) (x v : ℕ) → OwnEnds w → IsLeft w x u → IsLeft w x (refreshed u x v)
refreshed_left w u x v own k = refresh_composed (IsLeft w x) u x v
    (λ o e h. link_left w x (look_at u x v) o (ended Moved (link_at u o)) h (λ q lt ne out. refl))
    (λ t e h. opened t h)
    (record { out = λ q lt ne. ap (λ (a : Member). a.out) (get_or-set_other u.members x q (moved_to u x v) no_member ne) ∙ k.out q lt ne; credit = k.credit; more = k.more })
  where
    z : ℕ
    z = right_of (view_in u v) x

    opened : (t : World) → IsLeft w x t → IsLeft w x (open_to t x z)
    opened t h = record {
      out = λ q lt ne. ap (λ (a : Member). a.out) (get_or-set_other t.members x q (record (member_at t x) { out = Some (length t.links) }) no_member ne) ∙ h.out q lt ne;
      credit = λ q o lt ne e. ap (λ (l : Link). l.flow.sender) (get_or_append_left t.links (opened_link t x z ∷ []) no_link o (omega (arith, (own.out q o e).0, h.more))) ∙ h.credit q o lt ne e;
      more = omega (arith, h.more, length_push t.links (opened_link t x z));
    }

refreshed_views : (u : World) (x v : ℕ) → (refreshed u x v).views ≡ u.views
refreshed_views u x v = refresh_composed (λ t. t.views ≡ u.views) u x v (λ k e h. h) (λ t e h. h) refl

refreshed_alive : (u : World) (x v q : ℕ) → runs (refreshed u x v) q ≡ runs u q
refreshed_alive u x v q = refresh_composed (λ t. runs t q ≡ runs u q) u x v (λ k e h. h)
    (λ t e h. ap runs_phase (member_leaves (λ _ a b. b.phase ≡ a.phase) (record t { links = t.links ++ opened_link t x (right_of (view_in u v) x) ∷ [] }) x (record (member_at t x) { out = Some (length t.links) }) refl (λ _. refl) q) ∙ h)
    (ap runs_phase (member_leaves (λ _ a b. b.phase ≡ a.phase) u x (moved_to u x v) refl (λ _. refl) q))

-- ---- each kind

same : (w : World) (x : ℕ) (b : Bool) → Leaves w x b w
same w x b = record { alive = λ q lt n r. r; views = λ v lt. refl; longer = omega arith; blocked = λ q lt ne. refl }

found : (w : World) (x : ℕ) (b : Bool) (o : Option ℕ) (f : ℕ → World) → ((s : ℕ) → o ≡ Some s → Leaves w x b (f s)) → Leaves w x b (at_found o w f)
found w x b None f h = same w x b
found w x b (Some s) f h = h s refl

-- x is written, and what follows of links leaves the others' credit
written : (w : World) (x : ℕ) (y : Member) (w' : World) → w'.members ≡ (with_member w x y).members → w'.views ≡ w.views → (runs w x ≡ true → runs_phase y.phase ≡ true) → IsLeft w x w' → Leaves w x false w'
written w x y w' members views runs_on left = record {
  alive = λ q lt n r. ap (λ ms. runs_phase (get_or ms q no_member).phase) members ∙ member_leaves (λ _ a b. runs_phase a.phase ≡ true → runs_phase b.phase ≡ true) w x y runs_on (λ _ k. k) q r;
  views = λ v lt. ap (λ vs. get_or vs v no_group) views;
  longer = omega (arith, ap length views);
  blocked = left_blocked w x w' left;
}

looks : (w u : World) (x v : ℕ) → OwnEnds w → IsLeft w x u → ((q : ℕ) → q < size w → member_at u q ≡ member_at w q) → ((k : ℕ) → k < length w.views → view_in u k ≡ view_in w k) → length w.views ≤ length u.views → Leaves w x false (refreshed u x v)
looks w u x v own k old views longer = record {
  alive = λ q lt n r. refreshed_alive u x v q ∙ ap (λ (a : Member). runs_phase a.phase) (old q lt) ∙ r;
  views = λ j lt. ap (λ vs. get_or vs j no_group) (refreshed_views u x v) ∙ views j lt;
  longer = omega (arith, longer, ap length (refreshed_views u x v));
  blocked = left_blocked w x (refreshed u x v) (refreshed_left w u x v own k);
}

-- a view comes, and x reads it
view_comes : (w : World) (x : ℕ) (g : Group) → OwnEnds w → Leaves w x false (refreshed (with_view w g) x (newest w + 1))
view_comes w x g own = looks w (with_view w g) x (newest w + 1) own (record { out = λ q lt ne. refl; credit = λ q o lt ne e. refl; more = omega arith }) (λ q lt. refl)
    (λ j lt. get_or_append_left w.views (g ∷ []) no_group j lt) (omega (arith, length_push w.views g))

says : (w : World) (x : ℕ) (s : Saying) → Leaves w x false (said w x s)
says w x (Own body) = written w x (published x (message.Cast body) (member_at w x)) (publish_at w x (message.Cast body)) refl refl (λ r. r) (member_left w x _)
says w x (OfQueue q) = by_op (op_as w x q)
  where
    by_op : (o : Result Op Reason) → Leaves w x false (op_done w x o)
    by_op (Ok o) = written w x (published x (message.Queue o) (member_at w x)) (publish_at w x (message.Queue o)) refl refl (λ r. r) (member_left w x _)
    by_op (Err r) = same w x false

here : (w : World) (x : ℕ) → IsLeft w x w
here w x = record { out = λ q lt ne. refl; credit = λ q o lt ne e. refl; more = omega arith }

-- x's own out link is written
own_link : (w : World) (x o : ℕ) (l : Link) → OwnEnds w → (member_at w x).out ≡ Some o → Leaves w x false (with_link w o l)
own_link w x o l own out = record {
  alive = λ q lt n r. r;
  views = λ v lt. refl;
  longer = omega arith;
  blocked = left_blocked w x (with_link w o l) (link_left w x w o l (here w x) (λ q lt ne e. absurd (other_out w x q o o own out e ne refl)));
}

pub kind_leaves : (w : World) (x : ℕ) (k : Kind) → OwnEnds w → Leaves w x (is_stop k) (done_as w x k)
kind_leaves w x (Says s) own = says w x s
kind_leaves w x (Steps step.Put) own = found w x false (member_at w x).out (put_on w x) (λ o e. own_link w x o _ own e)
kind_leaves w x (Steps step.Take) own = found w x false (member_at w x).current (taken_by (member_at w x).phase w x) (λ s e. by_phase s (member_at w x).phase refl)
  where
    by_phase : (s : ℕ) (f : Phase) → (member_at w x).phase ≡ f → Leaves w x false (taken_by f w x s)
    by_phase s Waiting e = written w x (begun (size w) (member_at w x) (oldest (link_at w s))) (begin_from w x s) refl refl (λ _. refl) (link_left w x (with_member w x (begun (size w) (member_at w x) (oldest (link_at w s)))) s (popped (link_at w s)) (member_left w x _) (λ q lt ne o. refl))
    by_phase s Up e = written w x (taker w x s) (take_from w x s) refl refl (λ r. r) (link_left w x (with_member w x (taker w x s)) s (popped (link_at w s)) (member_left w x _) (λ q lt ne o. refl))
    by_phase s Stopped e = same w x false
kind_leaves w x (Steps step.TakeEnd) own = found w x false (member_at w x).current (leave_link w x) (λ s e. written w x (with_current None (member_at w x)) (leave_link w x s) refl refl (λ r. r) (link_left w x (current_is w x None) s (finished (link_at w s)) (member_left w x _) (λ q lt ne o. refl)))
kind_leaves w x (Steps step.Gain) own = found w x false (member_at w x).out _ (λ o e. own_link w x o _ own e)
kind_leaves w x (Steps step.Pick) own = found w x false (at_door w x) _ (λ s e. written w x (with_current (Some s) (member_at w x)) (current_is w x (Some s)) refl refl (λ r. r) (member_left w x _))
kind_leaves w x (Changes (change.Mark dead)) own = found w x false (id_of w dead) _ (λ d e. view_comes w x (marked (view_in w (newest w)) d) own)
kind_leaves w x (Changes (change.Erase origin)) own = found w x false (id_of w origin) _ (λ p e. view_comes w x (erased_view w p) own)
kind_leaves w x (Changes (change.Admit name)) own = looks w (come_to w x name) x (newest w + 1) own
    (record { out = λ q lt ne. ap (λ (a : Member). a.out) (old q lt); credit = λ q o lt ne e. refl; more = omega arith }) old
    (λ j lt. get_or_append_left w.views (admitted_view w x name ∷ []) no_group j lt) (omega (arith, length_push w.views (admitted_view w x name)))
  where
    old : (q : ℕ) → q < size w → member_at (come_to w x name) q ≡ member_at w q
    old q lt = get_or_append_left w.members (joiner w name ∷ []) no_member q lt
kind_leaves w x (Changes change.Register) own = view_comes w x (synced_view w x) own
kind_leaves w x Stops own = record {
  alive = λ q lt n r. ap (λ ms. runs_phase (get_or ms q no_member).phase) members ∙ member_leaves (λ i a b. (i ≡ x → true ≡ false) → runs_phase a.phase ≡ true → runs_phase b.phase ≡ true) w x (stopped (member_at w x)) (λ n _. absurd (let bad : true ≡ false = n refl in cc)) (λ _ _ k. k) q n r;
  views = λ v lt. ap (λ vs. get_or vs v no_group) (end_composed (λ t. t.views ≡ w.views) Halted (stop_at w x) (member_at w x).out (λ o e k. k) refl);
  longer = omega (arith, ap length (end_composed (λ t. t.views ≡ w.views) Halted (stop_at w x) (member_at w x).out (λ o e k. k) refl));
  blocked = left_blocked w x _ (end_composed (IsLeft w x) Halted (stop_at w x) (member_at w x).out (λ o e k. link_left w x (stop_at w x) o (ended Halted (link_at w o)) k (λ q lt ne out. refl)) (member_left w x (stopped (member_at w x))));
}
  where
    members : (end_out Halted (stop_at w x) (member_at w x).out).members ≡ (stop_at w x).members
    members = end_composed (λ t. t.members ≡ (stop_at w x).members) Halted (stop_at w x) (member_at w x).out (λ o e k. refl) refl
kind_leaves w x (Reads version) own = looks w w x version own (here w x) (λ q lt. refl) (λ j lt. refl) (omega arith)
kind_leaves w x (Copying s) own = same w x false
kind_leaves w x (Tells code inner) own = same w x false

-- a copy that is done
pub copied_leaves : (w : World) (x : ℕ) (m : MirrorState) → Leaves w x false (copied_at w x m)
copied_leaves w x m = written w x (copied m (member_at w x)) (copied_at w x m) refl refl (λ r. r) (member_left w x _)
