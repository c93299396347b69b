-- What of a state of the ring the registrar has: its views, and who has stopped. Each event in which it has no part keeps both.
use Rattle.std.proofs.Common.{List, ◌≡◌, ℕ, ◌++◌, ◌∷◌, [], length, Option, Some, None, Result, Ok, Err, refl, sym, ap, ◌∙◌, get_or, zero, suc, Bool, false, map}
use Rattle.ring_rules.specs.View.{right_of}
use Rattle.ring_rules.specs.declared.phase.Phase.{Phase}
use Rattle.ring_rules.specs.declared.phase.Phase.TheVariants.{Waiting, Up, Stopped}
use Rattle.queue_core.specs.declared.message.Message.TheVariants as message
use Rattle.queue_core.specs.declared.op.Op.{Op}
use Rattle.ring_names.specs.declared.reason.Reason.{Reason}
use Rattle.ring_rules.specs.declared.event.Event.{Event}
use Rattle.ring_rules.specs.declared.kind.LinkStep.TheVariants as step
use Rattle.registrar.specs.Stands.{IsOwn}
use Rattle.ring_rules.specs.Machine.{Member, World, no_member, member_at, link_at, view_in, oldest}
use Rattle.ring_rules.specs.Step.{size, with_member, moved_to, opened_link, end_out, begun, taker, published, with_current}
use Rattle.ring_rules.specs.Event.{Saying, Own, OfQueue, Kind, Says, Steps, Copying, Changes, Stops, Reads, Tells, kind_of, is_registered_kind, is_stopped, refreshed, at_found, taken_by, effect, at_door, id_of, by_of, op_as, op_done, said, done_as, done_at}
use Rattle.ring_rules.proofs.events.Composed.{refresh_composed}
use Rattle.std.proofs.Math.Seq.{map-set_same}
use Rattle.std.proofs.lemmas.Bool.{false≢true}
use Rattle.std.proofs.lemmas.List.{length-map}
use Rattle.group_view.specs.View.{Group}
use Rattle.ring_rules.specs.declared.phase.Ending.{Ending}

-- the views, and of each member whether it has stopped
pub record Told : Type 0 where
  pub views : List Group
  pub stopped : List Bool

abbrev has_stopped : Member → Bool
has_stopped y = is_stopped y.phase

abbrev pub told : World → Told
told w = record { views = w.views; stopped = map has_stopped w.members }

-- what it says of each member
stopped_at : (ms : List Member) (q : ℕ) → has_stopped (get_or ms q no_member) ≡ get_or (map has_stopped ms) q (has_stopped no_member)
stopped_at [] q = refl
stopped_at (y ∷ ms) zero = refl
stopped_at (y ∷ ms) (suc q) = stopped_at ms q

pub stopped_same : (w w' : World) (q : ℕ) → told w' ≡ told w → is_stopped (member_at w' q).phase ≡ is_stopped (member_at w q).phase
stopped_same w w' q e = stopped_at w'.members q ∙ ap (λ (t : Told). get_or t.stopped q (has_stopped no_member)) e ∙ sym (stopped_at w.members q)

pub many_same : (w w' : World) → told w' ≡ told w → size w' ≡ size w
many_same w w' e = sym (length-map w'.members has_stopped) ∙ ap (λ (t : Told). length t.stopped) e ∙ length-map w.members has_stopped

-- ---- steps

-- a member is written that has stopped where it had
told_member : (w : World) (x : ℕ) (y : Member) → is_stopped y.phase ≡ is_stopped (member_at w x).phase → told (with_member w x y) ≡ told w
told_member w x y f = ap (λ ss. record { views = w.views; stopped = ss }) (map-set_same has_stopped w.members x y no_member f)

-- a member has another view
pub told_refreshed : (w : World) (x v : ℕ) → told (refreshed w x v) ≡ told w
told_refreshed w x v = refresh_composed (λ u. told u ≡ told w) w x v
    (λ k _ h. h)
    (λ u _ h. told_member (record u { links = u.links ++ opened_link u x (right_of (view_in w v) x) ∷ [] }) x (record (member_at u x) { out = Some (length u.links) }) refl ∙ h)
    (told_member w x (moved_to w x v) refl)

-- a link ends, where there is one
pub told_ended : (why : Ending) (w : World) (o : Option ℕ) → told (end_out why w o) ≡ told w
told_ended why w None = refl
told_ended why w (Some o) = refl

-- what happens at one that is found
told_found : (w : World) (o : Option ℕ) (f : ℕ → World) → ((x : ℕ) → told (f x) ≡ told w) → told (at_found o w f) ≡ told w
told_found w None f h = refl
told_found w (Some x) f h = h x

-- a take, the first one too
told_taken : (w : World) (x s : ℕ) (f : Phase) → (member_at w x).phase ≡ f → told (taken_by f w x s) ≡ told w
told_taken w x s Waiting e = told_member w x (begun (size w) (member_at w x) (oldest (link_at w s))) (sym (ap is_stopped e))
told_taken w x s Up e = told_member w x (taker w x s) refl
told_taken w x s Stopped e = refl

-- what a master publishes to its queue, where it may
told_op : (w : World) (x : ℕ) (o : Result Op Reason) → told (op_done w x o) ≡ told w
told_op w x (Ok o) = told_member w x (published x (message.Queue o) (member_at w x)) refl
told_op w x (Err r) = refl

-- what a member says
told_said : (w : World) (x : ℕ) (s : Saying) → told (said w x s) ≡ told w
told_said w x (Own body) = told_member w x (published x (message.Cast body) (member_at w x)) refl
told_said w x (OfQueue q) = told_op w x (op_as w x q)

-- ---- the events of a member by itself

told_done : (w : World) (x : ℕ) (k : Kind) → is_registered_kind k ≡ false → told (done_as w x k) ≡ told w
told_done w x (Says s) h = told_said w x s
told_done w x (Steps step.Put) h = told_found w (member_at w x).out _ (λ o. refl)
told_done w x (Steps step.Take) h = told_found w (member_at w x).current _ (λ s. told_taken w x s (member_at w x).phase refl)
told_done w x (Steps step.TakeEnd) h = told_found w (member_at w x).current _ (λ s. told_member w x (with_current None (member_at w x)) refl)
told_done w x (Steps step.Gain) h = told_found w (member_at w x).out _ (λ o. refl)
told_done w x (Steps step.Pick) h = told_found w (at_door w x) _ (λ s. told_member w x (with_current (Some s) (member_at w x)) refl)
told_done w x (Copying s) h = refl
told_done w x (Changes c) h = absurd (false≢true (sym h))
told_done w x Stops h = absurd (false≢true (sym h))
told_done w x (Reads version) h = told_refreshed w x version
told_done w x (Tells code inner) h = refl

pub told_effect : (w : World) (e : Event) → IsOwn e → told (effect w e) ≡ told w
told_effect w e h = told_found w (id_of w (by_of e)) (done_at w e) (λ x. told_done w x (kind_of e) h)
