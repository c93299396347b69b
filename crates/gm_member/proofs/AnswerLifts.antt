-- A member that is answered the newest view, or the one that its mark, its erasure, its registration or its admission makes.
use Rattle.std.proofs.Common.{◌≡◌, ℕ, ◌+◌, ◌<◌, ◌≤◌, Bool, true, false, cond, nat_eq, nat_lt, List, [], ◌∷◌, ◌++◌, Some, None, refl, sym, ap, subst, ◌∙◌, arith}
use Rattle.std.proofs.lemmas.List.{append-nil}
use Rattle.std.proofs.lemmas.Bool.{le-ltb}
use Rattle.ring_names.specs.declared.numbers.MemberId.{MemberId}
use Rattle.ring_names.specs.declared.reason.Reason.{Reason}
use Rattle.ring_names.specs.declared.reason.Reason.TheVariants as reason
use Rattle.group_view.specs.View.{Group}
use Rattle.group_view.specs.declared.request.Answer.{Answer}
use Rattle.group_view.specs.declared.request.Answer.TheVariants.{Viewed, Admitted}
use Rattle.ring_rules.specs.declared.phase.Phase.{Phase}
use Rattle.ring_rules.specs.declared.phase.Phase.TheVariants.{Waiting, Up, Stopped}
use Rattle.ring_rules.specs.declared.event.Event.{Event}
use Rattle.ring_rules.specs.declared.event.Event.TheVariants as event
use Rattle.ring_rules.specs.Refusal.{or_else, refuse_if}
use Rattle.ring_rules.specs.Machine.{World, member_at, view_in, newest, is_waiting}
use Rattle.ring_rules.specs.View.{right_of}
use Rattle.ring_rules.specs.Step.{size, opening, with_view, admitted_view, come_to}
use Rattle.ring_rules.specs.Event.{is_stopped, id_of, erased_view, synced_view, refreshed, refusal, effect, last}
use Rattle.ring_rules.proofs.events.WhatRefuses.{MayMark, MayErase, MaySync}
use Rattle.ring_rules.proofs.rings.Rounds.{nat_eq-not}
use Rattle.ring_rules.proofs.invariants.KeptAdmit.{CanJoin, right_of_m}
use Rattle.ring_rules.proofs.invariants.Happens.{IsGood, mark_good, erase_good, sync_there, sync_good, newer_look}
use Rattle.gm_member.specs.View.{is_up_where}
use Rattle.gm_member.specs.Held.{Held, Incoming, fresh_in, sends_to, answered_held, refresh_refused, refreshed_held}
use Rattle.gm_member.specs.Stands.{held_in, WhereItStands, Stands, StepsTo, IsMarkedView, IsErasedView, IsRegisteredView, IsAdmittedView, with_own_link}
use Rattle.gm_member.specs.Questions.{OfView}
use Rattle.gm_member.proofs.Doors.{view_version}
use Rattle.gm_member.proofs.Facts.{right_row, done_there}
use Rattle.gm_member.proofs.Fit.{IsFit, reached_fit}
use Rattle.gm_member.proofs.OpenDoors.{SeesLinks, sees_links}
use Rattle.gm_member.proofs.RefreshStands.{RowsAreRight}
use Rattle.gm_member.proofs.AdmitStands.{admit_can, come_held, come_sees, come_right}
use Rattle.gm_member.proofs.Lifts.{refreshed_alone, refresh_alone, lifts, refresh_lifts}
use Rattle.gm_member.proofs.MarkStands.{view_held, view_newest, mark_view, mark_may, mark_is, erase_may, erase_is, register_may, register_is}

-- who has a question open is up
pub asks_up : (asked : Bool) (phase : Phase) → asked ≡ true → is_up_where asked phase ≡ true → phase ≡ Up
asks_up true Waiting a e = cc
asks_up true Up a e = refl
asks_up true Stopped a e = cc
asks_up false phase a e = cc

-- once its question is closed it may read a view that isn't older than its own
answered_enabled : (h : Held) (version : ℕ) → h.phase ≡ Up → nat_lt version h.view.version ≡ false → refresh_refused (answered_held h) version ≡ None
answered_enabled h version up newer =
    let older : Reason = reason.ViewOutOfRange version h.view.version h.view.version in
    ap (λ p. or_else (refuse_if (is_stopped p) reason.Stopped) (or_else (refuse_if (is_waiting p) reason.Waiting) (refuse_if (nat_lt version h.view.version) older))) up
    ∙ ap (λ b. refuse_if b older) newer

-- the newest view is read as the ring's event
pub answer_lifts : (h h' : Held) (v : Group) → h.phase ≡ Up → h' ≡ refreshed_held (answered_held h) v
    → WhereItStands (answered_held h) (λ w x. v ≡ view_in w (newest w) → StepsTo w x (event.Refresh h.name v.version) (with_own_link h v h'))
answer_lifts h h' v up e credit names events x are r some l s is =
    let w : World = last (opening credit names) events in
    let fit : IsFit w = reached_fit credit names events are r in
    let numbered : v.version ≡ newest w = ap (λ (u : Group). u.version) is ∙ view_version w (newest w) fit.good (omega arith) in
    let within : (member_at w x).version ≤ newest w = fit.good.inv.is_ring.held x in
    let own : h.view.version ≡ (member_at w x).version = ap (λ (k : Held). k.view.version) s ∙ view_version w (member_at w x).version fit.good within in
    let newer : nat_lt v.version h.view.version ≡ false = le-ltb v.version h.view.version (omega (arith, numbered, within, own)) in
    refresh_lifts (answered_held h) h' v (answered_enabled h v.version up newer) e credit names events x are r some l s
    (omega (arith, numbered)) (is ∙ ap (view_in w) (sym numbered))

-- ---- a view that an event at another makes of the newest

-- it is read as the event, in the state that the event makes of it before the look
follow_stands : (w u : World) (x : ℕ) (v : Group) (e : Event) → held_in w x ≡ held_in u x → SeesLinks u x (newest w + 1) → RowsAreRight u x → v ≡ view_in u (newest w + 1) → effect w e ≡ refreshed u x (newest w + 1)
    → refreshed_alone v (held_in w x) ≡ held_in (effect w e) x
follow_stands w u x v e held sees right is done =
    ap (refreshed_alone v) held ∙ refresh_alone u x (newest w + 1) v sees right is ∙ ap (λ t. held_in t x) (sym done)

-- where the event adds a view alone
view_stands : (w : World) (x : ℕ) (v g : Group) (e : Event) → IsFit w → x < size w → (member_at w x).phase ≡ Up → IsGood (with_view w g) → v ≡ g → effect w e ≡ refreshed (with_view w g) x (newest w + 1)
    → refreshed_alone v (held_in w x) ≡ held_in (effect w e) x
view_stands w x v g e f lt up good is done =
    follow_stands w (with_view w g) x v e (view_held w g x f.good)
    (sees_links (with_view w g) x (newest w + 1) (newer_look w x g lt up f.good.inv.is_ring) good) (λ p. right_row w x p f) (is ∙ sym (view_newest w g f.good)) done

-- wherever nothing refuses a member the event, and the view is what it makes, this is so
abbrev IsReadAs : (List ℕ → List ℕ → Event) → (World → ℕ → List ℕ → Group → Type 0) → Group → Type 0
IsReadAs event IsMade v = (w : World) (x : ℕ) (other : List ℕ) → IsFit w → 1 ≤ x → x < size w → IsMade w x other v → refusal w (event (member_at w x).name other) ≡ None
    → refreshed_alone v (held_in w x) ≡ held_in (effect w (event (member_at w x).name other)) x

follow_lifts : (event : List ℕ → List ℕ → Event) (IsMade : World → ℕ → List ℕ → Group → Type 0) (h h' : Held) (v : Group) → IsReadAs event IsMade v → h' ≡ refreshed_held (answered_held h) v
    → WhereItStands (answered_held h) (λ w x. (other : List ℕ) → IsMade w x other v → refusal w (event h.name other) ≡ None → Stands (effect w (event h.name other)) x (with_own_link h v h'))
follow_lifts event IsMade h h' v each e credit names events x are r some lt s other made enabled =
    ap (with_own_link h v) e
    ∙ lifts (answered_held h) (λ w y k. IsMade w y other v → refusal w (event k.name other) ≡ None → refreshed_alone v k ≡ held_in (effect w (event k.name other)) y) (λ w y f a b. each w y other f a b)
    credit names events x are r some lt s made enabled

-- so a mark's is, an erasure's, and a registration's
mark_read : (v : Group) → IsReadAs event.Mark (λ w _. IsMarkedView w) v
mark_read v w x dead f some lt (d, there, is) r =
    let named : id_of w (member_at w x).name ≡ Some x = f.named x some lt in
    let m : MayMark w x d = mark_may w x d (member_at w x).name dead named there r in
    view_stands w x v (mark_view w d) (event.Mark (member_at w x).name dead) f lt m.up (mark_good w d m.rests m.lives f.good) is (mark_is w x d (member_at w x).name dead named there)

erase_read : (v : Group) → IsReadAs event.Erase (λ w _. IsErasedView w) v
erase_read v w x origin f some lt (p, there, is) r =
    let named : id_of w (member_at w x).name ≡ Some x = f.named x some lt in
    let m : MayErase w x p = erase_may w x p (member_at w x).name origin named there r in
    view_stands w x v (erased_view w p) (event.Erase (member_at w x).name origin) f lt m.up (erase_good w p m.dead f.good) is (erase_is w x p (member_at w x).name origin named there)

register_read : (v : Group) → IsReadAs (λ by other. event.Synced by) (λ w x _. IsRegisteredView w x) v
register_read v w x other f some lt is r =
    let named : id_of w (member_at w x).name ≡ Some x = f.named x some lt in
    let m : MaySync w x = register_may w x (member_at w x).name named r in
    view_stands w x v (synced_view w x) (event.Synced (member_at w x).name) f lt m.up (sync_good w x (sync_there w x m f.good) f.good) is (register_is w x (member_at w x).name named)

pub mark_lifts : (h h' : Held) (v : Group) → h' ≡ refreshed_held (answered_held h) v
    → WhereItStands (answered_held h) (λ w x. (dead : List ℕ) → IsMarkedView w dead v → refusal w (event.Mark h.name dead) ≡ None → Stands (effect w (event.Mark h.name dead)) x (with_own_link h v h'))
mark_lifts h h' v = follow_lifts event.Mark (λ w _. IsMarkedView w) h h' v (mark_read v)

pub erase_lifts : (h h' : Held) (v : Group) → h' ≡ refreshed_held (answered_held h) v
    → WhereItStands (answered_held h) (λ w x. (origin : List ℕ) → IsErasedView w origin v → refusal w (event.Erase h.name origin) ≡ None → Stands (effect w (event.Erase h.name origin)) x (with_own_link h v h'))
erase_lifts h h' v = follow_lifts event.Erase (λ w _. IsErasedView w) h h' v (erase_read v)

pub register_lifts : (h h' : Held) (v : Group) → h' ≡ refreshed_held (answered_held h) v
    → WhereItStands (answered_held h) (λ w x. IsRegisteredView w x v → refusal w (event.Synced h.name) ≡ None → Stands (effect w (event.Synced h.name)) x (with_own_link h v h'))
register_lifts h h' v e credit names events x are r some lt s =
    follow_lifts (λ by other. event.Synced by) (λ w y _. IsRegisteredView w y) h h' v (register_read v) e credit names events x are r some lt s []

-- ---- an admission

-- nothing opens to the member itself where another is its right neighbour
not_alone : (h : Held) (v : Group) (h' : Held) → nat_eq (right_of v h.id) h.id ≡ false → with_own_link h v h' ≡ h'
not_alone h v h' e =
    ap (λ b. record h' { door = h'.door ++ cond (sends_to h.out (right_of v h.id)) [] (cond b (fresh_in h.initial h.more h.id v.version ∷ []) []) }) e
    ∙ ap (λ ls. record h' { door = h'.door ++ ls }) (either (sends_to h.out (right_of v h.id)))
    ∙ ap (λ ls. record h' { door = ls }) (append-nil h'.door)
  where
    either : (b : Bool) → ◌≡◌ {A = List Incoming} (cond b [] []) []
    either true = refl
    either false = refl

-- the view is read as the admission
admit_read : (v : Group) → IsReadAs event.Admit IsAdmittedView v
admit_read v w x newcomer f some lt made r =
    let named : id_of w (member_at w x).name ≡ Some x = f.named x some lt in
    let j : CanJoin w x = admit_can w x newcomer f some lt r in
    follow_stands w (come_to w x newcomer) x v (event.Admit (member_at w x).name newcomer) (come_held w x newcomer x lt f.good) (come_sees w x newcomer j f.good)
    (come_right w x newcomer x lt (λ p. right_row w x p f)) (made ∙ sym (view_newest w (admitted_view w x newcomer) f.good)) (done_there w x (event.Admit (member_at w x).name newcomer) named)

-- and who comes is then the right neighbour
admit_beside : (v : Group) (w : World) (x : ℕ) (newcomer : List ℕ) → IsFit w → 1 ≤ x → x < size w → IsAdmittedView w x newcomer v → refusal w (event.Admit (member_at w x).name newcomer) ≡ None → nat_eq (right_of v x) x ≡ false
admit_beside v w x newcomer f some lt made r =
    let beside : right_of v x ≡ size w = ap (λ (g : Group). right_of g x) made ∙ right_of_m w x newcomer (admit_can w x newcomer f some lt r) in
    nat_eq-not (right_of v x) x (λ (is : right_of v x ≡ x). omega (arith, beside, is, lt))

pub admit_lifts : (h h' : Held) (v : Group) → h' ≡ refreshed_held (answered_held h) v
    → WhereItStands (answered_held h) (λ w x. (newcomer : List ℕ) → IsAdmittedView w x newcomer v → refusal w (event.Admit h.name newcomer) ≡ None → Stands (effect w (event.Admit h.name newcomer)) x h')
admit_lifts h h' v e credit names events x are r some lt s newcomer made enabled =
    sym (not_alone h v h'
    (lifts (answered_held h) (λ w y k. IsAdmittedView w y newcomer v → refusal w (event.Admit k.name newcomer) ≡ None → nat_eq (right_of v k.id) k.id ≡ false) (λ w y f a b. admit_beside v w y newcomer f a b)
    credit names events x are r some lt s made enabled))
    ∙ follow_lifts event.Admit IsAdmittedView h h' v (admit_read v) e credit names events x are r some lt s newcomer made enabled

-- ---- either answer

-- what holds of the view that was answered
pub of_view : {I : Type 0} (a : Answer I) (v : Group) (P : Group → Type 0) → a ≡ Viewed v → P v → OfView a P
of_view a v P e p = subst (λ b. OfView b P) (sym e) p

-- the same of one in which a member is admitted
pub of_admitted : {I : Type 0} (a : Answer I) (v : Group) (id : MemberId) (P : Group → Type 0) → a ≡ Admitted v id → P v → OfView a P
of_admitted a v id P e p = subst (λ b. OfView b P) (sym e) p
