-- From what a member holds to every state in which it stands.
use Rattle.std.proofs.Common.{◌≡◌, ℕ, ◌+◌, ◌-◌, ◌<◌, ◌≤◌, false, List, [], length, Option, Some, None, refl, sym, ap, subst, ◌∙◌, ⊎_elim, arith, is_some}
use Rattle.std.specs.Prelude.{option_map}
use Rattle.queue_core.specs.declared.message.Message.{Message}
use Rattle.ring_names.specs.declared.reason.Reason.{Reason}
use Rattle.ring_names.specs.declared.reason.Reason.TheVariants as reason
use Rattle.credit_flow.specs.Link.{oldest as oldest_grant}
use Rattle.ring_rules.specs.declared.event.Event.{Event}
use Rattle.ring_rules.specs.declared.event.Event.TheVariants as event
use Rattle.ring_rules.specs.declared.phase.Phase.TheVariants.{Waiting, Up}
use Rattle.ring_rules.specs.Refusal.{refuse_if, or_else, is_empty}
use Rattle.ring_rules.specs.Machine.{World, member_at, link_at, oldest, view_in, newest}
use Rattle.ring_rules.specs.Step.{size, log_of, put_on as put_in, gain_on, leave_link, opening, current_is}
use Rattle.ring_rules.specs.Event.{is_stopped, on_link, running_refusal, up_refusal, put_refusal, end_refusal, gain_refusal, refusal, at_found, last, id_of, by_of, refresh_refusal, refused_at, done_at, refreshed}
use Rattle.ring_rules.proofs.events.Enabled.{up_later, up_none}
use Rattle.gm_member.specs.declared.taken.Taken.{Taken}
use Rattle.activity.specs.Kept.{got_of}
use Rattle.gm_member.specs.Packets.{PacketById, known_at}
use Rattle.gm_member.specs.Held.{Held, Outgoing, active_refused, up_refused, published_held, put_refused, put_held, packet_on, take_refused, took_held, gain_refused, gained_held, ended_held, stopped_held, pick_refused, picked_held, refresh_refused, refreshed_held}
use Rattle.gm_member.specs.News.{news_of}
use Rattle.gm_member.specs.Stands.{held_in, outgoing_in, WhereItStands, StepsTo, SaysIn, StandsFor, IsPutPacket, IsNextPacket, IsNextGrant, IsNextEnd, taken_in, with_own_link}
use Rattle.gm_member.proofs.Fit.{IsFit, reached_fit}
use Rattle.gm_member.proofs.Facts.{right_row, version_is, refused_there, done_there}
use Rattle.gm_member.proofs.PublishStands.{publish_stands, publish_number, IsPublished, published_there}
use Rattle.gm_member.proofs.PutStands.{put_refuses, put_stands, put_packet, leaving}
use Rattle.gm_member.proofs.TakeStands.{TakesFrom, take_refuses, take_enabled, take_does, take_stands, news_are, end_may}
use Rattle.gm_member.proofs.BeginStands.{BeginsFrom, begin_enabled, begin_does, begin_stands, begin_brings}
use Rattle.gm_member.proofs.GainStands.{gain_refuses, gain_stands}
use Rattle.ring_rules.proofs.events.Refusals.{none_of, up_is, up_or_waits}
use Rattle.gm_member.proofs.StopStands.{stop_stands}
use Rattle.gm_member.proofs.EndStands.{end_stands}
use Rattle.group_view.specs.View.{Group}
use Rattle.ring_rules.specs.OpenLinks.{version_of}
use Rattle.ring_rules.proofs.events.WhatRefuses.{MayLook}
use Rattle.ring_rules.proofs.events.Refusals.{not_less}
use Rattle.ring_rules.proofs.invariants.Happens.{IsGood}
use Rattle.gm_member.proofs.Doors.{view_version}
use Rattle.gm_member.proofs.DoorParts.{up_refused_none}
use Rattle.gm_member.proofs.PickStands.{PicksAt, picks_some, pick_stands, MayPick, may_pick}
use Rattle.gm_member.proofs.OpenDoors.{SeesLinks, sees_links}
use Rattle.gm_member.proofs.RefreshStands.{RowsAreRight, refresh_refuses_too, looks_at}
use Rattle.gm_member.proofs.Refusals.{publish_refusal_is, pick_refusal_is}

-- ---- in one state

-- who hasn't stopped runs
pub running_is : (w : World) (x : ℕ) (later : Option Reason) → is_stopped (member_at w x).phase ≡ false → running_refusal w x later ≡ later
running_is w x later runs = ap (λ b. or_else (refuse_if b reason.Stopped) later) runs

-- an event of the member at x that is enabled, where what it does leaves it with h
steps_there : (w : World) (x : ℕ) (e : Event) (h : Held) → id_of w (by_of e) ≡ Some x → refused_at w e x ≡ None → h ≡ held_in (done_at w e x) x → StepsTo w x e h
steps_there w x e h named en is = (refused_there w x e named ∙ en, is ∙ ap (λ v. held_in v x) (sym (done_there w x e named)))

pub publish_steps : (w : World) (x : ℕ) (m : Message) (e : Event) → IsFit w → 1 ≤ x → x < size w → up_refused (held_in w x) None ≡ None → SaysIn w x (member_at w x).name m e → StepsTo w x e (published_held (held_in w x) m)
publish_steps w x m e f some lt en says =
    let k : IsPublished w x m e = published_there w x (member_at w x).name m e says in
    steps_there w x e (published_held (held_in w x) m) (ap (id_of w) says.by ∙ f.named x some lt) (k.refused ∙ en)
    (publish_stands w x m f some lt ∙ ap (λ v. held_in v x) (sym k.done))

pub put_steps : (w : World) (x : ℕ) → IsFit w → 1 ≤ x → x < size w → put_refused (held_in w x) ≡ None → StepsTo w x (event.Put (member_at w x).name) (put_held (held_in w x))
put_steps w x f some lt e =
    let acts : up_refusal w x (on_link (member_at w x).out reason.NoOutLink (put_refusal w x)) ≡ None = sym (put_refuses w x f) ∙ e in
    steps_there w x (event.Put (member_at w x).name) (put_held (held_in w x)) (f.named x some lt) acts
    (by_out (member_at w x).out refl (up_later w x (on_link (member_at w x).out reason.NoOutLink (put_refusal w x)) acts))
  where
    by_out : (o : Option ℕ) → (member_at w x).out ≡ o → on_link o reason.NoOutLink (put_refusal w x) ≡ None → put_held (held_in w x) ≡ held_in (at_found o w (put_in w x)) x
    by_out None is k = cc
    by_out (Some o) is k = put_stands w x o f some lt is

-- the packet is that of the ring
pub put_is : (w : World) (x : ℕ) (out : Outgoing) → IsFit w → 1 ≤ x → x < size w → put_refused (held_in w x) ≡ None → (held_in w x).out ≡ Some out → IsPutPacket w x (packet_on (held_in w x).view.version (held_in w x).known out)
put_is w x out f some lt en e o is =
    let both : Some (outgoing_in w o) ≡ Some out = sym (ap (option_map (outgoing_in w)) is) ∙ e in
    let same : outgoing_in w o ≡ out = cc in
    subst (λ a. StandsFor w (link_at w o).sending (packet_on (held_in w x).view.version (held_in w x).known a) (leaving w x o)) same (put_packet w x o f some lt (up_refused_none (held_in w x) _ en).0 is)

-- who may take runs, and has a link
has_link : (w : World) (x : ℕ) → take_refused (held_in w x) None ≡ None → (is_stopped (member_at w x).phase ≡ false) × (on_link (member_at w x).current reason.NoCurrentLink (λ _. None) ≡ None)
has_link w x e = none_of (is_stopped (member_at w x).phase) reason.Stopped (on_link (member_at w x).current reason.NoCurrentLink (λ _. None)) (sym (take_refuses w x None) ∙ e)

-- what a member needs in order to take this packet
abbrev pub MayTakeIt : PacketById → Held → Type 0
MayTakeIt k h = (take_refused h None ≡ None) × (k.view ≤ h.view.version)

-- it is up and takes from link s, or waits and takes its first packet there
takes_or_begins : (w : World) (x : ℕ) (k : PacketById) (P : Type 0) → IsFit w → 1 ≤ x → x < size w → MayTakeIt k (held_in w x) → IsNextPacket w x k
    → ((s : ℕ) → TakesFrom w x s → StandsFor w (link_at w s).had k (oldest (link_at w s)) → P)
    → ((s : ℕ) → BeginsFrom w x s → StandsFor w (link_at w s).had k (oldest (link_at w s)) → P) → P
takes_or_begins w x k P f some lt e n takes begins = by_current (member_at w x).current refl may.1
  where
    may : (is_stopped (member_at w x).phase ≡ false) × (on_link (member_at w x).current reason.NoCurrentLink (λ _. None) ≡ None)
    may = has_link w x e.0

    by_current : (c : Option ℕ) → (member_at w x).current ≡ c → on_link c reason.NoCurrentLink (λ _. None) ≡ None → P
    by_current None is m = cc
    by_current (Some s) is m =
        let version : (oldest (link_at w s)).version ≤ (member_at w x).version = omega (arith, e.1, version_is w x f, (n s is).1.view) in
        ⊎_elim
        (λ (up : (member_at w x).phase ≡ Up). takes s (record { some = some; is_member = lt; up = up; current = is; has = (n s is).0; version = version }) (n s is).1)
        (λ (waits : (member_at w x).phase ≡ Waiting). begins s (record { some = some; is_member = lt; waits = waits; current = is; has = (n s is).0; version = version }) (n s is).1)
        (up_or_waits (member_at w x).phase may.0)

pub take_steps : (w : World) (x : ℕ) (k : PacketById) → IsFit w → 1 ≤ x → x < size w → MayTakeIt k (held_in w x) → IsNextPacket w x k → StepsTo w x (event.Take (member_at w x).name) (took_held (held_in w x) k)
take_steps w x k f some lt e n = takes_or_begins w x k (StepsTo w x (event.Take (member_at w x).name) (took_held (held_in w x) k)) f some lt e n
    (λ s t same. (take_enabled w x s f t, take_stands w x s k f t same.lines ∙ ap (λ v. held_in v x) (sym (take_does w x s f t))))
    (λ s b same. (begin_enabled w x s f b, begin_stands w x s k f b same.lines ∙ ap (λ v. held_in v x) (sym (begin_does w x s f b))))

pub gain_steps : (w : World) (x amount : ℕ) → IsFit w → 1 ≤ x → x < size w → gain_refused (held_in w x) ≡ None → IsNextGrant w x amount → StepsTo w x (event.Gain (member_at w x).name) (gained_held (held_in w x) amount)
gain_steps w x amount f some lt e n =
    let later : Option Reason = on_link (member_at w x).out reason.NoOutLink (λ _. None) in
    let acts = up_none w x later (sym (gain_refuses w x) ∙ e) in
    steps_there w x (event.Gain (member_at w x).name) (gained_held (held_in w x) amount) (f.named x some lt)
    (up_is w x (on_link (member_at w x).out reason.NoOutLink (gain_refusal w)) acts.0 ∙ refused (member_at w x).out n acts.1)
    (by_out (member_at w x).out refl acts.1)
  where
    refused : (c : Option ℕ) → ((o : ℕ) → c ≡ Some o → (is_empty (link_at w o).flow.grants ≡ false) × (oldest_grant (link_at w o).flow.grants ≡ amount)) → on_link c reason.NoOutLink (λ _. None) ≡ None → on_link c reason.NoOutLink (gain_refusal w) ≡ None
    refused None m k = k
    refused (Some o) m k = ap (λ b. refuse_if b reason.NoGrant) (m o refl).0

    by_out : (c : Option ℕ) → (member_at w x).out ≡ c → on_link c reason.NoOutLink (λ _. None) ≡ None → gained_held (held_in w x) amount ≡ held_in (at_found c w (gain_on w)) x
    by_out None is k = cc
    by_out (Some o) is k = ap (gained_held (held_in w x)) (sym (n o is).1) ∙ gain_stands w x o f is

pub end_steps : (w : World) (x : ℕ) → IsFit w → 1 ≤ x → x < size w → take_refused (held_in w x) None ≡ None → IsNextEnd w x → StepsTo w x (event.TakeEnd (member_at w x).name) (ended_held (held_in w x))
end_steps w x f some lt e n =
    let may = has_link w x e in
    steps_there w x (event.TakeEnd (member_at w x).name) (ended_held (held_in w x)) (f.named x some lt)
    (running_is w x (on_link (member_at w x).current reason.NoCurrentLink (end_refusal w)) may.0 ∙ refused (member_at w x).current n may.1)
    (by_current (member_at w x).current refl may.1)
  where
    refused : (c : Option ℕ) → ((s : ℕ) → c ≡ Some s → ((link_at w s).packets ≡ []) × ((link_at w s).ending ≡ None → ⊥)) → on_link c reason.NoCurrentLink (λ _. None) ≡ None → on_link c reason.NoCurrentLink (end_refusal w) ≡ None
    refused None m k = k
    refused (Some s) m k = end_may w s (m s refl).0 (m s refl).1

    by_current : (c : Option ℕ) → (member_at w x).current ≡ c → on_link c reason.NoCurrentLink (λ _. None) ≡ None → ended_held (held_in w x) ≡ held_in (at_found c w (leave_link w x)) x
    by_current None is k = cc
    by_current (Some s) is k = end_stands w x s f lt is

pub stop_steps : (w : World) (x : ℕ) → IsFit w → 1 ≤ x → x < size w → active_refused (held_in w x) None ≡ None → StepsTo w x (event.Stop (member_at w x).name) (stopped_held (held_in w x))
stop_steps w x f some lt e = steps_there w x (event.Stop (member_at w x).name) (stopped_held (held_in w x)) (f.named x some lt) e (stop_stands w x f lt)

pub pick_steps : (w : World) (x : ℕ) → IsFit w → 1 ≤ x → x < size w → pick_refused (held_in w x) ≡ None → StepsTo w x (event.Pick (member_at w x).name) (picked_held (held_in w x))
pick_steps w x f some lt e =
    let p : MayPick w x = may_pick w x e in
    let k : PicksAt w x p.place = picks_some w x p.place f.good p.none p.first in (
      sym (pick_refusal_is w x f some lt) ∙ e,
      pick_stands w x p.place lt f.good p.none p.first
          ∙ sym (ap (λ o. held_in (at_found o w (λ t. current_is w x (Some t))) x) k.found)
          ∙ ap (λ v. held_in v x) (sym (done_there w x (event.Pick (member_at w x).name) (f.named x some lt))),
    )

-- a refresh that the member doesn't refuse, of a view that is there
may_look : (w : World) (x v : ℕ) → x < size w → IsGood w → v ≤ newest w → refresh_refused (held_in w x) v ≡ None → MayLook w x v
may_look w x v l h upto e =
    let u = up_refused_none (held_in w x) _ e in
    let own : (view_in w (version_of w x)).version ≡ version_of w x = view_version w (version_of w x) h (h.inv.is_ring.held x) in
    let later : (view_in w (version_of w x)).version ≤ v = not_less v (view_in w (version_of w x)).version _ u.2 in
    record { is_member = l; up = u.0; later = omega arith; upto = upto }

-- what is refused of none
none_some : {A B : Type 0} (o : Option A) (p : Option B) → o ≡ None → is_some o ≡ is_some p → p ≡ None
none_some o None e k = refl
none_some None (Some b) e k = cc
none_some (Some a) p e k = cc

-- the member after a refresh, with the link that it opens to itself
abbrev pub refreshed_alone : Group → Held → Held
refreshed_alone v h = with_own_link h v (refreshed_held h v)

-- it stands where the ring's leaves it
pub refresh_alone : (w : World) (x n : ℕ) (v : Group) → SeesLinks w x n → RowsAreRight w x → v ≡ view_in w n → refreshed_alone v (held_in w x) ≡ held_in (refreshed w x n) x
refresh_alone w x n v k right is =
    ap (λ (g : Group). with_own_link (held_in w x) (record g { version = v.version }) (refreshed_held (held_in w x) g)) is
    ∙ ap (λ i. with_own_link (held_in w x) (record (view_in w n) { version = i }) (refreshed_held (held_in w x) (view_in w n))) (ap (λ (g : Group). g.version) is ∙ k.numbered)
    ∙ looks_at w x n k right

-- a view that is one of the ring's
abbrev pub IsThere : World → Group → Type 0
IsThere w v = (v.version ≤ newest w) × (v ≡ view_in w v.version)

pub refresh_steps : (w : World) (x : ℕ) (v : Group) → IsFit w → 1 ≤ x → x < size w → refresh_refused (held_in w x) v.version ≡ None → IsThere w v → StepsTo w x (event.Refresh (member_at w x).name v.version) (refreshed_alone v (held_in w x))
refresh_steps w x v f some lt e there =
    steps_there w x (event.Refresh (member_at w x).name v.version) (refreshed_alone v (held_in w x)) (f.named x some lt)
    (none_some (refresh_refused (held_in w x) v.version) (up_refusal w x (refresh_refusal w x v.version)) e (refresh_refuses_too w x v.version f.good there.0))
    (refresh_alone w x v.version v (sees_links w x v.version (may_look w x v.version lt f.good there.0 e) f.good) (λ p. right_row w x p f) there.1)

-- ---- in every state of every run

-- what holds of a member in each state in which all that is fit holds
pub lifts : (h : Held) (P : World → ℕ → Held → Type 0) → ((w : World) (x : ℕ) → IsFit w → 1 ≤ x → x < size w → P w x (held_in w x)) → WhereItStands h (λ w x. P w x h)
lifts h P each credit names events x are r some lt s =
    let w : World = last (opening credit names) events in
    subst (P w x) (sym s) (each w x (reached_fit credit names events are r) some lt)

-- a call of a member of which this holds, and which leaves it with what the step makes of it, is the event where P holds
pub steps_where : (R : Held → Type 0) (P : World → ℕ → Type 0) (event : List ℕ → Event) (step : Held → Held)
    → ((w : World) (x : ℕ) → IsFit w → 1 ≤ x → x < size w → R (held_in w x) → P w x → StepsTo w x (event (member_at w x).name) (step (held_in w x)))
    → (h h' : Held) → R h → h' ≡ step h → WhereItStands h (λ w x. P w x → StepsTo w x (event h.name) h')
steps_where R P event step each h h' en is credit names events x are r some lt s p =
    let t : StepsTo (last (opening credit names) events) x (event h.name) (step h) = lifts h (λ w y k. R k → P w y → StepsTo w y (event k.name) (step k)) each credit names events x are r some lt s en p in
    (t.0, is ∙ t.1)

-- and in every state
pub steps_lift : (R : Held → Type 0) (event : List ℕ → Event) (step : Held → Held)
    → ((w : World) (x : ℕ) → IsFit w → 1 ≤ x → x < size w → R (held_in w x) → StepsTo w x (event (member_at w x).name) (step (held_in w x)))
    → (h h' : Held) → R h → h' ≡ step h → WhereItStands h (λ w x. StepsTo w x (event h.name) h')
steps_lift R event step each h h' en is credit names events x are r some lt s =
    steps_where R (λ _ _. Unit {0}) event step (λ w y f a b k _. each w y f a b k) h h' en is credit names events x are r some lt s tt

-- what the ring refuses where P holds, a call refuses that is refused for the first failing condition
pub refuses_where : {A : Type 0} (failing : Held → Option Reason) (P : World → ℕ → Type 0) (event : List ℕ → Event) (a : A) (answer : Reason → A)
    → ((w : World) (x : ℕ) → IsFit w → 1 ≤ x → x < size w → P w x → failing (held_in w x) ≡ refusal w (event (member_at w x).name))
    → (h : Held) → ((r : Reason) → failing h ≡ Some r → a ≡ answer r) → WhereItStands h (λ w x. P w x → (r : Reason) → refusal w (event h.name) ≡ Some r → a ≡ answer r)
refuses_where failing P event a answer each h refused credit names events x are r some lt s p q e =
    refused q (lifts h (λ w y k. P w y → failing k ≡ refusal w (event k.name)) each credit names events x are r some lt s p ∙ e)

-- and in every state
pub refuses_too : {A : Type 0} (failing : Held → Option Reason) (event : List ℕ → Event) (a : A) (answer : Reason → A)
    → ((w : World) (x : ℕ) → IsFit w → 1 ≤ x → x < size w → failing (held_in w x) ≡ refusal w (event (member_at w x).name))
    → (h : Held) → ((r : Reason) → failing h ≡ Some r → a ≡ answer r) → WhereItStands h (λ w x. (r : Reason) → refusal w (event h.name) ≡ Some r → a ≡ answer r)
refuses_too failing event a answer each h refused credit names events x are r some lt s =
    refuses_where failing (λ _ _. Unit {0}) event a answer (λ w y f b l _. each w y f b l) h refused credit names events x are r some lt s tt

-- a message is published by each event that says it
pub publish_lifts : (h h' : Held) (m : Message) → up_refused h None ≡ None → h' ≡ published_held h m → WhereItStands h (λ w x. (e : Event) → SaysIn w x h.name m e → StepsTo w x e h')
publish_lifts h h' m en is credit names events x are r some lt s e says =
    let t : StepsTo (last (opening credit names) events) x e (published_held h m) =
    lifts h (λ w y k. up_refused k None ≡ None → SaysIn w y k.name m e → StepsTo w y e (published_held k m)) (λ w y f a b. publish_steps w y m e f a b) credit names events x are r some lt s en says in
    (t.0, is ∙ t.1)

-- and where the ring refuses one, it is refused
pub publish_refuses : {A : Type 0} (h : Held) (m : Message) (a : A) (answer : Reason → A) → ((r : Reason) → up_refused h None ≡ Some r → a ≡ answer r)
    → WhereItStands h (λ w x. (e : Event) → SaysIn w x h.name m e → (r : Reason) → refusal w e ≡ Some r → a ≡ answer r)
publish_refuses h m a answer refused credit names events x are r some lt s e says q is =
    refused q (lifts h (λ w y k. SaysIn w y k.name m e → up_refused k None ≡ refusal w e) (λ w y f a b. publish_refusal_is w y m e f a b) credit names events x are r some lt s says ∙ is)

pub number_lifts : (h : Held) (n : ℕ) → n ≡ got_of (known_at h.known (h.id - 1)) + 1 → WhereItStands h (λ w x. n ≡ length (log_of w x) + 1)
number_lifts h n e credit names events x are r some lt s =
    e ∙ lifts h (λ w y k. got_of (known_at k.known (k.id - 1)) + 1 ≡ length (log_of w y) + 1) publish_number credit names events x are r some lt s

pub put_packet_lifts : (h : Held) (o : Outgoing) → put_refused h ≡ None → h.out ≡ Some o → WhereItStands h (λ w x. IsPutPacket w x (packet_on h.view.version h.known o))
put_packet_lifts h o en e credit names events x are r some lt s =
    lifts h (λ w y k. put_refused k ≡ None → k.out ≡ Some o → IsPutPacket w y (packet_on k.view.version k.known o)) (λ w y f a b. put_is w y o f a b) credit names events x are r some lt s en e

news_there : (w : World) (x : ℕ) (k : PacketById) → IsFit w → 1 ≤ x → x < size w → MayTakeIt k (held_in w x) → IsNextPacket w x k → news_of (held_in w x) k ≡ taken_in w (member_at w x).current x
news_there w x k f some lt e n = takes_or_begins w x k (news_of (held_in w x) k ≡ taken_in w (member_at w x).current x) f some lt e n
    (λ s t same. news_are w x s k f t same)
    (λ s b same. begin_brings w x s k b)

pub news_lift : (h : Held) (k : PacketById) (t : List Taken) → MayTakeIt k h → t ≡ news_of h k → WhereItStands h (λ w x. IsNextPacket w x k → t ≡ taken_in w (member_at w x).current x)
news_lift h k t may e credit names events x are r some lt s n =
    e ∙ lifts h (λ w y g. MayTakeIt k g → IsNextPacket w y k → news_of g k ≡ taken_in w (member_at w y).current y) (λ w y f a b. news_there w y k f a b) credit names events x are r some lt s may n

-- a refresh to one of the ring's views, with the link that a member that is alone opens to itself
pub refresh_lifts : (h h' : Held) (v : Group) → refresh_refused h v.version ≡ None → h' ≡ refreshed_held h v
    → WhereItStands h (λ w x. v.version ≤ newest w → v ≡ view_in w v.version → StepsTo w x (event.Refresh h.name v.version) (with_own_link h v h'))
refresh_lifts h h' v en e credit names events x are r some lt s upto is =
    steps_where (λ k. refresh_refused k v.version ≡ None) (λ w _. IsThere w v) (λ name. event.Refresh name v.version) (refreshed_alone v) (λ w y f a b. refresh_steps w y v f a b)
    h (with_own_link h v h') en (ap (with_own_link h v) e) credit names events x are r some lt s (upto, is)
