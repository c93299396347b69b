-- Why a member's refresh, mark, erasure or registration, and what it tells a client, is refused: as the ring's.
use Rattle.std.proofs.Common.{◌≡◌, ℕ, ◌+◌, ◌-◌, ◌<◌, ◌≤◌, Bool, true, false, cond, nat_eq, nat_lt, nat_le, List, [], ◌∷◌, ◌++◌, map, Option, Some, None, is_some, refl, sym, ap, ◌∙◌, arith, not}
use Rattle.std.specs.Prelude.{◌&&◌, ◌||◌, option_map}
use Rattle.std.specs.List.{filter}
use Rattle.std.proofs.Math.Bool.{or-false}
use Rattle.ring_names.specs.declared.reason.Reason.{Reason}
use Rattle.ring_names.specs.declared.reason.Reason.TheVariants as reason
use Rattle.ring_names.specs.declared.numbers.CreditSpec.{CreditSpec}
use Rattle.ordered_link.specs.declared.ring.RingIn.{RingIn}
use Rattle.activity.specs.declared.packet.Load.{Load}
use Rattle.group_view.specs.Link.{is_ring}
use Rattle.group_view.specs.View.{Group, is_live}
use Rattle.group_view.specs.Since.{view_at}
use Rattle.ring_rules.specs.Refusal.{refuse_if, or_else}
use Rattle.ring_rules.specs.declared.phase.Phase.{Phase}
use Rattle.ring_rules.specs.declared.phase.Phase.TheVariants.{Waiting, Up, Stopped}
use Rattle.ring_rules.specs.declared.event.Event.TheVariants.{Mark, Erase, Synced}
use Rattle.ring_rules.specs.declared.kind.ViewChange.TheVariants as change
use Rattle.ring_rules.specs.declared.kind.Asking.TheVariants as asking
use Rattle.ring_rules.specs.Kind.{Own, OfQueue, Publishes, Does, Saying, Says, Changes, Reads, Tells}
use Rattle.ring_rules.specs.declared.event.Client.{Client}
use Rattle.ring_rules.specs.declared.event.Client.TheVariants as client
use Rattle.ring_rules.specs.Machine.{World, member_at, newest, is_waiting}
use Rattle.ring_rules.specs.Step.{size, log_of}
use Rattle.ring_rules.specs.Lawful.{row_of}
use Rattle.ring_rules.specs.Event.{id_of, of_member, is_stopped, is_told, event_of, up_refusal, saying_refusal, doing_refusal, refused_as, at_door}
use Rattle.ring_rules.specs.Event as event
use Rattle.ring_rules.proofs.invariants.Happens.{IsGood}
use Rattle.ring_rules.proofs.events.Refusals.{id_within, cond_or, up_is}
use Rattle.registrar.specs.declared.waiting_link.WaitingLink.{WaitingLink}
use Rattle.registrar.specs.Registry.{Registry, is_known, newest as newest_view}
use Rattle.registrar.specs.Asked.{mark_refusal, erase_refusal, synced_refusal, is_ring_from, waits_from, since_in, is_left, is_beside}
use Rattle.registrar.specs.Stands.{StandsIn}
use Rattle.registrar.proofs.Judged.{mark_judged, erase_judged, synced_judged}
use Rattle.activity.specs.Kept.{Kept, got_of}
use Rattle.gm_member.specs.Packets.{known_at}
use Rattle.gm_member.specs.Held.{Held, up_refused, active_refused, first_at_door}
use Rattle.gm_member.specs.declared.questions.Ask.{Ask}
use Rattle.gm_member.specs.declared.questions.Ask.TheVariants as ask
use Rattle.gm_member.specs.Questions.{has_link}
use Rattle.gm_member.specs.Stands.{kept_by, incoming_in, held_in}
use Rattle.gm_member.proofs.Fit.{IsFit}
use Rattle.gm_member.proofs.Knowing.{got_kept}
use Rattle.gm_member.proofs.Facts.{refused_there, held_known, place_few, right_row}
use Rattle.gm_member.proofs.Doors.{view_version}
use Rattle.gm_member.proofs.PickStands.{first_is}
use Rattle.ring_parties.specs.declared.party.Party.{Party}
use Rattle.ring_parties.specs.Keeps.{keeps_of}
use Rattle.ring_parties.specs.Parties.{Shown, Keeps, Deposit, Parties, node_at, parties, deposit_shown}
use Rattle.ring_parties.specs.Standing.{MemberStands, Stand}
use Rattle.ring_parties.proofs.events.Says.{refused_same}
use Rattle.ring_parties.specs.Acting.{alone_refused, look_refused, newest_of, waits_at}
use Rattle.ring_parties.proofs.work.Lawful.{IsLawfulAt}
use Rattle.ring_parties.proofs.events.OneEvent.{held_but_door}
use Rattle.ring_parties.proofs.events.Marking.{held_whole, newest_is}
use Rattle.ring_parties.proofs.lists.Truth.{made_some}
use Rattle.group_view.specs.Ring.{is_in}
use Rattle.ring_parties.specs.Looking.{ask_refused, view_for}
use Rattle.ring_parties.specs.Refused.{waiting_link_of, office_of, mark_refused, erase_refused, synced_refused, admission_refused, client_refused, telling_refused}

-- ---- a refresh

-- the version of the newest view
pub newest_version : (initial : ℕ) (w : World) (q : Parties) → IsGood w → Stand initial w q → (newest_of q).version ≡ newest w
newest_version initial w q h st = ap (λ (g : Group). g.version) (newest_is w q st.stand.views) ∙ view_version w (newest w) h (omega arith)

pub look_refuses : (credit : CreditSpec) (w : World) (q : Parties) (x v : ℕ) → IsLawfulAt credit w → Stand credit.initial w q → 1 ≤ x → x < size w → look_refused (newest_of q).version (node_at q (x - 1)) v ≡ refused_as w x (Reads v)
look_refuses credit w q x v g st some lt =
    let h : MemberStands w st.places x (node_at q (x - 1)) = st.stand.each x some lt in
    let u : ℕ = (member_at w x).version in
    let n : ℕ = (newest_of q).version in
    ap (λ (k : Held). up_refused k (refuse_if (cond (nat_lt v k.view.version) true (nat_lt n v)) (reason.ViewOutOfRange v k.view.version n))) h.held
    ∙ ap (λ m. up_refusal w x (refuse_if (cond (nat_lt v m) true (nat_lt n v)) (reason.ViewOutOfRange v m n))) (view_version w u g.fit.good (g.fit.good.inv.is_ring.held x))
    ∙ ap (λ m. up_refusal w x (refuse_if (cond (nat_lt v u) true (nat_lt m v)) (reason.ViewOutOfRange v u m))) (newest_version credit.initial w q g.fit.good st)
    ∙ ap (λ b. up_refusal w x (refuse_if b (reason.ViewOutOfRange v u (newest w)))) (cond_or (nat_lt v u) (nat_lt (newest w) v))

-- ---- a mark

-- what is refused of who isn't up, whatever comes later
up_same : (w : World) (x : ℕ) (a b : Option Reason) → ((member_at w x).phase ≡ Up → a ≡ b) → up_refusal w x a ≡ up_refusal w x b
up_same w x a b h = by_phase (member_at w x).phase h
  where
    by_phase : (f : Phase) → (f ≡ Up → a ≡ b) → or_else (refuse_if (is_stopped f) reason.Stopped) (or_else (refuse_if (is_waiting f) reason.Waiting) a) ≡ or_else (refuse_if (is_stopped f) reason.Stopped) (or_else (refuse_if (is_waiting f) reason.Waiting) b)
    by_phase Waiting k = refl
    by_phase Up k = k refl
    by_phase Stopped k = refl

-- what the registrar refuses of a member, it does of one that is up as the ring does
by_registrar : (w : World) (x : ℕ) (asked later : Option Reason) → ((member_at w x).phase ≡ Up → asked ≡ up_refusal w x later) → up_refusal w x asked ≡ up_refusal w x later
by_registrar w x asked later k = up_same w x asked later (λ up. k up ∙ up_is w x later up)

-- what x has still to take, by its own word
tells : (w : World) (x : ℕ) → IsGood w → (is_some (held_in w x).current || is_some (first_at_door (held_in w x))) ≡ (is_some (member_at w x).current || is_some (at_door w x))
tells w x h = by_current (member_at w x).current refl
  where
    by_current : (c : Option ℕ) → (member_at w x).current ≡ c → (is_some (option_map (incoming_in w) c) || is_some (first_at_door (held_in w x))) ≡ (is_some c || is_some (at_door w x))
    by_current None e = sym (made_some _ (first_at_door (held_in w x))) ∙ ap is_some (first_is w x h e)
    by_current (Some s) e = refl

module _ {I : Type 0} where
  -- of one that is known, where no link waits at the registrar of which the member doesn't know
  pub mark_refuses : (w : World) (r : Registry I) (x d : ℕ) (dead : List ℕ) → IsFit w → StandsIn w r → 1 ≤ x → x < size w → id_of w dead ≡ Some d
      → (is_left (view_at r.views (member_at w x).version) x d ≡ true → (has_link (held_in w x) || waits_from r.links d x (since_in (view_at r.views (member_at w x).version) x)) ≡ has_link (held_in w x))
      → up_refused (held_in w x) (mark_refusal r x d (held_in w x).view.version (is_some (held_in w x).current || is_some (first_at_door (held_in w x)))) ≡ refused_as w x (Changes (change.Mark dead))
  mark_refuses w r x d dead f st some lt there waits =
      let name : List ℕ = (member_at w x).name in
      let named : id_of w name ≡ Some x = f.named x some lt in
      let u : ℕ = (member_at w x).version in
      let has : Bool = is_some (held_in w x).current || is_some (first_at_door (held_in w x)) in
      ap (λ v. up_refusal w x (mark_refusal r x d v has)) (view_version w u f.good (f.good.inv.is_ring.held x))
      ∙ by_registrar w x (mark_refusal r x d u has) (of_member (id_of w dead) (event.mark_refusal w x))
      (λ up. mark_judged w r x d u has name dead f.good st (record { named = named; up = up; holds = refl }) there (λ left. waits left ∙ tells w x f.good) ∙ refused_there w x (Mark name dead) named)

-- of the name of nobody, whatever is asked of one who is known
pub nobody_named : (credit : CreditSpec) (w : World) (q : Parties) (x : ℕ) (other : List ℕ) (later : ℕ → Option Reason) → Stand credit.initial w q → 1 ≤ x → x < size w → id_of w other ≡ None
    → up_refused (node_at q (x - 1)).held (Some reason.UnknownMember) ≡ up_refusal w x (of_member (id_of w other) later)
nobody_named credit w q x other later st some lt none =
    ap (λ (k : Held). up_refused k (Some reason.UnknownMember)) (st.stand.each x some lt).held ∙ ap (λ o. up_refusal w x (of_member o later)) (sym none)

-- no link of the ring waits at the registrar where none was deposited for x
none_from : (d x since : ℕ) (ps : List Deposit) → filter (waits_at x) ps ≡ [] → waits_from (map waiting_link_of ps) d x since ≡ false
none_from d x since [] e = refl
none_from d x since (a ∷ ps) e = by_test (nat_eq a.name.to.0 x) refl e (λ k. none_from d x since ps k)
  where
    not_third : (f g : Bool) (l : Bool) → (f && (g && (false && l))) ≡ false
    not_third true true l = refl
    not_third true false l = refl
    not_third false g l = refl

    by_test : (b : Bool) → nat_eq a.name.to.0 x ≡ b → cond b (a ∷ filter (waits_at x) ps) (filter (waits_at x) ps) ≡ [] → (filter (waits_at x) ps ≡ [] → waits_from (map waiting_link_of ps) d x since ≡ false)
        → (is_ring_from d x since (waiting_link_of a) || waits_from (map waiting_link_of ps) d x since) ≡ false
    by_test true k h ih = cc
    by_test false k h ih =
        ap (λ b. (is_ring a.name.kind && (nat_eq a.name.from.0 d && (b && nat_le since a.name.view))) || waits_from (map waiting_link_of ps) d x since) k
        ∙ ap (λ b. b || waits_from (map waiting_link_of ps) d x since) (not_third (is_ring a.name.kind) (nat_eq a.name.from.0 d) (nat_le since a.name.view))
        ∙ ih h

-- the member's conditions, and then the registrar's, are the ring's
pub mark_asked_refuses : (credit : CreditSpec) (w : World) (q : Parties) (x d : ℕ) (dead : List ℕ) (m : Shown) → IsLawfulAt credit w → Stand credit.initial w q → 1 ≤ x → x < size w → id_of w dead ≡ Some d
    → filter (waits_at x) q.deposits ≡ [] → m ≡ node_at q (x - 1)
    → up_refused m.held (mark_refusal (office_of q) x d m.held.view.version (is_some m.held.current || is_some (first_at_door m.held))) ≡ refused_as w x (Changes (change.Mark dead))
mark_asked_refuses credit w q x d dead m g st some lt there none is =
    let held : m.held ≡ held_in w x = ap (λ (k : Shown). k.held) is ∙ held_whole credit.initial w q x some lt st none in
    let office : StandsIn w (office_of q) = record { views = st.stand.views; stopped = st.stand.stopped; nobody_else = st.stand.nobody_else } in
    ap (λ (k : Held). up_refused k (mark_refusal (office_of q) x d k.view.version (is_some k.current || is_some (first_at_door k)))) held
    ∙ mark_refuses w (office_of q) x d dead g.fit office some lt there
    (λ left. ap (λ b. has_link (held_in w x) || b) (none_from d x (since_in (view_at q.views (member_at w x).version) x) q.deposits none) ∙ or-false (has_link (held_in w x)))

-- ---- an erasure

-- what x has got of p, and what it has retired, by what it holds
numbers_held : (w : World) (x p : ℕ) → IsFit w → 1 ≤ p → p < size w → known_at (held_in w x).known (p - 1) ≡ kept_by (log_of w p) (row_of w x p)
numbers_held w x p f some lt =
    let back : p - 1 + 1 ≡ p = omega arith in
    held_known w x (p - 1) (place_few w p f some lt) ∙ ap (λ k. kept_by (log_of w k) (row_of w x k)) back

module _ {I : Type 0} where
  -- of one that is known: by the newest view, and the member's own view and numbers
  pub erase_refuses : (credit : CreditSpec) (w : World) (r : Registry I) (q : Parties) (x p : ℕ) (origin : List ℕ) → IsLawfulAt credit w → StandsIn w r → Stand credit.initial w q → 1 ≤ x → x < size w → id_of w origin ≡ Some p
      → erase_refused r (node_at q (x - 1)) (Some p) ≡ refused_as w x (Changes (change.Erase origin))
  erase_refuses credit w r q x p origin g st stand some lt there =
      let name : List ℕ = (member_at w x).name in
      let named : id_of w name ≡ Some x = g.fit.named x some lt in
      let it : (1 ≤ p) × (p < size w) = id_within w origin p there in
      let u : ℕ = (member_at w x).version in
      let kept : known_at (held_in w x).known (p - 1) ≡ kept_by (log_of w p) (row_of w x p) = numbers_held w x p g.fit it.0 it.1 in
      let got : got_of (known_at (held_in w x).known (p - 1)) ≡ (row_of w x p).got = ap got_of kept ∙ got_kept (log_of w p) (row_of w x p) (right_row w x p g.fit) in
      let retired : (known_at (held_in w x).known (p - 1)).retired ≡ (row_of w x p).retired = ap (λ (k : Kept). k.retired) kept in
      ap (λ (k : Held). up_refused k (erase_refusal r k.id p (got_of (known_at k.known (p - 1))) (known_at k.known (p - 1)).retired k.view.version)) (held_but_door w stand.places x (node_at q (x - 1)) (stand.stand.each x some lt))
      ∙ ap (λ v. up_refusal w x (erase_refusal r x p (got_of (known_at (held_in w x).known (p - 1))) (known_at (held_in w x).known (p - 1)).retired v)) (view_version w u g.fit.good (g.fit.good.inv.is_ring.held x))
      ∙ by_registrar w x (erase_refusal r x p (got_of (known_at (held_in w x).known (p - 1))) (known_at (held_in w x).known (p - 1)).retired u) (of_member (id_of w origin) (event.erase_refusal w x))
      (λ up. erase_judged w r x p u (got_of (known_at (held_in w x).known (p - 1))) (known_at (held_in w x).known (p - 1)).retired (Erase name origin) g.fit.good st
      (record { name = name; origin_name = origin; asker = record { named = named; up = up; holds = refl }; named = there; got = sym got; retired = sym retired; is = refl }) ∙ refused_there w x (Erase name origin) named)

-- ---- a registration

module _ {I : Type 0} where
  -- by the newest view, and by what the member's mirror lacks
  pub synced_refuses : (credit : CreditSpec) (w : World) (r : Registry I) (q : Parties) (keeps : Keeps) (x : ℕ) → IsLawfulAt credit w → StandsIn w r → Stand credit.initial w q → keeps ≡ keeps_of w x → 1 ≤ x → x < size w
      → synced_refused r keeps (node_at q (x - 1)) ≡ refused_as w x (Changes change.Register)
  synced_refuses credit w r q keeps x g st stand kept some lt =
      let name : List ℕ = (member_at w x).name in
      let named : id_of w name ≡ Some x = g.fit.named x some lt in
      let missing : Option ℕ = (member_at w x).mirror.missing in
      ap (λ (k : Keeps). synced_refused r k (node_at q (x - 1))) kept
      ∙ ap (λ (k : Held). up_refused k (synced_refusal r k.id missing)) (held_but_door w stand.places x (node_at q (x - 1)) (stand.stand.each x some lt))
      ∙ by_registrar w x (synced_refusal r x missing) (event.synced_refusal w x)
      (λ up. synced_judged w r x (member_at w x).version missing name g.fit.good st (record { named = named; up = up; holds = refl }) refl ∙ refused_there w x (Synced name) named)

-- ---- what a client asks

-- a member says nothing just where the ring refuses it, for the same reason
pub says_refuses : (credit : CreditSpec) (w : World) (q : Parties) (x : ℕ) (keeps : Keeps) (s : Saying) → keeps ≡ keeps_of w x → 1 ≤ x → x < size w → Stand credit.initial w q → alone_refused (Says s) keeps (node_at q (x - 1)) ≡ refused_as w x (Says s)
says_refuses credit w q x keeps s kept some lt st =
    let same : (node_at q (x - 1)).held ≡ record (held_in w x) { door = (node_at q (x - 1)).held.door } = held_but_door w st.places x (node_at q (x - 1)) (st.stand.each x some lt) in
    ap (up_refused (node_at q (x - 1)).held) (refused_same w x (node_at q (x - 1)).held keeps (record { view = ap (λ (k : Held). k.view) same; id = ap (λ (k : Held). k.id) same; keeps = kept }) s)
    ∙ ap (λ (k : Held). up_refused k (saying_refusal w x s)) same

-- and admits nobody just where the ring refuses that
pub admit_refuses : (credit : CreditSpec) (w : World) (q : Parties) (x : ℕ) (name : List ℕ) → 1 ≤ x → x < size w → Stand credit.initial w q → up_refused (node_at q (x - 1)).held (admission_refused (newest_of q) name) ≡ refused_as w x (Changes (change.Admit name))
admit_refuses credit w q x name some lt st =
    ap (λ (k : Held). up_refused k (admission_refused (newest_of q) name)) (held_but_door w st.places x (node_at q (x - 1)) (st.stand.each x some lt))
    ∙ ap (λ g. up_refusal w x (admission_refused g name)) (newest_is w q st.stand.views)

-- and so whatever a client asks
pub client_refuses : (credit : CreditSpec) (w : World) (q : Parties) (x : ℕ) (keeps : Keeps) (inner : Client) → keeps ≡ keeps_of w x → 1 ≤ x → x < size w → Stand credit.initial w q → client_refused (newest_of q) keeps inner (node_at q (x - 1)) ≡ doing_refusal w (event_of inner) x
client_refuses credit w q x keeps inner kept some lt st = by_client inner
  where
    says : (s : Saying) → alone_refused (Says s) keeps (node_at q (x - 1)) ≡ refused_as w x (Says s)
    says s = says_refuses credit w q x keeps s kept some lt st

    by_client : (c : Client) → client_refused (newest_of q) keeps c (node_at q (x - 1)) ≡ doing_refusal w (event_of c) x
    by_client (client.Cast by body) = says (Own body)
    by_client (client.Publish by body) = says (OfQueue (Publishes body))
    by_client (client.Get by) = says (OfQueue (Does asking.Get))
    by_client (client.Pop by) = says (OfQueue (Does asking.Pop))
    by_client (client.Ack by at) = says (OfQueue (Does (asking.Ack at)))
    by_client (client.Requeue by at) = says (OfQueue (Does (asking.Requeue at)))
    by_client (client.Sync by target) = ap (λ (k : Held). up_refused k (Some reason.Waiting)) (held_but_door w st.places x (node_at q (x - 1)) (st.stand.each x some lt))
    by_client (client.Stop by) = ap (λ (k : Held). active_refused k None) (held_but_door w st.places x (node_at q (x - 1)) (st.stand.each x some lt))
    by_client (client.Admit by name) = admit_refuses credit w q x name some lt st

-- and tells the client so just where the ring does
pub telling_refuses : (credit : CreditSpec) (w : World) (q : Parties) (x : ℕ) (keeps : Keeps) (code : ℕ) (inner : Client) → keeps ≡ keeps_of w x → 1 ≤ x → x < size w → Stand credit.initial w q → telling_refused (newest_of q) keeps code inner (node_at q (x - 1)) ≡ refused_as w x (Tells code inner)
telling_refuses credit w q x keeps code inner kept some lt st = ap (λ r. refuse_if (not (is_told code r)) reason.NotRefused) (client_refuses credit w q x keeps inner kept some lt st)

-- ---- the registrar, and what is shown of it

-- the same links wait
same_waits : (d x since : ℕ) (ls : List (WaitingLink (RingIn Load))) → waits_from (map waiting_link_of (map deposit_shown ls ++ [])) d x since ≡ waits_from ls d x since
same_waits d x since [] = refl
same_waits d x since (a ∷ ls) = ap (λ b. is_ring_from d x since a || b) (same_waits d x since ls)

-- it has the same conditions for a mark
pub mark_same : (nodes : List Party) (r : Registry (RingIn Load)) (m : Shown) (d : ℕ) → mark_refused (office_of (parties nodes r [])) m (Some d) ≡ mark_refused r m (Some d)
mark_same nodes r m d =
    let g : Group = view_at r.views m.held.view.version in
    let x : ℕ = m.held.id in
    let has : Bool = is_some m.held.current || is_some (first_at_door m.held) in
    ap (λ b. up_refused m.held (or_else (refuse_if (not (is_known r x)) reason.UnknownMember)
    (or_else (refuse_if (not (is_known r d)) reason.UnknownMember)
    (or_else (refuse_if (not (is_beside g x d)) reason.NotNeighbour)
    (or_else (refuse_if (not (is_live (newest_view r).entries d)) reason.AlreadyDead)
    (or_else (refuse_if (not (is_in d r.stopped)) reason.NotStopped)
    (refuse_if (is_left g x d && (has || b)) reason.LinkNotEnded)))))))
    (same_waits d x (since_in g x) r.links)

-- and for any question for a view
pub ask_same : (nodes : List Party) (r : Registry (RingIn Load)) (m : Shown) (what : Ask) → ask_refused (office_of (parties nodes r [])) m what ≡ ask_refused r m what
ask_same nodes r m (ask.Mark dead) = mark_same nodes r m dead.0
ask_same nodes r m (ask.Admit name) = refl
ask_same nodes r m (ask.Erase origin) = refl
ask_same nodes r m (ask.Register missing) = refl
ask_same nodes r m ask.Refresh = refl
ask_same nodes r m ask.Collect = refl

-- and makes the same view
pub view_for_same : (nodes : List Party) (r : Registry (RingIn Load)) (x : ℕ) (what : Ask) → view_for (office_of (parties nodes r [])) x what ≡ view_for r x what
view_for_same nodes r x (ask.Mark dead) = refl
view_for_same nodes r x (ask.Admit name) = refl
view_for_same nodes r x (ask.Erase origin) = refl
view_for_same nodes r x (ask.Register missing) = refl
view_for_same nodes r x ask.Refresh = refl
view_for_same nodes r x ask.Collect = refl
