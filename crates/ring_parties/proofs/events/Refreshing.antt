-- A member that refreshes: the parties stand in the state after it, where the end that it replaced has still to meet its other.
use Rattle.std.proofs.Common.{◌≡◌, ◌≢◌, ℕ, ◌-◌, ◌<◌, ◌≤◌, Bool, true, List, [], ◌∷◌, ◌++◌, length, set, map, Some, None, refl, sym, ap, subst, ◌∙◌, arith, ⊎_elim, inl}
use Rattle.std.specs.Prelude.{◌&&◌, option_map}
use Rattle.std.specs.List.{filter, range_with_len}
use Rattle.std.proofs.lemmas.Bool.{and_parts, cases_eq}
use Rattle.std.proofs.lemmas.List.{append-nil, length-set}
use Rattle.group_view.specs.View.{Group}
use Rattle.ring_rules.specs.View.{right_of}
use Rattle.ring_rules.specs.Machine.{World, Member, no_sending, member_at, link_at, view_in, is_kept}
use Rattle.ring_rules.specs.OpenLinks.{is_place}
use Rattle.ring_rules.specs.Step.{size, log_of, next_packet, moved_to, look_at, kept_current}
use Rattle.ring_rules.specs.Event.{refreshed, is_stopped}
use Rattle.ring_rules.proofs.events.WhatRefuses.{MayLook}
use Rattle.ring_rules.proofs.invariants.KeptLook.{kept_current-Some}
use Rattle.ring_rules.proofs.invariants.Happens.{IsGood}
use Rattle.ring_rules.proofs.walks.Ended.{EndsRight}
use Rattle.registrar.proofs.Members.{told_refreshed, stopped_same}
use Rattle.gm_member.specs.Held.{Held, stays, refreshed_held, fresh_out as unsent_on, lines_on}
use Rattle.gm_member.specs.Stands.{incoming_in, waits_for, door_links, held_in, lines_in}
use Rattle.gm_member.proofs.DoorLists.{filter_agree}
use Rattle.gm_member.proofs.DoorParts.{waits_by, member_same, member_other}
use Rattle.gm_member.proofs.OpenDoors.{sends_right, refresh_looks}
use Rattle.gm_member.proofs.Others.{member_others}
use Rattle.ring_rules.proofs.work.OwnEnds.{OwnEnds}
use Rattle.gm_member.proofs.RefreshStands.{RowsAreRight, door_stays, refresh_stands}
use Rattle.ring_parties.specs.Parties.{Shown, Parties, node_at, with_node}
use Rattle.ring_parties.specs.Standing.{Places, MemberStands, Stand, HaveDone, is_to, has_out, has_in}
use Rattle.ring_parties.specs.Acting.{looked_ends, waits_at}
use Rattle.ring_parties.proofs.standing.Showing.{each_set}
use Rattle.ring_parties.proofs.meetings.Meetings.{waiting_at}
use Rattle.ring_parties.proofs.deposits.Collections.{filter_map}
use Rattle.ring_parties.proofs.events.OneEvent.{met_both}
use Rattle.ring_parties.proofs.meetings.Known.{known_still}
use Rattle.ring_parties.proofs.standing.Frames.{carries_logs, StandMoved}
use Rattle.ring_parties.proofs.standing.Lookers.{filter_both, for_kept, looker, beholder, had_before}

-- ---- the conditions

-- x refreshes to v in a good state, and its first packet on a new link is the ring's
pub record IsLooking (initial : ℕ) (u : World) (x v : ℕ) : Type 0 where
  pub may : MayLook u x v
  pub some : 1 ≤ x
  pub good : IsGood u
  pub later : IsGood (refreshed u x v)
  pub own : OwnEnds u
  pub ends : EndsRight u
  pub initial_is : u.initial ≡ initial
  pub right : RowsAreRight u x
  pub first : lines_on (held_in u x).known (unsent_on u.initial u.more (right_of (view_in u v) x) v) ≡ lines_in u no_sending (next_packet (moved_to u x v) no_sending)

-- whether a link stays at x's door in a view
abbrev pub keeps_it : World → ℕ → Group → ℕ → Bool
keeps_it u x view s = stays view x (incoming_in u s)

-- What is left of the links that were there where x has another view; this tells which x may take from still.
pub record AfterLook (u u' : World) (x : ℕ) (view : Group) (kept : ℕ → Bool) : Type 0 where
  pub current_here : (member_at u' x).current ≡ kept_current kept (member_at u x).current
  pub current_other : (z : ℕ) → z ≢ x → z < size u → (member_at u' z).current ≡ (member_at u z).current
  pub currents : (z s : ℕ) → z ≢ x → s < length u.links → (member_at u' z).current ≡ Some s → (member_at u z).current ≡ Some s
  pub out_other : (z : ℕ) → z ≢ x → (member_at u' z).out ≡ (member_at u z).out
  pub waits_here : (s : ℕ) → s < length u.links → waits_for u' x s ≡ (waits_for u x s && keeps_it u x view s)
  pub waits_other : (z s : ℕ) → z ≢ x → s < length u.links → waits_for u' z s ≡ waits_for u z s
  pub sender : (s : ℕ) → s < length u.links → (link_at u' s).sender ≡ (link_at u s).sender
  pub receiver : (s : ℕ) → s < length u.links → (link_at u' s).receiver ≡ (link_at u s).receiver
  pub logs : (y : ℕ) → log_of u' y ≡ log_of u y

-- what may be taken from then could be before
pub look_has : (u u' : World) (x s : ℕ) (view : Group) (kept : ℕ → Bool) → OwnEnds u → AfterLook u u' x view kept → s < length u.links → has_in u' s ≡ true → has_in u s ≡ true
look_has u u' x s view kept own k l h = had_before u u' s own (k.receiver s l)
    (λ y e. ⊎_elim
    (λ (same : y ≡ x).
    let e' : (member_at u' x).current ≡ Some s = subst (λ i. (member_at u' i).current ≡ Some s) same e in
    subst (λ i. (member_at u i).current ≡ Some s) (sym same) (kept_current-Some kept (member_at u x).current s (sym k.current_here ∙ e')).0)
    (λ (ne : y ≢ x). k.currents y s ne l e)
    (cases_eq y x))
    (λ y e. ⊎_elim
    (λ (same : y ≡ x).
    let e' : waits_for u' x s ≡ true = subst (λ i. waits_for u' i s ≡ true) same e in
    subst (λ i. waits_for u i s ≡ true) (sym same) (and_parts (waits_for u x s) (keeps_it u x view s) (sym (k.waits_here s l) ∙ e')).0)
    (λ (ne : y ≢ x). sym (k.waits_other y s ne l) ∙ e)
    (cases_eq y x))
    h

-- logs stay where members are written with the same one
pub logs_set : (u : World) (x : ℕ) (y : Member) (ms : List Member) → x < size u → ms ≡ set u.members x y → y.log ≡ (member_at u x).log → (q : ℕ) → log_of (record u { members = ms }) q ≡ log_of u q
logs_set u x y ms l e h q =
    ap (λ k. log_of (record u { members = k }) q) e
    ∙ ⊎_elim
    (λ (same : q ≡ x). ap (log_of (record u { members = set u.members x y })) same ∙ ap (λ (m : Member). m.log) (member_same u x y l) ∙ h ∙ sym (ap (log_of u) same))
    (λ (ne : q ≢ x). ap (λ (m : Member). m.log) (member_other u x q y ne))
    (cases_eq q x)

-- none that waits is for x
map_nil : {A : Type 0} (f : ℕ → A) (xs : List ℕ) → map f xs ≡ [] → xs ≡ []
map_nil f [] e = refl
map_nil f (x ∷ xs) e = cc

pub none_waits : (initial : ℕ) (w : World) (q : Parties) (x : ℕ) (st : Stand initial w q) → filter (waits_at x) q.deposits ≡ [] → filter (is_to w x) st.places.deposits ≡ []
none_waits initial w q x st none =
    let p : Places = st.places in
    map_nil (waiting_at w p) (filter (is_to w x) p.deposits) (sym (filter_map (waits_at x) (waiting_at w p) p.deposits) ∙ sym (ap (filter (waits_at x)) st.stand.deposits) ∙ none)

-- ---- it sends on as it did

-- which links are kept up to a view
abbrev pub kept_to : World → ℕ → ℕ → Bool
kept_to u v s = is_kept u (link_at u s) v

-- the state then
pub looks_after : (u : World) (x v : ℕ) → MayLook u x v → IsGood u → AfterLook u (look_at u x v) x (view_in u v) (kept_to u v)
looks_after u x v m g = record {
  current_here = ap (λ (k : Member). k.current) here;
  current_other = λ z ne _. ap (λ (k : Member). k.current) (member_other u x z (moved_to u x v) ne);
  currents = λ z s ne _ e. sym (ap (λ (k : Member). k.current) (member_other u x z (moved_to u x v) ne)) ∙ e;
  out_other = λ z ne. ap (λ (k : Member). k.out) (member_other u x z (moved_to u x v) ne);
  waits_here = λ s l. ap (λ (k : Member). waits_by u x k.current k.version s) here ∙ door_stays u x v s m g l;
  waits_other = λ z s ne l. ap (λ (k : Member). waits_by u z k.current k.version s) (member_other u x z (moved_to u x v) ne);
  sender = λ s l. refl;
  receiver = λ s l. refl;
  logs = logs_set u x (moved_to u x v) (set u.members x (moved_to u x v)) m.is_member refl refl;
}
  where
    here : member_at (look_at u x v) x ≡ moved_to u x v
    here = member_same u x (moved_to u x v) m.is_member

pub looks_on : (initial : ℕ) (u : World) (x v : ℕ) (q : Parties) (b : Shown) → IsLooking initial u x v → sends_right u x v ≡ true → Stand initial u q → filter (waits_at x) q.deposits ≡ []
    → b ≡ record { held = refreshed_held (node_at q (x - 1)).held (view_in u v); ends = looked_ends (view_in u v) (node_at q (x - 1)) }
    → StandMoved initial x (refreshed u x v) (with_node q (x - 1) b) None
looks_on initial u x v q b k e st none eb = subst (λ w. StandMoved initial x w (with_node q (x - 1) b) None) (sym (refresh_looks u x v e)) (record {
  places = p;
  stand = record {
    count = (let same : length (set q.nodes (x - 1) b) ≡ length q.nodes = length-set q.nodes (x - 1) b in let many : length (set u.members x (moved_to u x v)) ≡ size u = length-set u.members x (moved_to u x v) in omega (arith, same, many, st.stand.count));
    each = λ z c m. each_set u u' q p p x b st.stand.count k.some k.may.is_member mine
        (λ y c2 m2 ne. beholder u u' p p y (node_at q (y - 1)) k.own (st.stand.each y c2 m2) (after.out_other y ne) (after.current_other y ne m2)
        (λ ds. ap (λ (h : Held). record h { door = ds }) (sym (member_others u x y (moved_to u x v) refl ne)))
        (λ s o. refl) (λ s l. refl) (λ s l. refl)
        (λ ds d. filter_agree (waits_for u' y) (waits_for u y) 0 (length u.links) (λ s a b2. after.waits_other y s ne (omega arith)) ∙ d))
        z c (let many : length (set u.members x (moved_to u x v)) ≡ size u = length-set u.members x (moved_to u x v) in omega (arith, m, many));
    views = st.stand.views;
    stopped = λ z c m. (let many : length (set u.members x (moved_to u x v)) ≡ size u = length-set u.members x (moved_to u x v) in
        st.stand.stopped z c (omega (arith, m, many)) ∙ sym (sym (ap (λ w. is_stopped (member_at w z).phase) (refresh_looks u x v e)) ∙ stopped_same u (refreshed u x v) z (told_refreshed u x v)));
    nobody_else = λ z ge. (let many : length (set u.members x (moved_to u x v)) ≡ size u = length-set u.members x (moved_to u x v) in st.stand.nobody_else z (omega (arith, ge, many)));
    deposits = st.stand.deposits;
    within = st.stand.within;
    carry = λ s l h. carries_logs initial u u' (link_at u s) (p.outs s) (p.ins s) after.logs (st.stand.carry s l (look_has u u' x s (view_in u v) (kept_to u v) k.own after l h));
  };
  dropped = λ s l h o. inl (subst (λ c. HaveDone c (p.outs s) (p.ins s)) (sym (outs s) ∙ o) (st.met s l (look_has u u' x s (view_in u v) (kept_to u v) k.own after l h)));
  fits = λ s o l h c. cc;
  met = λ s l h o _. met_both (has_out u s) (p.outs s) (p.ins s) (sym (outs s) ∙ o) (st.met s l (look_has u u' x s (view_in u v) (kept_to u v) k.own after l h));
  known = known_still initial u u' q p st refl outs (λ s _. (refl, refl));
})
  where
    p : Places
    p = st.places

    u' : World
    u' = look_at u x v

    a : Shown
    a = node_at q (x - 1)

    after : AfterLook u u' x (view_in u v) (kept_to u v)
    after = looks_after u x v k.may k.good

    out_here : (member_at u' x).out ≡ (member_at u x).out
    out_here = ap (λ (m : Member). m.out) (member_same u x (moved_to u x v) k.may.is_member)

    outs : (s : ℕ) → has_out u' s ≡ has_out u s
    outs s = ⊎_elim
        (λ (same : (link_at u s).sender ≡ x). ap (λ y. is_place (member_at u' y).out s) same ∙ ap (λ c. is_place c s) out_here ∙ sym (ap (λ y. is_place (member_at u y).out s) same))
        (λ (ne : (link_at u s).sender ≢ x). ap (λ c. is_place c s) (after.out_other (link_at u s).sender ne))
        (cases_eq (link_at u s).sender x)

    mine : MemberStands u' p x b
    mine = looker u u' p p x (view_in u v) (kept_to u v) a b a.ends.out k.own (λ s. for_kept u x v s k.may k.good) (st.stand.each x k.some k.may.is_member) (none_waits initial u q x st none)
        (ap (λ (m : Shown). m.held) eb) (ap (λ (m : Shown). m.ends) eb)
        ((st.stand.each x k.some k.may.is_member).out ∙ ap (option_map p.outs) (sym out_here))
        after.current_here
        (λ ds. ap (λ (h : Held). record h { door = ds }) (refresh_stands u x v k.may k.good k.right ∙ ap (λ w. held_in w x) (refresh_looks u x v e)))
        (λ s l. refl) (λ s l. refl)
        (filter_agree (waits_for u' x) (λ s. waits_for u x s && keeps_it u x (view_in u v) s) 0 (length u.links) (λ s i j. after.waits_here s (omega arith))
        ∙ sym (filter_both (waits_for u x) (keeps_it u x (view_in u v)) (range_with_len 0 (length u.links)))
        ∙ sym (append-nil (filter (keeps_it u x (view_in u v)) (door_links u x)))
        ∙ ap (λ ys. filter (keeps_it u x (view_in u v)) (door_links u x) ++ ys) (sym (none_waits initial u q x st none)))
