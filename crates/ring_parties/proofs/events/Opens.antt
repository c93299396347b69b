-- A member that refreshes and opens a link: the parties stand in the state after it, and the link waits for its receiver.
use Rattle.std.proofs.Common.{◌≡◌, ◌≢◌, ℕ, ◌+◌, ◌-◌, ◌<◌, ◌≤◌, Bool, true, false, cond, nat_eq, List, [], ◌∷◌, ◌++◌, length, get_or, set, map, Option, Some, None, is_some, refl, sym, ap, subst, ◌∙◌, arith, ⊎_elim, inl, inr}
use Rattle.std.specs.Prelude.{◌&&◌, option_map, ◌⊎◌}
use Rattle.std.specs.List.{filter, range_with_len}
use Rattle.std.proofs.lemmas.Bool.{false≢true, cases_eq, cases_lt}
use Rattle.std.proofs.lemmas.List.{append_assoc, map-append, length-set, get_or_append_left, get_or-set_same, get_or-set_other}
use Rattle.std.proofs.lemmas.List.Elements.{filter-append}
use Rattle.std.proofs.lemmas.Option.{none-some}
use Rattle.group_view.specs.declared.link.LinkName.{LinkName}
use Rattle.group_view.specs.Ring.{is_in}
use Rattle.group_view.proofs.Rings.{is_in-append, nat_eq-same, nat_eq-not, head_differs}
use Rattle.group_view.proofs.Neighbours.{filter_agree_in}
use Rattle.ring_rules.specs.declared.phase.Ending.{Ending}
use Rattle.ring_rules.specs.declared.phase.Ending.TheVariants.{Moved}
use Rattle.group_view.specs.View.{Group}
use Rattle.ring_rules.specs.View.{right_of}
use Rattle.ring_rules.specs.Machine.{World, Member, Link, Packet, no_link, no_sending, member_at, link_at, view_in, runs_phase, is_kept}
use Rattle.ring_rules.specs.OpenLinks.{is_place, version_of}
use Rattle.ring_rules.specs.Step.{size, pushed, fresh_link, next_packet, moved_to, ended, end_out}
use Rattle.ring_rules.specs.Event.{refreshed, is_stopped}
use Rattle.ring_rules.proofs.events.WhatRefuses.{MayLook}
use Rattle.ring_rules.proofs.rings.Rounds.{nat_eq-is}
use Rattle.ring_rules.proofs.invariants.Happens.{IsGood}
use Rattle.ring_rules.proofs.walks.OpenWalk.{place_is}
use Rattle.registrar.proofs.Members.{told_refreshed, stopped_same}
use Rattle.gm_member.specs.Held.{Held, Incoming, is_for, refreshed_held, fresh_out as unsent_on, lines_on, packet_on}
use Rattle.gm_member.specs.View.{ring_link}
use Rattle.gm_member.specs.Stands.{incoming_in, outgoing_in, waits_for, door_links, held_in, lines_in}
use Rattle.gm_member.proofs.DoorLists.{filter_agree, filter_more}
use Rattle.gm_member.proofs.Doors.{view_version}
use Rattle.gm_member.proofs.DoorParts.{waits_by, member_same, member_other}
use Rattle.gm_member.proofs.OpenDoors.{sends_right, new_link, sending_member, opened_world, old_links, refresh_opens, old_many, link_old, link_new, links_more, waits_old, waits_new}
use Rattle.ring_rules.proofs.work.Refreshed.{endless}
use Rattle.gm_member.proofs.OthersStand.{refresh_others}
use Rattle.ring_rules.proofs.work.OwnEnds.{OwnEnds}
use Rattle.gm_member.proofs.RefreshStands.{current_lt, kept_lt, door_stays, refresh_stands}
use Rattle.ring_parties.specs.Ends.{OutSeen, InSeen, PacketShown, Carries, HasRested, opened_out, fresh_in, HaveMet}
use Rattle.ordered_link.specs.Names.{PairName}
use Rattle.ring_parties.specs.Parties.{Shown, Deposit, Parties, node_at, with_node}
use Rattle.ring_parties.specs.Standing.{Places, MemberStands, StandIn, Stand, HaveDone, SendersKnow, name_of, is_to, has_out, has_in}
use Rattle.ring_parties.specs.Replaced.{ReplacedFits, DroppedHaveMet, OthersHaveMet, moved_by, sender_to}
use Rattle.ring_parties.specs.Acting.{Replacing, looked_ends, first_sent, sent_of, waits_at, ActsOut}
use Rattle.ring_parties.proofs.standing.Writing.{placed, placed_same, placed_other, map_agree}
use Rattle.ring_parties.proofs.standing.Placing.{name_is_unique}
use Rattle.ring_parties.proofs.standing.Showing.{each_set}
use Rattle.ring_parties.proofs.meetings.Meetings.{waiting_at}
use Rattle.ring_parties.proofs.meetings.Joining.{first_same}
use Rattle.ring_parties.proofs.meetings.Known.{Knows, all_know}
use Rattle.ring_parties.proofs.standing.Frames.{same_lines, carries_logs, opened_carries, StandMoved, end_carries}
use Rattle.ring_parties.proofs.standing.Lookers.{filter_both, for_kept, whole_held, looker, beholder}
use Rattle.ring_parties.proofs.events.Refreshing.{IsLooking, AfterLook, keeps_it, kept_to, look_has, logs_set, none_waits}
use Rattle.ring_parties.proofs.events.OneEvent.{met_both}

-- ---- lists

-- who is in a list with one more
in_push : (s n : ℕ) (xs : List ℕ) → is_in s (xs ++ n ∷ []) ≡ true → (is_in s xs ≡ true) ⊎ (s ≡ n)
in_push s n xs e = by_case (is_in s xs) refl (nat_eq s n) refl (sym (is_in-append s xs (n ∷ [])) ∙ e)
  where
    by_case : (b : Bool) → is_in s xs ≡ b → (c : Bool) → nat_eq s n ≡ c → cond b true (cond c true false) ≡ true → (is_in s xs ≡ true) ⊎ (s ≡ n)
    by_case true k c j h = inl k
    by_case false k true j h = inr (nat_eq-is s n j)
    by_case false k false j h = absurd (false≢true h)

-- two that are replaced are one
some_same : (f g : LinkName × OutSeen) → Some f ≡ Some g → f ≡ g
some_same f g e = cc

-- ---- the links that were there

-- the link on which x sent has ended
pub link_ended : (u : World) (x v s : ℕ) → (member_at u x).out ≡ Some s → s < length u.links → link_at (opened_world u x v (old_links u x)) s ≡ ended Moved (link_at u s)
link_ended u x v s e l =
    get_or_append_left (old_links u x) (new_link u x v ∷ []) no_link s (omega (arith, old_many u x))
    ∙ ap (λ c. get_or (end_out Moved u c).links s no_link) e
    ∙ get_or-set_same u.links s (ended Moved (link_at u s)) no_link l

-- each other is as it was
pub link_was : (u : World) (x v s : ℕ) → ((member_at u x).out ≡ Some s → ⊥) → s < length u.links → link_at (opened_world u x v (old_links u x)) s ≡ link_at u s
link_was u x v s ne l = get_or_append_left (old_links u x) (new_link u x v ∷ []) no_link s (omega (arith, old_many u x)) ∙ by_out (member_at u x).out refl
  where
    by_out : (c : Option ℕ) → (member_at u x).out ≡ c → get_or (end_out Moved u c).links s no_link ≡ link_at u s
    by_out None e = refl
    by_out (Some o) e = get_or-set_other u.links o s (ended Moved (link_at u o)) no_link (λ (same : s ≡ o). ne (e ∙ ap Some (sym same)))

-- ---- its old out end

-- What becomes of the end on which it sent, and which end is replaced.
record OldEnds (u : World) (x : ℕ) (p : Places) (replaced : Option (LinkName × OutSeen)) (outs : ℕ → OutSeen) : Type 0 where
  same : (s : ℕ) → ((member_at u x).out ≡ Some s → ⊥) → outs s ≡ p.outs s
  ends : (s : ℕ) → (member_at u x).out ≡ Some s → ActsOut (None ∷ []) [] true (p.outs s) (outs s)
  is_replaced : (s : ℕ) → (member_at u x).out ≡ Some s → replaced ≡ Some (name_of u s, outs s)
  none : (member_at u x).out ≡ None → replaced ≡ None

old_ends : (u : World) (x : ℕ) (p : Places) (replaced : Option (LinkName × OutSeen)) → OwnEnds u → Replacing x (option_map (outgoing_in u) (member_at u x).out) (option_map p.outs (member_at u x).out) replaced → (outs : ℕ → OutSeen) × OldEnds u x p replaced outs
old_ends u x p replaced own = by_out (member_at u x).out refl
  where
    by_out : (c : Option ℕ) → (member_at u x).out ≡ c → Replacing x (option_map (outgoing_in u) c) (option_map p.outs c) replaced → (outs : ℕ → OutSeen) × OldEnds u x p replaced outs
    by_out None e l = (
      p.outs,
      record {
        same = λ s ne. refl;
        ends = λ s k. (let both : None ≡ Some s = sym e ∙ k in cc);
        is_replaced = λ s k. (let both : None ≡ Some s = sym e ∙ k in cc);
        none = λ k. l;
      },
    )
    by_out (Some o) e l =
        let o' : OutSeen = l.0 in
        let named : ring_link x (link_at u o).receiver (link_at u o).opened ≡ name_of u o = ap (λ y. ring_link y (link_at u o).receiver (link_at u o).opened) (sym (own.out x o e).1) in (
          placed p.outs o o',
          record {
            same = λ s ne. placed_other p.outs o o' s (λ (same : s ≡ o). ne (e ∙ ap Some (sym same)));
            ends = λ s k. (let both : Some o ≡ Some s = sym e ∙ k in let is : o ≡ s = cc in subst (λ t. ActsOut (None ∷ []) [] true (p.outs t) (placed p.outs o o' t)) is (subst (ActsOut (None ∷ []) [] true (p.outs o)) (sym (placed_same p.outs o o')) l.1));
            is_replaced = λ s k. (let both : Some o ≡ Some s = sym e ∙ k in let is : o ≡ s = cc in
                l.2 ∙ ap (λ n. Some (n, o')) named ∙ ap (λ k2. Some (name_of u o, k2)) (sym (placed_same p.outs o o')) ∙ ap (λ t. Some (name_of u t, placed p.outs o o' t)) is);
            none = λ k. (let both : Some o ≡ None = sym e ∙ k in cc);
          },
        )

-- ---- a link opens

-- the link that x opens to z in the view of a version, with its first packet
abbrev pub link_to : World → ℕ → ℕ → ℕ → Packet → Link
link_to u x z v first = pushed (fresh_link u x z v) first

-- In u' a member x of u has a view of version v, and sends on the link that it has opened, behind those of u, to its right neighbour in that
-- view, with this first packet. The test says which link it may take from still, and these of the links that have opened wait at the registrar.
pub record HasOpened (initial : ℕ) (u u' : World) (x v : ℕ) (view : Group) (first : Packet) (kept : ℕ → Bool) (waits : List ℕ) : Type 0 where
  pub some : 1 ≤ x
  pub is_member : x < size u
  pub own : OwnEnds u
  pub later : IsGood u'
  pub initial_is : u.initial ≡ initial
  pub numbered : view.version ≡ v
  pub after : AfterLook u u' x view kept
  pub test : (s : ℕ) → (member_at u x).current ≡ Some s → is_for view x (incoming_in u s) ≡ kept s
  pub here : (ds : List Incoming) → record (refreshed_held (held_in u x) view) { door = ds } ≡ record (held_in u' x) { door = ds }
  pub others : (z : ℕ) → z ≢ x → z < size u → (ds : List Incoming) → record (held_in u z) { door = ds } ≡ record (held_in u' z) { door = ds }
  pub out_here : (member_at u' x).out ≡ Some (length u.links)
  pub more : length u'.links ≡ length u.links + 1
  pub old : (s : ℕ) → s < length u.links → endless (link_at u' s) ≡ endless (link_at u s)
  pub ended : (s : ℕ) → (member_at u x).out ≡ Some s → s < length u.links → link_at u' s ≡ ended Moved (link_at u s)
  pub was : (s : ℕ) → ((member_at u x).out ≡ Some s → ⊥) → s < length u.links → link_at u' s ≡ link_at u s
  pub new : link_at u' (length u.links) ≡ link_to u x (right_of view x) v first
  pub goes_on : (s : ℕ) → (member_at u x).out ≡ Some s → (link_at u s).ending ≡ None
  pub first_is : first.version ≡ v
  pub lines : lines_on (held_in u x).known (unsent_on u.initial u.more (right_of view x) v) ≡ lines_in u no_sending first
  pub new_waits : (z : ℕ) → z < size u → cond (waits_for u' z (length u.links)) (length u.links ∷ []) [] ≡ filter (is_to u' z) waits

-- The old members stand in u', one of them as another; so do the links that waited, and each link is carried.
pub record StandOpened (ring : PairName) (initial : ℕ) (u u' : World) (x v : ℕ) (view : Group) (waits : List ℕ) (q : Parties) (b : Shown) (replaced : Option (LinkName × OutSeen)) : Type 0 where
  pub places : Places
  pub each : (z : ℕ) → 1 ≤ z → z < size u → MemberStands u' places z (node_at (with_node q (x - 1) b) (z - 1))
  pub before : List ℕ
  pub waiting : places.deposits ≡ before ++ waits
  pub deposits : q.deposits ≡ map (waiting_at u' places) before
  pub within : (s : ℕ) → is_in s before ≡ true → s < length u.links
  pub to_old : (z : ℕ) → filter (is_to u' z) before ≡ filter (is_to u z) before
  pub end_is : places.ins (length u.links) ≡ fresh_in ring initial
  pub named : name_of u' (length u.links) ≡ ring_link x (right_of view x) v
  pub carry : (s : ℕ) → s < length u'.links → has_in u' s ≡ true → Carries u' initial (link_at u' s) (places.outs s) (places.ins s)
  pub dropped : DroppedHaveMet u' places replaced
  pub fits : ReplacedFits u' places replaced
  pub met : OthersHaveMet u' places (moved_by x u')
  pub known : SendersKnow u' places

-- so they have moved where they stand at these places
pub opened_moves : {ring : PairName} {initial : ℕ} {u u' : World} {x v : ℕ} {view : Group} {waits : List ℕ} {q q' : Parties} {b : Shown} {replaced : Option (LinkName × OutSeen)} → (d : StandOpened ring initial u u' x v view waits q b replaced) → StandIn initial u' q' d.places → StandMoved initial x u' q' replaced
opened_moves d stand = record { places = d.places; stand = stand; dropped = d.dropped; fits = d.fits; met = d.met; known = d.known }

-- the replaced link holds its end
ended_carries : (w : World) (initial : ℕ) (l : Link) (o o' : OutSeen) (n : InSeen) → l.ending ≡ None → ActsOut (None ∷ []) [] true o o' → Carries w initial l o n → Carries w initial (ended Moved l) o' n
ended_carries w initial l o o' n goes = end_carries initial w l (ended Moved l) o o' n goes refl (ap (λ k. is_some (ended_by k)) goes) refl
  where
    ended_by : Option Ending → Option Ending
    ended_by k = (ended Moved (record l { ending = k })).ending

pub opens_parts : (ring : PairName) (initial : ℕ) (u u' : World) (x v : ℕ) (view : Group) (first : Packet) (kept : ℕ → Bool) (waits : List ℕ) (q : Parties) (b : Shown) (replaced : Option (LinkName × OutSeen)) → HasOpened initial u u' x v view first kept waits → Stand initial u q → filter (waits_at x) q.deposits ≡ [] → ring.slots ≡ (node_at q (x - 1)).held.initial + 1
    → b ≡ record { held = refreshed_held (node_at q (x - 1)).held view; ends = record (looked_ends view (node_at q (x - 1))) { out = Some (opened_out ring (node_at q (x - 1)).held.initial (first_sent (node_at q (x - 1)) view)) } }
    → Replacing (node_at q (x - 1)).held.id (node_at q (x - 1)).held.out (node_at q (x - 1)).ends.out replaced
    → StandOpened ring initial u u' x v view waits q b replaced
opens_parts ring initial u u' x v view first kept waits q b replaced k st none wide eb el = record {
  places = p';
  each = λ z c m. each_set u u' q p p' x b st.stand.count k.some k.is_member mine other z c m;
  before = p.deposits;
  waiting = refl;
  deposits = st.stand.deposits ∙ sym pending_deposits;
  within = st.stand.within;
  to_old = to_old;
  end_is = placed_same p.ins n n_new ∙ ap (fresh_in ring) initial_at;
  named = name_new;
  carry = carries;
  dropped = dropped;
  fits = fits;
  met = met;
  known = known;
}
  where
    p : Places
    p = st.places

    n : ℕ
    n = length u.links

    a : Shown
    a = node_at q (x - 1)

    h : MemberStands u p x a
    h = st.stand.each x k.some k.is_member

    after : AfterLook u u' x view kept
    after = k.after

    held_at : a.held ≡ held_in u x
    held_at = whole_held u p x a h (none_waits initial u q x st none)

    old : (outs : ℕ → OutSeen) × OldEnds u x p replaced outs
    old = old_ends u x p replaced k.own
        (subst (λ o. Replacing x (option_map (outgoing_in u) (member_at u x).out) o replaced) h.out
        (subst (λ (j : Held). Replacing j.id j.out a.ends.out replaced) held_at el))

    outs : ℕ → OutSeen
    outs = old.0

    o_new : OutSeen
    o_new = opened_out ring a.held.initial (first_sent a view)

    n_new : InSeen
    n_new = fresh_in ring a.held.initial

    p' : Places
    p' = record { outs = placed outs n o_new; ins = placed p.ins n n_new; deposits = p.deposits ++ waits }

    not_new : (s : ℕ) → s < n → s ≢ n
    not_new s l = λ (same : s ≡ n). omega arith

    ins_old : (s : ℕ) → s < n → p'.ins s ≡ p.ins s
    ins_old s l = placed_other p.ins n n_new s (not_new s l)

    outs_old : (s : ℕ) → s < n → p'.outs s ≡ outs s
    outs_old s l = placed_other outs n o_new s (not_new s l)

    name_old : (s : ℕ) → s < n → name_of u' s ≡ name_of u s
    name_old s l = ap (λ (i : Link). ring_link i.sender i.receiver i.opened) (k.old s l)

    incoming_was : (s : ℕ) → s < n → incoming_in u' s ≡ incoming_in u s
    incoming_was s l = ap (λ (i : Link). record { from = i.sender; opened = i.opened; counted = i.flow.receiver }) (k.old s l)

    name_new : name_of u' n ≡ ring_link x (right_of view x) v
    name_new = ap (λ (i : Link). ring_link i.sender i.receiver i.opened) k.new

    pending_deposits : map (waiting_at u' p') p.deposits ≡ map (waiting_at u p) p.deposits
    pending_deposits = map_agree (waiting_at u' p') (waiting_at u p) p.deposits
        (λ s i. ap (λ j. record { name = j; end = Some (p'.ins s) }) (name_old s (st.stand.within s i)) ∙ ap (λ j. record { name = name_of u s; end = Some j }) (ins_old s (st.stand.within s i)))

    to_old : (z : ℕ) → filter (is_to u' z) p.deposits ≡ filter (is_to u z) p.deposits
    to_old z = filter_agree_in (is_to u' z) (is_to u z) p.deposits (λ s e. ap (λ (i : Link). nat_eq i.receiver z) (k.old s (st.stand.within s e)))

    -- the doors, and the links that wait
    door_opens : (z : ℕ) (t : ℕ → Bool) → z < size u → ((s : ℕ) → s < n → waits_for u' z s ≡ t s) → door_links u' z ≡ filter t (range_with_len 0 n) ++ filter (is_to u' z) waits
    door_opens z t m tests =
        ap (λ i. filter (waits_for u' z) (range_with_len 0 i)) k.more
        ∙ filter_more (waits_for u' z) 0 n n (let is : 0 + n ≡ n = omega arith in is)
        ∙ ap (λ xs. xs ++ cond (waits_for u' z n) (n ∷ []) []) (filter_agree (waits_for u' z) t 0 n (λ s i j. tests s (omega arith)))
        ∙ ap (λ xs. filter t (range_with_len 0 n) ++ xs) (k.new_waits z m)

    deposit_opens : (z : ℕ) → filter (is_to u' z) (p.deposits ++ waits) ≡ filter (is_to u z) p.deposits ++ filter (is_to u' z) waits
    deposit_opens z = filter-append (is_to u' z) p.deposits waits ∙ ap (λ xs. xs ++ filter (is_to u' z) waits) (to_old z)

    mine : MemberStands u' p' x b
    mine = looker u u' p p' x view kept a b (Some o_new) k.own k.test h (none_waits initial u q x st none)
        (ap (λ (m : Shown). m.held) eb) (ap (λ (m : Shown). m.ends) eb)
        (sym (ap (option_map p'.outs) k.out_here ∙ ap Some (placed_same outs n o_new)))
        after.current_here
        k.here
        ins_old
        incoming_was
        (door_opens x (λ s. waits_for u x s && keeps_it u x view s) k.is_member (λ s l. after.waits_here s l)
        ∙ ap (λ xs. xs ++ filter (is_to u' x) waits) (sym (filter_both (waits_for u x) (keeps_it u x view) (range_with_len 0 n)))
        ∙ ap (λ ys. filter (keeps_it u x view) (door_links u x) ++ (ys ++ filter (is_to u' x) waits)) (sym (none_waits initial u q x st none))
        ∙ ap (λ ys. filter (keeps_it u x view) (door_links u x) ++ ys) (sym (deposit_opens x)))

    other : (z : ℕ) → 1 ≤ z → z < size u → z ≢ x → MemberStands u' p' z (node_at q (z - 1))
    other z c m ne = beholder u u' p p' z (node_at q (z - 1)) k.own (st.stand.each z c m) (after.out_other z ne) (after.current_other z ne m)
        (k.others z ne m)
        (λ s i. outs_old s (k.own.out z s i).0 ∙ old.1.same s (λ j. ne (sym (k.own.out z s i).1 ∙ (k.own.out x s j).1)))
        ins_old
        incoming_was
        (λ ds d.
        door_opens z (waits_for u z) m (λ s l. after.waits_other z s ne l)
        ∙ ap (λ xs. xs ++ filter (is_to u' z) waits) d
        ∙ append_assoc ds (filter (is_to u z) p.deposits) (filter (is_to u' z) waits)
        ∙ ap (λ ys. ds ++ ys) (sym (deposit_opens z)))

    has : (s : ℕ) → s < n → has_in u' s ≡ true → has_in u s ≡ true
    has s l i = look_has u u' x s view kept k.own after l i

    -- of an old link
    carries_old : (s : ℕ) → s < n → has_in u' s ≡ true → Carries u' initial (link_at u' s) (p'.outs s) (p'.ins s)
    carries_old s l i = subst (λ j. Carries u' initial (link_at u' s) j (p'.ins s)) (sym (outs_old s l)) (subst (Carries u' initial (link_at u' s) (outs s)) (sym (ins_old s l)) (by_out (is_place (member_at u x).out s) refl))
      where
        held : Carries u' initial (link_at u s) (p.outs s) (p.ins s)
        held = carries_logs initial u u' (link_at u s) (p.outs s) (p.ins s) after.logs (st.stand.carry s l (has s l i))

        by_out : (c : Bool) → is_place (member_at u x).out s ≡ c → Carries u' initial (link_at u' s) (outs s) (p.ins s)
        by_out true j =
            let o : (member_at u x).out ≡ Some s = place_is (member_at u x).out s j in
            subst (λ t. Carries u' initial t (outs s) (p.ins s)) (sym (k.ended s o l))
            (ended_carries u' initial (link_at u s) (p.outs s) (outs s) (p.ins s) (k.goes_on s o) (old.1.ends s o) held)
        by_out false j =
            let no : (member_at u x).out ≡ Some s → ⊥ = λ o. false≢true (sym j ∙ ap (λ c. is_place c s) o ∙ nat_eq-same s) in
            subst (λ t. Carries u' initial t (outs s) (p.ins s)) (sym (k.was s no l)) (subst (λ t. Carries u' initial (link_at u s) t (p.ins s)) (sym (old.1.same s no)) held)

    -- the new one holds its first packet, in its out end
    sent_is : first_sent a view ≡ record { view = first.version; lines = lines_in u' no_sending first }
    sent_is =
        ap (λ (j : Held). sent_of (packet_on view.version j.known (unsent_on j.initial j.more (right_of view j.id) view.version))) held_at
        ∙ ap (λ i. record { view = i; lines = lines_on (held_in u x).known (unsent_on u.initial u.more (right_of view x) i) }) k.numbered
        ∙ ap (λ ls. record { view = v; lines = ls }) (k.lines ∙ sym (same_lines u u' no_sending first after.logs))
        ∙ ap (λ i. record { view = i; lines = lines_in u' no_sending first }) (sym k.first_is)

    initial_at : a.held.initial ≡ initial
    initial_at = ap (λ (j : Held). j.initial) held_at ∙ k.initial_is

    opens : (sent : PacketShown) → sent ≡ record { view = first.version; lines = lines_in u' no_sending first } → Carries u' initial (link_to u x (right_of view x) v first) (opened_out ring initial sent) (fresh_in ring initial)
    opens sent e = opened_carries ring initial u' (link_to u x (right_of view x) v first) (Some sent ∷ []) initial (wide ∙ ap (λ i. i + 1) initial_at) (ap (λ s. Some s ∷ []) e) refl refl

    carries_new : Carries u' initial (link_at u' n) (p'.outs n) (p'.ins n)
    carries_new =
        subst (λ t. Carries u' initial t (p'.outs n) (p'.ins n)) (sym k.new)
        (subst (λ t. Carries u' initial (link_to u x (right_of view x) v first) t (p'.ins n)) (sym (placed_same outs n o_new))
        (subst (Carries u' initial (link_to u x (right_of view x) v first) o_new) (sym (placed_same p.ins n n_new))
        (subst (λ i. Carries u' initial (link_to u x (right_of view x) v first) (opened_out ring i (first_sent a view)) (fresh_in ring i)) (sym initial_at)
        (opens (first_sent a view) sent_is))))

    carries : (s : ℕ) → s < length u'.links → has_in u' s ≡ true → Carries u' initial (link_at u' s) (p'.outs s) (p'.ins s)
    carries s l i = ⊎_elim
        (λ (lt : s < n). carries_old s lt i)
        (λ (ge : n ≤ s). let is : s ≡ n = omega (arith, l, k.more) in subst (λ t. Carries u' initial (link_at u' t) (p'.outs t) (p'.ins t)) (sym is) carries_new)
        (cases_lt s n)

    -- x has no out end of an old link
    has_none : (s : ℕ) → s < n → (link_at u s).sender ≡ x → has_out u' s ≡ false
    has_none s l from = ap (λ y. is_place (member_at u' y).out s) (after.sender s l ∙ from) ∙ ap (λ c. is_place c s) k.out_here ∙ nat_eq-not n s (λ (same : n ≡ s). not_new s l (sym same))

    dropped : DroppedHaveMet u' p' replaced
    dropped s l i o = ⊎_elim
        (λ (lt : s < n). by_out lt (is_place (member_at u x).out s) refl)
        (λ (ge : n ≤ s).
        let is : s ≡ n = omega (arith, l, k.more) in
        absurd (false≢true (sym o ∙ ap (has_out u') is ∙ ap (λ y. is_place (member_at u' y).out n) (ap (λ (t : Link). t.sender) k.new) ∙ ap (λ c. is_place c n) k.out_here ∙ nat_eq-same n)))
        (cases_lt s n)
      where
        -- its sender had none before
        had_none : s < n → is_place (member_at u x).out s ≡ false → has_out u s ≡ false
        had_none lt j = ⊎_elim
            (λ (same : (link_at u s).sender ≡ x). ap (λ y. is_place (member_at u y).out s) same ∙ j)
            (λ (ne : (link_at u s).sender ≢ x). sym (ap (λ y. is_place (member_at u' y).out s) (after.sender s lt) ∙ ap (λ c. is_place c s) (after.out_other (link_at u s).sender ne)) ∙ o)
            (cases_eq (link_at u s).sender x)

        by_out : s < n → (c : Bool) → is_place (member_at u x).out s ≡ c → HasRested (p'.outs s) (p'.ins s) ⊎ (replaced ≡ Some (name_of u' s, p'.outs s))
        by_out lt true j =
            inr (old.1.is_replaced s (place_is (member_at u x).out s j) ∙ ap (λ t. Some (t, outs s)) (sym (name_old s lt)) ∙ ap (λ t. Some (name_of u' s, t)) (sym (outs_old s lt)))
        by_out lt false j =
            let no : (member_at u x).out ≡ Some s → ⊥ = λ t. false≢true (sym j ∙ ap (λ c. is_place c s) t ∙ nat_eq-same s) in
            let rested : HasRested (p.outs s) (p.ins s) = subst (λ c. HaveDone c (p.outs s) (p.ins s)) (had_none lt j) (st.met s lt (has s lt i)) in
            inl (subst (λ t. HasRested t (p'.ins s)) (sym (outs_old s lt ∙ old.1.same s no)) (subst (HasRested (p.outs s)) (sym (ins_old s lt)) rested))

    -- an old link with its out end isn't that on which x sent, and had it before
    others_old : (s : ℕ) → s < n → has_out u' s ≡ true → ((member_at u x).out ≡ Some s → ⊥) × (has_out u s ≡ true)
    others_old s l o =
        let ne : (link_at u s).sender ≢ x = λ (same : (link_at u s).sender ≡ x). false≢true (sym (has_none s l same) ∙ o) in (
          λ t. ne (k.own.out x s t).1,
          sym (ap (λ y. is_place (member_at u' y).out s) (after.sender s l) ∙ ap (λ c. is_place c s) (after.out_other (link_at u s).sender ne)) ∙ o,
        )

    met : OthersHaveMet u' p' (moved_by x u')
    met s l i o apart = ⊎_elim
        (λ (lt : s < n).
        let both = others_old s lt o in
        subst (HaveMet (p'.outs s)) (sym (ins_old s lt)) (subst (λ t. HaveMet t (p.ins s)) (sym (outs_old s lt ∙ old.1.same s both.0))
        (met_both (has_out u s) (p.outs s) (p.ins s) both.1 (st.met s lt (has s lt i)))))
        (λ (ge : n ≤ s). let is : s ≡ n = omega (arith, l, k.more) in absurd (head_differs (link_at u' s).sender x (sender_to x u') apart (sym (ap (λ t. (link_at u' t).sender) is ∙ ap (λ (t : Link). t.sender) k.new))))
        (cases_lt s n)

    known_old : (s : ℕ) → s < n → has_out u' s ≡ true → Knows u' p' s
    known_old s l o =
        let both = others_old s l o in
        ap (λ (t : OutSeen). t.back) (outs_old s l ∙ old.1.same s both.0) ∙ all_know initial u q st s l both.1 ∙ ap (λ (t : Link). t.flow.grants) (sym (k.was s both.0 l))

    -- no grant was given on the new one
    known_new : Knows u' p' n
    known_new = ap (λ (t : OutSeen). t.back) (placed_same outs n o_new) ∙ ap (λ (t : Link). t.flow.grants) (sym k.new)

    known : SendersKnow u' p'
    known s l i o = ⊎_elim
        (λ (lt : s < n). known_old s lt o)
        (λ (ge : n ≤ s). let is : s ≡ n = omega (arith, l, k.more) in subst (Knows u' p') (sym is) known_new)
        (cases_lt s n)

    fits : ReplacedFits u' p' replaced
    fits s o l i c = by_out (member_at u x).out refl
      where
        by_out : (d : Option ℕ) → (member_at u x).out ≡ d → (has_out u' s ≡ false) × (p'.outs s ≡ o)
        by_out None j = absurd (none-some (name_of u' s, o) (sym (old.1.none j) ∙ c))
        by_out (Some t) j =
            let tn : t < n = (k.own.out x t j).0 in
            let both : Some (name_of u t, outs t) ≡ Some (name_of u' s, o) = sym (old.1.is_replaced t j) ∙ c in
            let same : name_of u' t ≡ name_of u' s = name_old t tn ∙ first_same (name_of u t, outs t) (name_of u' s, o) both in
            let is : t ≡ s = name_is_unique u' t s k.later (omega (arith, tn, k.more)) l same in
            let pair : (name_of u t, outs t) ≡ (name_of u' s, o) = some_same (name_of u t, outs t) (name_of u' s, o) both in
            (ap (has_out u') (sym is) ∙ has_none t tn (k.own.out x t j).1, ap p'.outs (sym is) ∙ outs_old t tn ∙ ap (λ (z : LinkName × OutSeen). z.1) pair)

-- ---- a refresh

-- the state then
pub opens_after : (u : World) (x v : ℕ) → MayLook u x v → IsGood u → AfterLook u (opened_world u x v (old_links u x)) x (view_in u v) (kept_to u v)
opens_after u x v m g = record {
  current_here = ap (λ (k : Member). k.current) here;
  current_other = λ z ne _. ap (λ (k : Member). k.current) (member_other u x z y ne);
  currents = λ z s ne _ e. sym (ap (λ (k : Member). k.current) (member_other u x z y ne)) ∙ e;
  out_other = λ z ne. ap (λ (k : Member). k.out) (member_other u x z y ne);
  waits_here = λ s l. ap (λ (k : Member). waits_by u' x k.current k.version s) here ∙ waits_old u x v x y.current v s l ∙ door_stays u x v s m g l;
  waits_other = λ z s ne l. ap (λ (k : Member). waits_by u' z k.current k.version s) (member_other u x z y ne) ∙ waits_old u x v z (member_at u z).current (member_at u z).version s l;
  sender = λ s l. ap (λ (k : Link). k.sender) (link_old u x v s l);
  receiver = λ s l. ap (λ (k : Link). k.receiver) (link_old u x v s l);
  logs = logs_set u x y u'.members m.is_member refl refl;
}
  where
    y : Member
    y = sending_member u x v (length u.links)

    u' : World
    u' = opened_world u x v (old_links u x)

    here : member_at u' x ≡ y
    here = member_same u x y m.is_member

refresh_opened : (initial : ℕ) (u : World) (x v : ℕ) → IsLooking initial u x v → sends_right u x v ≡ false → HasOpened initial u (opened_world u x v (old_links u x)) x v (view_in u v) (next_packet (moved_to u x v) no_sending) (kept_to u v) (length u.links ∷ [])
refresh_opened initial u x v k e = record {
  some = k.some;
  is_member = k.may.is_member;
  own = k.own;
  later = subst IsGood is_opened k.later;
  initial_is = k.initial_is;
  numbered = view_version u v k.good k.may.upto;
  after = opens_after u x v k.may k.good;
  test = λ s. for_kept u x v s k.may k.good;
  here = λ ds. ap (λ (j : Held). record j { door = ds }) (refresh_stands u x v k.may k.good k.right ∙ ap (λ w. held_in w x) is_opened);
  others = λ z ne m ds. ap (λ (j : Held). record j { door = ds }) (sym (sym (ap (λ w. held_in w z) is_opened) ∙ refresh_others u x v z k.may k.good (record { out = λ s i. (k.own.out z s i).0; current = λ s i. (k.own.current z s i).0 }) ne));
  out_here = ap (λ (m : Member). m.out) here;
  more = links_more u x v;
  old = link_old u x v;
  ended = λ s o l. link_ended u x v s o l;
  was = λ s no l. link_was u x v s no l;
  new = link_new u x v;
  goes_on = λ s o. (k.ends.sends x s (ap runs_phase k.may.up) o).goes_on;
  first_is = refl;
  lines = k.first;
  new_waits = λ z m. ⊎_elim
      (λ (same : z ≡ x). subst (λ y. cond (waits_for u' y n) (n ∷ []) [] ≡ filter (is_to u' y) (n ∷ [])) (sym same) waits_x)
      (λ (ne : z ≢ x). ap (λ b. cond b (n ∷ []) []) (ap (λ (i : Member). waits_by u' z i.current i.version n) (member_other u x z y ne) ∙ waits_new u x v z (member_at u z).current (version_of u z) k.may k.good (k.good.inv.is_ring.held z) (current_lt u z n (member_at u z).current (λ s i. (k.own.current z s i).0)) ∙ to z))
      (cases_eq z x);
}
  where
    n : ℕ
    n = length u.links

    u' : World
    u' = opened_world u x v (old_links u x)

    y : Member
    y = sending_member u x v n

    is_opened : refreshed u x v ≡ u'
    is_opened = refresh_opens u x v k.may.is_member e

    here : member_at u' x ≡ y
    here = member_same u x y k.may.is_member

    to : (z : ℕ) → nat_eq (right_of (view_in u v) x) z ≡ is_to u' z n
    to z = sym (ap (λ (i : Link). nat_eq i.receiver z) (link_new u x v))

    waits_x : cond (waits_for u' x n) (n ∷ []) [] ≡ filter (is_to u' x) (n ∷ [])
    waits_x = ap (λ b. cond b (n ∷ []) [])
        (ap (λ (m : Member). waits_by u' x m.current m.version n) here
        ∙ waits_new u x v x y.current v k.may k.good k.may.upto (kept_lt n (λ s. is_kept u (link_at u s) v) (member_at u x).current (current_lt u x n (member_at u x).current (λ s i. (k.own.current x s i).0)))
        ∙ to x)

pub opens_on : (ring : PairName) (initial : ℕ) (u : World) (x v : ℕ) (q : Parties) (b : Shown) (new : Deposit) (replaced : Option (LinkName × OutSeen)) → IsLooking initial u x v → sends_right u x v ≡ false → Stand initial u q → filter (waits_at x) q.deposits ≡ [] → ring.slots ≡ (node_at q (x - 1)).held.initial + 1
    → b ≡ record { held = refreshed_held (node_at q (x - 1)).held (view_in u v); ends = record (looked_ends (view_in u v) (node_at q (x - 1))) { out = Some (opened_out ring (node_at q (x - 1)).held.initial (first_sent (node_at q (x - 1)) (view_in u v))) } }
    → new ≡ record { name = ring_link (node_at q (x - 1)).held.id (right_of (view_in u v) (node_at q (x - 1)).held.id) (view_in u v).version; end = Some (fresh_in ring (node_at q (x - 1)).held.initial) }
    → Replacing (node_at q (x - 1)).held.id (node_at q (x - 1)).held.out (node_at q (x - 1)).ends.out replaced
    → StandMoved initial x (refreshed u x v) (record (with_node q (x - 1) b) { deposits = q.deposits ++ new ∷ [] }) replaced
opens_on ring initial u x v q b new replaced k e st none wide eb en el = subst (λ w. StandMoved initial x w (record (with_node q (x - 1) b) { deposits = q.deposits ++ new ∷ [] }) replaced) (sym is_opened) (opened_moves d (record {
  count = (let same : length (set q.nodes (x - 1) b) ≡ length q.nodes = length-set q.nodes (x - 1) b in omega (arith, same, many, st.stand.count));
  each = λ z c m. d.each z c (omega (arith, m, many));
  views = st.stand.views;
  stopped = λ z c m. st.stand.stopped z c (omega (arith, m, many)) ∙ sym (sym (ap (λ w. is_stopped (member_at w z).phase) is_opened) ∙ stopped_same u (refreshed u x v) z (told_refreshed u x v));
  nobody_else = λ z ge. st.stand.nobody_else z (omega (arith, ge, many));
  deposits = ap (λ xs. xs ++ new ∷ []) d.deposits ∙ ap (λ i. map (waiting_at u' d.places) d.before ++ i ∷ []) new_is ∙ sym (map-append (waiting_at u' d.places) d.before (n ∷ [])) ∙ ap (map (waiting_at u' d.places)) (sym d.waiting);
  within = λ s i. ⊎_elim
      (λ (j : is_in s d.before ≡ true). let l : s < n = d.within s j in omega (arith, l, more))
      (λ (j : s ≡ n). omega (arith, j, more))
      (in_push s n d.before (ap (is_in s) (sym d.waiting) ∙ i));
  carry = d.carry;
}))
  where
    n : ℕ
    n = length u.links

    u' : World
    u' = opened_world u x v (old_links u x)

    is_opened : refreshed u x v ≡ u'
    is_opened = refresh_opens u x v k.may.is_member e

    d : StandOpened ring initial u u' x v (view_in u v) (n ∷ []) q b replaced
    d = opens_parts ring initial u u' x v (view_in u v) (next_packet (moved_to u x v) no_sending) (kept_to u v) (n ∷ []) q b replaced (refresh_opened initial u x v k e) st none wide eb el

    many : size u' ≡ size u
    many = length-set u.members x (sending_member u x v n)

    more : length u'.links ≡ n + 1
    more = links_more u x v

    held_at : (node_at q (x - 1)).held ≡ held_in u x
    held_at = whole_held u st.places x (node_at q (x - 1)) (st.stand.each x k.some k.may.is_member) (none_waits initial u q x st none)

    new_is : new ≡ waiting_at u' d.places n
    new_is = en
        ∙ ap (λ (j : Held). record { name = ring_link j.id (right_of (view_in u v) j.id) (view_in u v).version; end = Some (fresh_in ring j.initial) }) held_at
        ∙ ap (λ i. record { name = ring_link x (right_of (view_in u v) x) (view_in u v).version; end = Some (fresh_in ring i) }) k.initial_is
        ∙ ap (λ i. record { name = ring_link x (right_of (view_in u v) x) i; end = Some (fresh_in ring initial) }) (view_version u v k.good k.may.upto)
        ∙ ap (λ i. record { name = i; end = Some (fresh_in ring initial) }) (sym d.named)
        ∙ ap (λ i. record { name = name_of u' n; end = Some i }) (sym d.end_is)
