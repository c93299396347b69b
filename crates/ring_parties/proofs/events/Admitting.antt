-- An admission, as a step of the ring: the parties stand in the state after it, and who is admitted has the link that opened to it.
use Rattle.std.proofs.Common.{◌≡◌, ◌≢◌, ℕ, ◌+◌, ◌-◌, ◌<◌, ◌≤◌, true, false, cond, not, nat_eq, List, [], ◌∷◌, ◌++◌, length, get_or, set, map, Option, Some, None, refl, sym, ap, subst, ◌∙◌, arith, ⊎_elim, append-nil}
use Rattle.std.specs.Prelude.{◌&&◌, option_map}
use Rattle.std.specs.List.{filter}
use Rattle.std.proofs.lemmas.Bool.{cases_eq, cases_lt}
use Rattle.std.proofs.lemmas.List.{length-set, length_push, get_or_append_left, get_or_push}
use Rattle.ring_names.specs.declared.numbers.CreditSpec.{CreditSpec}
use Rattle.group_view.specs.declared.link.LinkName.{LinkName}
use Rattle.group_view.specs.View.{Group}
use Rattle.group_view.specs.Ring.{is_in}
use Rattle.group_view.specs.Change.{admitted}
use Rattle.group_view.specs.Since.{no_group}
use Rattle.group_view.proofs.Rings.{nat_eq-not}
use Rattle.group_view.proofs.Neighbours.{filter_none}
use Rattle.ring_rules.specs.View.{right_of}
use Rattle.ring_rules.specs.Machine.{World, Member, Link, Packet, no_member, no_sending, member_at, link_at, view_in, newest, runs_phase}
use Rattle.ring_rules.specs.Step.{size, log_of, next_packet, next_lines, moved_to, kept_current, joiner, admitted_view, come_to}
use Rattle.ring_rules.specs.declared.kind.ViewChange.TheVariants as change
use Rattle.ring_rules.specs.Kind.{Changes}
use Rattle.ring_rules.specs.Event.{admit_refusal, refused_as, refreshed, done_as, is_stopped}
use Rattle.ring_rules.proofs.events.Enabled.{up_none}
use Rattle.ring_rules.proofs.rings.Lists.{get_or_beyond}
use Rattle.ring_rules.proofs.walks.Views.{view_new}
use Rattle.ring_rules.proofs.invariants.KeptAdmit.{CanJoin, receivers}
use Rattle.ring_rules.proofs.invariants.Happens.{IsGood, can_join, right_in_come}
use Rattle.ring_rules.proofs.walks.Ended.{EndsRight}
use Rattle.registrar.proofs.Members.{told_refreshed, stopped_same}
use Rattle.gm_member.specs.Held.{Held, joining_held, Incoming, at_some, sends_to, stays, refreshed_held}
use Rattle.gm_member.specs.View.{ring_link}
use Rattle.gm_member.specs.Stands.{incoming_in, outgoing_in, waits_for, door_links, known_in, held_in, lines_in, WaitsThere}
use Rattle.gm_member.proofs.Facts.{right_row}
use Rattle.gm_member.proofs.Fit.{IsFit}
use Rattle.gm_member.proofs.Parts.{known_by, known_same, held_by, held_same, current_waits_not, other_waits_not}
use Rattle.gm_member.proofs.DoorParts.{waits_by, member_same, member_other}
use Rattle.gm_member.proofs.OpenDoors.{SeesLinks, sends_right, sending_member, opened_world, old_links, refresh_opens, link_old, link_new, links_more, waits_old, incoming_old, outgoing_old}
use Rattle.gm_member.proofs.Doors.{stays_older}
use Rattle.gm_member.proofs.RefreshStands.{door_sees, looks_at}
use Rattle.gm_member.proofs.AdmitStands.{come_log, come_same, come_held, come_sees, come_right}
use Rattle.ring_rules.proofs.work.OwnEnds.{OwnEnds}
use Rattle.ordered_link.specs.Names.{PairName}
use Rattle.ring_parties.specs.Ends.{OutSeen, opened_out, fresh_in}
use Rattle.ring_parties.specs.Parties.{Shown, Deposit, Parties, no_shown, node_at, with_node, Keeps}
use Rattle.ring_parties.specs.Standing.{MemberStands, Stand, is_to}
use Rattle.ring_parties.specs.Acting.{Replacing, looked_ends, first_sent, newest_of, viewing, waits_at, admitting, joined, joining, LetsIn, Acts}
use Rattle.ring_parties.proofs.lists.Lists.{none_of_range}
use Rattle.ring_parties.proofs.work.Lawful.{IsLawfulAt}
use Rattle.ring_parties.proofs.events.OneEvent.{held_but_door, stands_at}
use Rattle.ring_parties.proofs.meetings.Meetings.{waiting_at}
use Rattle.ring_parties.proofs.standing.Frames.{StandMoved}
use Rattle.ring_parties.proofs.events.Marking.{first_packet, waits_view, newest_is, held_whole, when_true}
use Rattle.ring_parties.proofs.events.Refreshing.{AfterLook, kept_to, logs_set}
use Rattle.ring_parties.proofs.events.Opens.{HasOpened, StandOpened, opened_moves, link_to, link_ended, link_was, opens_parts}

module _ (w : World) (x : ℕ) (name : List ℕ) (j : CanJoin w x) (f : IsFit w) (own : OwnEnds w) where
  -- the version of that view
  abbrev next : ℕ
  next = newest w + 1

  -- the state after it
  abbrev then : World
  then = opened_world (come_to w x name) x (newest w + 1) (old_links (come_to w x name) x)

  -- ---- members

  within : x < size (come_to w x name)
  within = omega (arith, j.is_member, length_push w.members (joiner w name))

  here : member_at then x ≡ sending_member (come_to w x name) x next (length w.links)
  here = member_same (come_to w x name) x (sending_member (come_to w x name) x next (length w.links)) within

  was_x : member_at (come_to w x name) x ≡ member_at w x
  was_x = come_same w x name x j.is_member

  others : (z : ℕ) → z ≢ x → member_at then z ≡ member_at (come_to w x name) z
  others z ne = member_other (come_to w x name) x z (sending_member (come_to w x name) x next (length w.links)) ne

  -- who was there
  pub was_there : (z : ℕ) → z ≢ x → z < size w → member_at then z ≡ member_at w z
  was_there z ne l = others z ne ∙ come_same w x name z l

  apart : size w ≢ x
  apart = λ (e : size w ≡ x). omega (arith, e, j.is_member)

  -- who came
  pub came : member_at then (size w) ≡ joiner w name
  came = others (size w) apart ∙ get_or_push w.members (joiner w name) no_member (size w) refl

  -- nobody beyond
  beyond : (z : ℕ) → size w < z → member_at then z ≡ no_member
  beyond z l = others z (λ (e : z ≡ x). omega (arith, e, l, j.is_member)) ∙ get_or_beyond (w.members ++ joiner w name ∷ []) z no_member (omega (arith, l, length_push w.members (joiner w name)))

  pub many_then : size then ≡ size w + 1
  many_then = length-set (come_to w x name).members x (sending_member (come_to w x name) x next (length w.links)) ∙ length_push w.members (joiner w name)

  -- of each but x, by who it is
  each_other : (P : Member → Member → Type 0) (z : ℕ) → z ≢ x → ((y : Member) → P y y) → P (joiner w name) no_member → P (member_at then z) (member_at w z)
  each_other P z ne same new = ⊎_elim
      (λ (l : z < size w). subst (λ y. P y (member_at w z)) (sym (was_there z ne l)) (same (member_at w z)))
      (λ (ge : size w ≤ z).
      let none : member_at w z ≡ no_member = get_or_beyond w.members z no_member ge in
      subst (P (member_at then z)) (sym none) (⊎_elim
      (λ (e : z ≡ size w). subst (λ y. P y no_member) (sym (ap (member_at then) e ∙ came)) new)
      (λ (d : z ≢ size w). subst (λ y. P y no_member) (sym (beyond z (omega (arith, ge, d)))) (same no_member))
      (cases_eq z (size w))))
      (cases_lt z (size w))

  -- ---- views

  some_views : 0 < length w.views
  some_views = j.inv.is_ring.some

  is_next : length w.views ≡ next
  is_next = omega (arith, some_views)

  pub view_then : view_in (come_to w x name) next ≡ admitted_view w x name
  view_then = view_new w (admitted_view w x name) next is_next

  sees : SeesLinks (come_to w x name) x next
  sees = come_sees w x name j f.good

  -- x doesn't send to the newcomer yet
  opens : sends_right (come_to w x name) x next ≡ false
  opens = by_out (member_at (come_to w x name) x).out refl
    where
      by_out : (o : Option ℕ) → (member_at (come_to w x name) x).out ≡ o → sends_to (option_map (outgoing_in (come_to w x name)) o) (right_of (view_in (come_to w x name) next) x) ≡ false
      by_out None e = refl
      by_out (Some o) e =
          let lt : o < length w.links = (own.out x o (sym (ap (λ (y : Member). y.out) was_x) ∙ e)).0 in
          let less : (link_at w o).receiver < size w = receivers w x name j o lt in
          ap (nat_eq (link_at w o).receiver) (right_in_come w x name j) ∙ nat_eq-not (link_at w o).receiver (size w) (λ (same : (link_at w o).receiver ≡ size w). omega (arith, same, less))

  pub unsent_yet : sends_to (held_in w x).out (right_of (admitted_view w x name) x) ≡ false
  unsent_yet =
      ap (λ (h : Held). sends_to h.out (right_of (admitted_view w x name) x)) (come_held w x name x j.is_member f.good)
      ∙ ap (λ (g : Group). sends_to (held_in (come_to w x name) x).out (right_of g x)) (sym view_then)
      ∙ opens

  pub is_then : refreshed (come_to w x name) x next ≡ then
  is_then = refresh_opens (come_to w x name) x next within opens

  -- ---- links

  receiver_then : (s : ℕ) → s < length w.links → (link_at then s).receiver ≡ (link_at w s).receiver
  receiver_then s l = ap (λ (k : Link). k.receiver) (link_old (come_to w x name) x next s l)

  -- the new one goes to the newcomer
  new_to : (link_at then (length w.links)).receiver ≡ size w
  new_to = ap (λ (k : Link). k.receiver) (link_new (come_to w x name) x next) ∙ right_in_come w x name j

  -- the new view changes no door
  waits_come : (z s : ℕ) → z < size w → s < length w.links → waits_for (come_to w x name) z s ≡ waits_for w z s
  waits_come z s m l = ap (λ (k : Member). waits_by (come_to w x name) z k.current k.version s) (come_same w x name z m) ∙ waits_view w (admitted_view w x name) z s f.good l

  waits_other : (z s : ℕ) → z ≢ x → s < length w.links → waits_for then z s ≡ waits_for w z s
  waits_other z s ne l = ⊎_elim
      (λ (m : z < size w).
      ap (λ (k : Member). waits_by then z k.current k.version s) (others z ne)
      ∙ waits_old (come_to w x name) x next z (member_at (come_to w x name) z).current (member_at (come_to w x name) z).version s l
      ∙ waits_come z s m l)
      (λ (ge : size w ≤ z).
      let less : (link_at w s).receiver < size w = receivers w x name j s l in
      other_waits_not then z s (λ (e : (link_at then s).receiver ≡ z). omega (arith, e, receiver_then s l, less, ge))
      ∙ sym (other_waits_not w z s (λ (e : (link_at w s).receiver ≡ z). omega (arith, e, less, ge))))
      (cases_lt z (size w))

  waits_here : (s : ℕ) → s < length w.links → waits_for then x s ≡ (waits_for w x s && stays (admitted_view w x name) x (incoming_in w s))
  waits_here s l =
      ap (λ (k : Member). waits_by then x k.current k.version s) here
      ∙ waits_old (come_to w x name) x next x (sending_member (come_to w x name) x next (length w.links)).current next s l
      ∙ door_sees (come_to w x name) x next s sees l
      ∙ ap (λ b. b && stays (view_in (come_to w x name) next) x (incoming_in w s)) (waits_come x s j.is_member l)
      ∙ ap (λ (g : Group). waits_for w x s && stays g x (incoming_in w s)) view_then

  -- ---- what is left of the links that were there

  logs_then : (p : ℕ) → log_of then p ≡ log_of w p
  logs_then p = logs_set (come_to w x name) x (sending_member (come_to w x name) x next (length w.links)) then.members within refl refl p ∙ come_log w x name p

  left_then : AfterLook w then x (admitted_view w x name) (kept_to (come_to w x name) next)
  left_then = record {
    current_here = ap (λ (k : Member). k.current) here ∙ ap (λ (k : Member). kept_current (kept_to (come_to w x name) next) k.current) was_x;
    current_other = λ z ne m. ap (λ (k : Member). k.current) (was_there z ne m);
    currents = λ z s ne l. each_other (λ a b. a.current ≡ Some s → b.current ≡ Some s) z ne (λ y e. e)
        (λ e. let both : Some (length w.links) ≡ Some s = e in let is : length w.links ≡ s = cc in absurd (omega (arith, is, l)));
    out_other = λ z ne. each_other (λ a b. a.out ≡ b.out) z ne (λ y. refl) refl;
    waits_here = waits_here;
    waits_other = waits_other;
    sender = λ s l. ap (λ (k : Link). k.sender) (link_old (come_to w x name) x next s l);
    receiver = receiver_then;
    logs = logs_then;
  }

  -- ---- what the members hold

  held_x : (ds : List Incoming) → record (refreshed_held (held_in w x) (admitted_view w x name)) { door = ds } ≡ record (held_in then x) { door = ds }
  held_x ds =
      ap (λ (h : Held). record (refreshed_held h (admitted_view w x name)) { door = ds }) (come_held w x name x j.is_member f.good)
      ∙ ap (λ (g : Group). record (refreshed_held (held_in (come_to w x name) x) g) { door = ds }) (sym view_then)
      ∙ ap (λ (h : Held). record h { door = ds }) (looks_at (come_to w x name) x next sees (come_right w x name x j.is_member (λ p. right_row w x p f)))
      ∙ ap (λ u. record (held_in u x) { door = ds }) is_then

  held_other : (z : ℕ) → z ≢ x → z < size w → (ds : List Incoming) → record (held_in w z) { door = ds } ≡ record (held_in then z) { door = ds }
  held_other z ne m ds =
      let y : Member = member_at w z in
      held_same z y (known_in w z) (known_by then y) (view_in w y.version) (view_in then y.version) (option_map (outgoing_in w) y.out) (option_map (outgoing_in then) y.out) (option_map (incoming_in w) y.current) (option_map (incoming_in then) y.current) ds ds w.initial w.more
      (sym (known_same w then y logs_then))
      (sym (get_or_append_left w.views (admitted_view w x name ∷ []) no_group y.version (omega (arith, f.good.inv.is_ring.held z, some_views))))
      (same_out y.out (λ o e. (own.out z o e).0))
      (same_current y.current (λ s e. (own.current z s e).0))
      refl
      ∙ sym (ap (λ k. held_by z k (known_by then k) (view_in then k.version) (option_map (outgoing_in then) k.out) (option_map (incoming_in then) k.current) ds w.initial w.more) (was_there z ne m))
    where
      same_out : (o : Option ℕ) → ((s : ℕ) → o ≡ Some s → s < length w.links) → option_map (outgoing_in w) o ≡ option_map (outgoing_in then) o
      same_out None l = refl
      same_out (Some s) l = ap Some (sym (outgoing_old (come_to w x name) x next s (l s refl)))

      same_current : (c : Option ℕ) → ((s : ℕ) → c ≡ Some s → s < length w.links) → option_map (incoming_in w) c ≡ option_map (incoming_in then) c
      same_current None l = refl
      same_current (Some s) l = ap Some (sym (incoming_old (come_to w x name) x next s (l s refl)))

  -- ---- the link that opens

  -- its first packet
  abbrev first_then : Packet
  first_then = next_packet (moved_to (come_to w x name) x next) no_sending

  opened : (initial : ℕ) → EndsRight w → IsGood then → w.initial ≡ initial → 1 ≤ x → HasOpened initial w then x next (admitted_view w x name) first_then (kept_to (come_to w x name) next) []
  opened initial ends later initial_is some = record {
    some = some;
    is_member = j.is_member;
    own = own;
    later = later;
    initial_is = initial_is;
    numbered = numbered;
    after = left_then;
    test = λ s e.
        let e' : (member_at (come_to w x name) x).current ≡ Some s = ap (λ (k : Member). k.current) was_x ∙ e in
        let is = sees.current s e' in
        let older = is.2 in
        let reads = sees.may.later in
        sym (stays_older (admitted_view w x name) x next (incoming_in w s) numbered (omega arith))
        ∙ ap (λ (g : Group). stays g x (incoming_in w s)) (sym view_then)
        ∙ sees.stays_kept s next is.0 is.1 sees.may.upto;
    here = held_x;
    others = held_other;
    out_here = ap (λ (k : Member). k.out) here;
    more = links_more (come_to w x name) x next;
    old = link_old (come_to w x name) x next;
    ended = λ s o l. link_ended (come_to w x name) x next s (ap (λ (k : Member). k.out) was_x ∙ o) l;
    was = λ s no l. link_was (come_to w x name) x next s (λ e. no (sym (ap (λ (k : Member). k.out) was_x) ∙ e)) l;
    new = link_new (come_to w x name) x next ∙ ap (λ (g : Group). link_of (right_of g x)) view_then;
    goes_on = λ s o. (ends.sends x s (ap runs_phase j.up) o).goes_on;
    first_is = refl;
    lines = first_packet w x w.initial w.more (right_of (admitted_view w x name) x) next next f ∙ ap (λ (k : Member). lines_in w no_sending (record { version = next; numbers = next_lines true k.rows [] })) (sym was_x);
    new_waits = λ z m. ap (λ b. cond b (length w.links ∷ []) []) (other_waits_not then z (length w.links) (λ (e : (link_at then (length w.links)).receiver ≡ z). omega (arith, e, new_to, m)));
  }
    where
      numbered : (admitted_view w x name).version ≡ next
      numbered = ap (λ (g : Group). g.version) (sym view_then) ∙ sees.numbered

      link_of : ℕ → Link
      link_of z = link_to w x z next first_then

  -- ---- the newcomer

  -- no link stands at its door
  waits_nowhere : (s : ℕ) → s < length w.links + 1 → waits_for then (size w) s ≡ false
  waits_nowhere s l = ⊎_elim
      (λ (lt : s < length w.links). other_waits_not then (size w) s (λ (e : (link_at then s).receiver ≡ size w). let less : (link_at w s).receiver < size w = receivers w x name j s lt in omega (arith, e, receiver_then s lt, less)))
      (λ (ge : length w.links ≤ s).
      let is : s ≡ length w.links = omega (arith, ge, l) in
      current_waits_not then (size w) s (ap (λ (k : Member). k.current) came ∙ ap Some (sym is)))
      (cases_lt s (length w.links))

  pub no_door : door_links then (size w) ≡ []
  no_door = none_of_range (waits_for then (size w)) 0 (length then.links) (λ s _ b. waits_nowhere s (omega (arith, b, links_more (come_to w x name) x next)))

  pub waits_there : WaitsThere then (size w) name (admitted_view w x name)
  waits_there = record {
    named = ap (λ (k : Member). k.name) came;
    waits = ap (λ (k : Member). k.phase) came;
    looks = sym (ap (λ (k : Member). view_in then k.version) came ∙ ap (view_in then) is_next ∙ view_then);
    nothing = no_door;
  }

  none_to : (ps : List ℕ) → ((s : ℕ) → is_in s ps ≡ true → s < length w.links) → filter (is_to w (size w)) ps ≡ []
  none_to ps l = filter_none (is_to w (size w)) ps
      (λ s e. nat_eq-not (link_at w s).receiver (size w) (λ (same : (link_at w s).receiver ≡ size w). let less : (link_at w s).receiver < size w = receivers w x name j s (l s e) in omega (arith, same, less)))

-- ---- the parties

-- what is needed of the state and the parties for x to let in one of a name
record MayLetIn (credit : CreditSpec) (w : World) (x : ℕ) (name : List ℕ) (q : Parties) : Type 0 where
  some : 1 ≤ x
  can : CanJoin w x
  lawful : IsLawfulAt credit w
  later : IsGood (refreshed (come_to w x name) x (newest w + 1))
  joins : WaitsThere (refreshed (come_to w x name) x (newest w + 1)) (size w) name (admitted_view w x name) → joining_held credit name (size w) (admitted_view w x name) ≡ held_in (refreshed (come_to w x name) x (newest w + 1)) (size w)

lets_in : (credit : CreditSpec) (w : World) (x : ℕ) (name : List ℕ) (q q' : Parties) (replaced : Option (LinkName × OutSeen)) → MayLetIn credit w x name q → Stand credit.initial w q → filter (waits_at x) q.deposits ≡ []
    → LetsIn (admitted_view w x name) credit name (size w) (x - 1) q q' replaced → StandMoved credit.initial x (refreshed (come_to w x name) x (newest w + 1)) q' replaced
lets_in credit w x name q q' replaced k st none (b, new, how, is) =
    subst (λ u. StandMoved credit.initial x u q' replaced) (sym then_is) (subst (λ t. StandMoved credit.initial x u' t replaced) (sym is) (opened_moves d (record {
      count = omega (arith, members_are, many_then w x name j f own, st.stand.count);
      each = each;
      views = ap (λ vs. vs ++ g ∷ []) st.stand.views;
      stopped = stopped;
      nobody_else = λ z ge. st.stand.nobody_else z (omega (arith, ge, many_then w x name j f own));
      deposits = d.deposits ∙ ap (map (waiting_at u' d.places)) (sym places_are);
      within = λ s i. let l : s < length w.links = d.within s (ap (is_in s) (sym places_are) ∙ i) in omega (arith, l, more);
      carry = d.carry;
    })))
  where
    j : CanJoin w x
    j = k.can

    f : IsFit w
    f = k.lawful.fit

    own : OwnEnds w
    own = f.own_ends

    g : Group
    g = admitted_view w x name

    n : ℕ
    n = length w.links

    u' : World
    u' = opened_world (come_to w x name) x (newest w + 1) (old_links (come_to w x name) x)

    then_is : refreshed (come_to w x name) x (newest w + 1) ≡ u'
    then_is = is_then w x name j f own

    a : Shown
    a = node_at q (x - 1)

    held_at : a.held ≡ held_in w x
    held_at = held_whole credit.initial w q x k.some j.is_member st none

    unsent : sends_to a.held.out (right_of g a.held.id) ≡ false
    unsent = ap (λ (h : Held). sends_to h.out (right_of g h.id)) held_at ∙ unsent_yet w x name j f own

    how_opened : (ring : PairName) × (ring.slots ≡ a.held.initial + 1) × (b ≡ record { held = refreshed_held a.held g; ends = record (looked_ends g a) { out = Some (opened_out ring a.held.initial (first_sent a g)) } })
        × (new ≡ Some (record { name = ring_link a.held.id (right_of g a.held.id) g.version; end = Some (fresh_in ring a.held.initial) }))
        × Replacing a.held.id a.held.out a.ends.out replaced
    how_opened = when_true (not (sends_to a.held.out (right_of g a.held.id))) _ (ap not unsent) how.1

    d : StandOpened how_opened.0 credit.initial w u' x (newest w + 1) g [] q b replaced
    d = opens_parts how_opened.0 credit.initial w u' x (newest w + 1) g (first_then w x name j f own) (kept_to (come_to w x name) (newest w + 1)) [] q b replaced
        (opened w x name j f own credit.initial f.ends (subst IsGood then_is k.later) k.lawful.initial_is k.some) st none how_opened.1 how_opened.2 how_opened.4

    places_are : d.places.deposits ≡ d.before
    places_are = d.waiting ∙ append-nil d.before

    more : length u'.links ≡ n + 1
    more = links_more (come_to w x name) x (newest w + 1)

    m : Shown
    m = joined credit name (size w) g (at_some new None (λ (t : Deposit). t.end))

    members_are : length (set q.nodes (x - 1) b ++ m ∷ []) ≡ length q.nodes + 1
    members_are = length_push (set q.nodes (x - 1) b) m ∙ ap (λ i. i + 1) (length-set q.nodes (x - 1) b)

    end_new : new ≡ Some (record { name = ring_link a.held.id (right_of g a.held.id) g.version; end = Some (fresh_in how_opened.0 credit.initial) })
    end_new = how_opened.3 ∙ ap (λ i. Some (record { name = ring_link a.held.id (right_of g a.held.id) g.version; end = Some (fresh_in how_opened.0 i) })) (ap (λ (h : Held). h.initial) held_at ∙ k.lawful.initial_is)

    came_is : member_at u' (size w) ≡ joiner w name
    came_is = came w x name j f own

    newcomer_stands : MemberStands u' d.places (size w) m
    newcomer_stands = record {
      door = [];
      comes = no_door w x name j f own ∙ sym (ap (filter (is_to u' (size w))) places_are ∙ d.to_old (size w) ∙ none_to w x name j f own d.before d.within);
      held = subst (λ u. WaitsThere u (size w) name g → joining_held credit name (size w) g ≡ held_in u (size w)) then_is k.joins (waits_there w x name j f own)
          ∙ ap (λ ds. record (held_in u' (size w)) { door = map (incoming_in u') ds }) (no_door w x name j f own);
      out = sym (ap (λ (y : Member). option_map d.places.outs y.out) came_is);
      returned = refl;
      link = ap (λ o. at_some o None (λ (t : Deposit). t.end)) end_new ∙ ap Some (sym d.end_is) ∙ sym (ap (λ (y : Member). option_map d.places.ins y.current) came_is);
      ends = refl;
      old_outs = refl;
      old_ins = refl;
    }

    each : (z : ℕ) → 1 ≤ z → z < size u' → MemberStands u' d.places z (get_or (set q.nodes (x - 1) b ++ m ∷ []) (z - 1) no_shown)
    each z c lt = ⊎_elim
        (λ (l : z < size w).
        subst (MemberStands u' d.places z) (sym (get_or_append_left (set q.nodes (x - 1) b) (m ∷ []) no_shown (z - 1) (omega (arith, l, c, length-set q.nodes (x - 1) b, st.stand.count)))) (d.each z c l))
        (λ (ge : size w ≤ z).
        let same : z ≡ size w = omega (arith, ge, lt, many_then w x name j f own) in
        subst (MemberStands u' d.places z) (sym (get_or_push (set q.nodes (x - 1) b) m no_shown (z - 1) (omega (arith, same, c, length-set q.nodes (x - 1) b, st.stand.count))))
        (subst (λ t. MemberStands u' d.places t m) (sym same) newcomer_stands))
        (cases_lt z (size w))

    stopped : (z : ℕ) → 1 ≤ z → z < size u' → is_in z q.stopped ≡ is_stopped (member_at u' z).phase
    stopped z c lt = ⊎_elim
        (λ (l : z < size w).
        st.stand.stopped z c l
        ∙ ap (λ (y : Member). is_stopped y.phase) (sym (come_same w x name z l))
        ∙ sym (sym (ap (λ u. is_stopped (member_at u z).phase) then_is) ∙ stopped_same (come_to w x name) (refreshed (come_to w x name) x (newest w + 1)) z (told_refreshed (come_to w x name) x (newest w + 1))))
        (λ (ge : size w ≤ z).
        let same : z ≡ size w = omega (arith, ge, lt, many_then w x name j f own) in
        ap (λ t. is_in t q.stopped) same ∙ st.stand.nobody_else (size w) (omega arith) ∙ sym (ap (λ t. is_stopped (member_at u' t).phase) same ∙ ap (λ (y : Member). is_stopped y.phase) came_is))
        (cases_lt z (size w))

-- ---- the event

-- nothing refuses the name where it may happen, and its member can let in one more
pub can_admit : (w : World) (x : ℕ) (name : List ℕ) → IsGood w → refused_as w x (Changes (change.Admit name)) ≡ None → x < size w → (admit_refusal w name ≡ None) × CanJoin w x
can_admit w x name g r lt = let up = up_none w x (admit_refusal w name) r in (up.1, can_join w x name lt up.0 up.1 g)

-- there is one member more then
pub admit_many : (w : World) (x : ℕ) (name : List ℕ) → CanJoin w x → IsFit w → size (done_as w x (Changes (change.Admit name))) ≡ size w + 1
admit_many w x name can f = ap size (is_then w x name can f f.own_ends) ∙ many_then w x name can f f.own_ends

pub admit_between : (credit : CreditSpec) (w : World) (keeps : Keeps) (q q' : Parties) (i d : ℕ) (name : List ℕ) (replaced : Option (LinkName × OutSeen)) → IsLawfulAt credit w → IsLawfulAt credit (done_as w (i + 1) (Changes (change.Admit name))) → refused_as w (i + 1) (Changes (change.Admit name)) ≡ None → i + 1 < size w
    → Stand credit.initial w q → filter (waits_at (i + 1)) q.deposits ≡ [] → Acts (Changes (change.Admit name)) keeps i d q q' replaced → StandMoved credit.initial (i + 1) (done_as w (i + 1) (Changes (change.Admit name))) q' replaced
admit_between credit w keeps q q' i d name replaced h h' r lt st none (other, (initial_is, more_is), lets) =
    lets_in credit w x name q q' replaced (record {
      some = omega arith;
      can = can;
      lawful = h;
      later = h'.fit.good;
      joins = h'.joins (size w) name (admitted_view w x name);
    }) st none at
  where
    x : ℕ
    x = i + 1

    place : i + 1 - 1 ≡ i
    place = omega arith

    can : CanJoin w x
    can = (can_admit w x name h.fit.good r lt).1

    newest_then : newest_of q ≡ view_in w (newest w)
    newest_then = newest_is w q st.stand.views

    held_at : (node_at q i).held ≡ record (held_in w x) { door = (node_at q i).held.door }
    held_at = held_but_door w st.places x (node_at q i) (stands_at credit.initial w q st.places i st.stand lt)

    initial_same : other.initial ≡ credit.initial
    initial_same = initial_is ∙ ap (λ (k : Held). k.initial) held_at ∙ h.initial_is

    more_same : other.more ≡ credit.more
    more_same = more_is ∙ ap (λ (k : Held). k.more) held_at ∙ h.more_is

    joins_same : (id : ℕ) (g : Group) → joining_held other name id g ≡ joining_held credit name id g
    joins_same id g = rw (initial_same, more_same) refl

    at : LetsIn (admitted_view w x name) credit name (size w) (x - 1) q q' replaced
    at = subst (λ k. LetsIn (admitted_view w x name) credit name (size w) k q q' replaced) (sym place)
        (subst (λ k. LetsIn (admitted_view w x name) credit name k i q q' replaced) can.new_id
        (subst (λ g. LetsIn (admitted g x name) credit name g.next_id i q q' replaced) newest_then
        (lets.0, lets.1, lets.2, lets.3 ∙ ap (λ k. joining (record { held = k; ends = record { out = None; returned = None; link = at_some lets.1 None (λ (t : Deposit). t.end); door = []; old_outs = []; old_ins = [] } }) (viewing (admitting q i name) (with_node q i lets.0))) (joins_same (newest_of q).next_id (admitting q i name)))))
