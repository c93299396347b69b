-- A put in a turn.
use Rattle.std.proofs.Common.{◌≡◌, ℕ, ◌+◌, ◌≤◌, false, [], ◌∷◌, ◌++◌, map, Option, Some, None, is_some, refl, sym, ap, subst, ◌∙◌, arith, append-nil}
use Rattle.std.specs.Prelude.{option_map, MatchOption, ⊤}
use Rattle.std.proofs.lemmas.List.{map-append}
use Rattle.rtrb.specs.Ring.{sent, received as got, known_items}
use Rattle.lamport_merge.specs.Recorder.{noted, given}
use Rattle.ordered_link.specs.declared.ring.RingOut.{RingOut}
use Rattle.ordered_link.specs.declared.ring.RingIn.{RingIn}
use Rattle.gm_member.specs.declared.links.InLink.{InLink}
use Rattle.ordered_link.specs.RingSteps.{RingPuts}
use Rattle.activity.specs.declared.packet.Load.{Load}
use Rattle.activity.specs.Packets.{PacketSeen}
use Rattle.activity.specs.Kept.{got_of}
use Rattle.confirm_book.specs.Book.{last_of}
use Rattle.ring_rules.specs.declared.event.Event.TheVariants as event
use Rattle.ring_rules.specs.OpenLinks.{is_place}
use Rattle.gm_member.specs.Packets.{packet_by_id}
use Rattle.gm_member.specs.Loads.{as_item}
use Rattle.gm_member.specs.Held.{Held, at_some, put_refused, put_held, put_on, packet_on}
use Rattle.gm_member.specs.View.{out_of, in_of, end_of}
use Rattle.gm_member.specs.Shown.{held_of, ends_of, recorded_of, spare_of, PutsOn, LooksOut}
use Rattle.ring_parties.specs.declared.party.Party.{Party}
use Rattle.ring_parties.specs.Ends.{PacketShown, OutSeen, InSeen}
use Rattle.ring_parties.specs.Keeps.{own_known}
use Rattle.ring_parties.specs.Parties.{keeps_in, out_seen}
use Rattle.ring_parties.specs.Acting.{sent_of}
use Rattle.ring_parties.specs.RoundActs.{Stamped, push}
use Rattle.ring_parties.specs.Round.{Seat, Deed}
use Rattle.ring_parties.specs.Turn.{time_at, timed_item, timed_items, timed_grants, OutPasses, OutsPass, MayTurn, TakesTurns, Acted}
use Rattle.ring_parties.proofs.lists.Truth.{made_some}
use Rattle.ring_parties.proofs.standing.Rings.{pair_out, out_back_same}
use Rattle.ring_parties.proofs.standing.Shown.{end_there, returned_there, in_there, same_out}
use Rattle.ring_parties.proofs.turns.Named.{names_put}
use Rattle.ring_parties.proofs.turns.Links.{place_of, none_here, push_puts, push_takes, given_time, in_rests, out_rests, none_waits, is_open, open_there, ends_but, acted_one, acted_still, may_still}

-- what passes the end
put_passes : (round t : ℕ) (o p : RingOut Load) (k : PacketSeen) (said : PacketShown) → RingPuts o (as_item k) p → sent_of (packet_by_id k) ≡ said → time_at round k.stamp ≡ t → o.ended ≡ false → OutPasses round (record { stamp = t; it = Some said } ∷ []) [] o p
put_passes round t o p k said e is time open_end = record {
  items =
      ap (timed_items round) e.1 ∙ map-append (timed_item round) (sent o.items) (as_item k ∷ [])
      ∙ ap (λ s. timed_items round (sent o.items) ++ record { stamp = s; it = Some (sent_of (packet_by_id k)) } ∷ []) time
      ∙ ap (λ x. timed_items round (sent o.items) ++ record { stamp = t; it = Some x } ∷ []) is;
  unended = refl;
  grants = ap (λ v. timed_grants round (got v)) e.3 ∙ sym (append-nil (timed_grants round (got o.back)));
  back = ap (λ v. timed_grants round (known_items v)) e.3;
  ended = e.5 ∙ sym open_end;
  initial = e.4;
  ring = pair_out o p e.0 (out_back_same o p e.3);
}

-- ---- a party that has put

-- what the entry tells
abbrev put_deed : Seat → PacketShown → ℕ → ℕ → Deed
put_deed a said s t = record { event = event.Put a.held.name; there = (s, push (record { stamp = t; it = Some said })) ∷ []; back = [] }

pub put_turns : (p q : Party) → MayTurn p → PutsOn RingPuts (given (recorded_of q.node)) p.node q.node → held_of q.node ≡ put_held (held_of p.node) → put_refused (held_of p.node) ≡ None
    → recorded_of q.node ≡ noted (event.Put (held_of p.node).name) (recorded_of p.node) → keeps_in q ≡ keeps_in p → TakesTurns p q
put_turns p q may (l, l', ml, nl, (k, said, (o, o', lo, lo', puts), stamped), kept, (current, door, old_outs, old_ins)) held enabled recorded keeps a sits =
    let t : ℕ = (recorded_of p.node).time + 1 in
    let round : ℕ = (recorded_of p.node).round in
    let place : (s : ℕ) × (a.out ≡ Some s) = place_of a.out (sits.out ∙ ap is_some (ap (option_map out_of) ml)) in
    let out : a.held.out ≡ Some (out_of l) = ap (λ h. h.out) sits.held ∙ ap (option_map out_of) ml in
    let x : PacketShown = sent_of (packet_on a.held.view.version a.held.known (out_of l)) in
    let b : Seat = record a { held = put_held a.held } in
    let z : Stamped (Option PacketShown) = record { stamp = t; it = Some x } in
    let time : time_at round k.stamp ≡ t = ap (time_at round) stamped ∙ given_time round t (recorded_of q.node) (ap (λ r. r.is_alone) recorded ∙ may.beside) (ap (λ r. r.round) recorded) (ap (λ r. r.time) recorded) in
    let is : sent_of (packet_by_id k) ≡ x = ap sent_of said ∙ ap (λ h. sent_of (packet_on h.view.version h.known (out_of l))) (sym sits.held) in (
      b,
      (t, put_deed a x place.0 t) ∷ [],
      record {
        run = (b, (refl, (out_of l, place.0, t, out, place.1, ap put_refused sits.held ∙ enabled, omega arith, refl, refl, refl)), refl);
        sits = record {
          held = ap put_held sits.held ∙ sym held;
          keeps = sits.keeps ∙ sym keeps;
          out = sits.out ∙ sym (made_some (put_on (held_of p.node).known) (held_of p.node).out) ∙ ap (λ h. is_some h.out) (sym held);
          current = sits.current ∙ ap (λ h. is_some h.current) (sym held);
        };
        same_out = refl;
        same_current = refl;
        same_door = refl;
        names = names_put a.held;
        put = z ∷ [];
        gained = [];
        taken = [];
        given = [];
        puts_are = λ s. push_puts t place.0 s z a.out place.1;
        gains_are = λ s. none_here (is_place a.out s);
        takes_are = λ s. push_takes t place.0 s z (is_place a.current s);
        gives_are = λ s. none_here (is_place a.current s);
        out_end = subst (λ e. OutsPass round (z ∷ []) [] e (ends_of q.node).out) (sym (ap end_there ml ∙ lo)) (o', ap end_there nl ∙ lo', put_passes round t o o' k x puts is time (is_open p l o may ml lo));
        in_end = in_rests round (ends_of p.node).link (ends_of q.node).link (ap (λ c. at_some c None (λ (i : InLink (RingIn Load)). i.end)) current) (none_waits p may);
        others = ends_but (ends_of p.node) (ends_of q.node) (ap returned_there nl ∙ kept ∙ sym (ap returned_there ml)) (ap (λ v. map end_of v.items) door) (ap (λ v. v.items) old_outs) (ap (λ v. v.items) old_ins);
        recorded = ap (λ r. r.entries) recorded ∙ ap (λ n. (recorded_of p.node).entries ++ (t, event.Put n) ∷ []) (ap (λ h. h.name) (sym sits.held));
      },
    )

pub put_may : (p q : Party) → MayTurn p → PutsOn RingPuts (given (recorded_of q.node)) p.node q.node → held_of q.node ≡ put_held (held_of p.node)
    → recorded_of q.node ≡ noted (event.Put (held_of p.node).name) (recorded_of p.node) → keeps_in q ≡ keeps_in p → MayTurn q
put_may p q may (l, l', ml, nl, (k, said, (o, o', lo, lo', puts), stamped), kept, (current, door, old_outs, old_ins)) held recorded keeps = record {
  beside = ap (λ r. r.is_alone) recorded ∙ may.beside;
  up = ap (λ h. h.phase) held ∙ may.up;
  free = ap (λ h. h.asks) held ∙ may.free;
  out = open_there q.node l' o' nl lo' puts.5;
  link = subst (λ (c : Option (InLink (RingIn Load))). MatchOption (option_map in_of c) ⊤ (λ _. MatchOption (in_there c) ⊥ (λ (n : InSeen). n.late ≡ None))) (sym current) may.link;
  returned = ap returned_there nl ∙ kept ∙ sym (ap returned_there ml) ∙ may.returned;
  booked = ap (λ k. last_of k.book) keeps ∙ may.booked ∙ ap (λ h. got_of (own_known h)) (sym held);
}

pub put_acted : (p q : Party) → MayTurn p → PutsOn RingPuts (given (recorded_of q.node)) p.node q.node → held_of q.node ≡ put_held (held_of p.node) → put_refused (held_of p.node) ≡ None
    → recorded_of q.node ≡ noted (event.Put (held_of p.node).name) (recorded_of p.node) → keeps_in q ≡ keeps_in p → spare_of p.node ≤ spare_of q.node → Acted (event.Put (held_of p.node).name ∷ []) p q
put_acted p q may on held enabled recorded keeps room =
    acted_one p q ((recorded_of p.node).time + 1) (event.Put (held_of p.node).name) (put_turns p q may on held enabled recorded keeps) (put_may p q may on held recorded keeps) (ap (λ r. r.round) recorded) (ap (λ r. r.entries) recorded) (omega (arith, room))

-- nothing was put
pub put_not : (p q : Party) → MayTurn p → LooksOut (λ a b. b ≡ a) p.node q.node → held_of q.node ≡ held_of p.node → recorded_of q.node ≡ recorded_of p.node → keeps_in q ≡ keeps_in p → spare_of p.node ≤ spare_of q.node → Acted [] p q
put_not p q may looks held recorded keeps room =
    let same = same_out p.node q.node looks in
    let current = looks.0.0 in
    acted_still p q
    (may_still p q may held keeps recorded
    (subst (λ (h : Held). MatchOption h.out ⊤ (λ _. MatchOption (option_map out_seen (ends_of q.node).out) ⊥ (λ (o : OutSeen). o.ended ≡ false))) (sym held)
    (subst (λ (e : Option (RingOut Load)). MatchOption (held_of p.node).out ⊤ (λ _. MatchOption (option_map out_seen e) ⊥ (λ (o : OutSeen). o.ended ≡ false))) (sym same.0) may.out))
    (subst (λ (c : Option (InLink (RingIn Load))). MatchOption (option_map in_of c) ⊤ (λ _. MatchOption (in_there c) ⊥ (λ (n : InSeen). n.late ≡ None))) (sym current) may.link)
    (same.1 ∙ may.returned))
    held keeps recorded room
    (out_rests (recorded_of p.node).round (ends_of p.node).out (ends_of q.node).out same.0)
    (in_rests (recorded_of p.node).round (ends_of p.node).link (ends_of q.node).link (ap (λ c. at_some c None (λ (i : InLink (RingIn Load)). i.end)) current) (none_waits p may))
    (ends_but (ends_of p.node) (ends_of q.node) same.1 (ap (λ v. map end_of v.items) looks.0.1) (ap (λ v. v.items) looks.0.2) (ap (λ v. v.items) looks.0.3))
