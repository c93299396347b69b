-- A take in a turn.
use Rattle.std.proofs.Common.{◌≡◌, ℕ, ◌+◌, ◌<◌, ◌≤◌, max, Bool, false, cond, List, [], ◌∷◌, ◌++◌, length, map, Option, Some, None, is_some, refl, sym, ap, subst, ◌∙◌, ⊎_elim, ◌≢◌, arith, append-nil, append_assoc}
use Rattle.std.specs.Prelude.{option_map, MatchOption, ⊤}
use Rattle.std.proofs.lemmas.List.{map-append}
use Rattle.rtrb.specs.Ring.{sent, received as got, known_items, known_free}
use Rattle.ring_names.specs.declared.numbers.Stamp.{Stamp}
use Rattle.credit_flow.specs.Credit.{grant_due}
use Rattle.lamport_merge.specs.Recorder.{Recorded, time_in, met, noted, given}
use Rattle.ordered_link.specs.declared.grant.Grant.{Grant}
use Rattle.ordered_link.specs.declared.ring.RingOut.{RingOut}
use Rattle.ordered_link.specs.declared.ring.RingIn.{RingIn}
use Rattle.ordered_link.specs.RingSteps.{RingTakes, RingSends, RingWaited}
use Rattle.activity.specs.declared.packet.Load.{Load}
use Rattle.activity.specs.Packets.{PacketSeen}
use Rattle.activity.specs.Kept.{got_of}
use Rattle.confirm_book.specs.Book.{last_of, without_room, came_round}
use Rattle.ring_rules.specs.declared.phase.Phase.{Phase}
use Rattle.ring_rules.specs.declared.phase.Phase.TheVariants.{Up}
use Rattle.ring_rules.specs.declared.event.Event.TheVariants as event
use Rattle.ring_rules.specs.Machine.{is_waiting}
use Rattle.ring_rules.specs.Event.{version_refusal}
use Rattle.ring_rules.specs.OpenLinks.{is_place}
use Rattle.ring_rules.proofs.rests.Asked.{no_version}
use Rattle.gm_member.specs.declared.links.InLink.{InLink}
use Rattle.gm_member.specs.declared.links.OutLink.{OutLink}
use Rattle.gm_member.specs.Packets.{PacketById, packet_by_id}
use Rattle.gm_member.specs.declared.taken.Taken.{Taken}
use Rattle.gm_member.specs.News.{news_of}
use Rattle.queue_mirror.specs.Mirror.{MirrorState, apply_ops}
use Rattle.gm_member.specs.Loads.{as_item, GrantsIf}
use Rattle.gm_member.specs.Held.{Held, at_some, take_refused, took_held, took_from, began_from, Incoming}
use Rattle.gm_member.specs.View.{out_of, in_of, end_of}
use Rattle.gm_member.specs.Shown.{held_of, ends_of, recorded_of, spare_of, TookOn, LooksIn}
use Rattle.gm_member.specs.Ends.{EndLooks}
use Rattle.ring_parties.specs.declared.party.Party.{Party}
use Rattle.ring_parties.specs.Ends.{PacketShown, OutSeen}
use Rattle.ring_parties.specs.Keeps.{own_known, ops_taken}
use Rattle.ring_parties.specs.Parties.{ANode, Keeps, content, keeps_in, out_seen, in_seen, shown_of}
use Rattle.ring_parties.specs.Acting.{sent_of, due_of, first_item}
use Rattle.ring_parties.specs.RoundActs.{Stamped, Act, push, pop, acts_at, timed, puts, takes}
use Rattle.ring_parties.specs.Round.{Seat, Deed, keeps_taken}
use Rattle.ring_parties.specs.Closed.{has_end}
use Rattle.ring_parties.specs.Turn.{time_at, timed_item, timed_items, timed_grant, timed_grants, InPasses, InsPass, HasRoomBack, round_of, MayTurn, Turned, TakesTurns, Acted}
use Rattle.ring_parties.proofs.lists.Grants.{nothing_sent, granted, one_sent}
use Rattle.ring_parties.proofs.standing.Rings.{pair_in, in_items_same}
use Rattle.ring_parties.proofs.standing.Shown.{end_there, returned_there}
use Rattle.ring_parties.proofs.turns.Own.{SameOwn, own_took, last_same}
use Rattle.ring_parties.proofs.turns.Named.{names_took}
use Rattle.ring_parties.proofs.turns.Links.{same_some, place_of, none_here, push_puts, push_takes, pop_puts, pop_takes, given_time, met_time, after_met, in_rests, out_rests, none_waits, not_late, late_there, ends_but, link_but, acted_one, acted_looked}

-- the grant that is due, as it goes back at a time
abbrev pub due_at : ℕ → Option ℕ → List (Stamped ℕ)
due_at t due = at_some due [] (λ g. record { stamp = t; it = g } ∷ [])

-- ---- what passes the end

-- the grant goes back
given_back : (round t : ℕ) (due : Option ℕ) (stamp : Stamp) (a b : RingIn Load) → 0 < known_free a.back → GrantsIf due stamp RingSends a b → time_at round stamp ≡ t → timed_grants round (sent b.back) ≡ timed_grants round (sent a.back) ++ due_at t due
given_back round t None stamp a b free e time = ap (λ i. timed_grants round (sent i.back)) e ∙ sym (append-nil (timed_grants round (sent a.back)))
given_back round t (Some g) stamp a b free (items, same, sends, room, gone, initial) time =
    let grant : Grant = record { amount = g; stamp = stamp } in
    ap (timed_grants round) (one_sent (sent a.back) (sent b.back) b.late grant (gone free) sends)
    ∙ map-append (timed_grant round) (sent a.back) (grant ∷ [])
    ∙ ap (λ s. timed_grants round (sent a.back) ++ record { stamp = s; it = g } ∷ []) time

take_passes : (round t : ℕ) (due : Option ℕ) (stamp : Stamp) (k : PacketSeen) (i j a b : RingIn Load) → i.late ≡ None → 0 < known_free i.back → RingWaited i j → RingTakes j (as_item k) a → GrantsIf due stamp RingSends a b → time_at round stamp ≡ t
    → InPasses round (timed_item round (as_item k) ∷ []) (due_at t due) i b
take_passes round t due stamp k i j a b late room looked takes grants time =
    let first : (sent j.back ≡ sent i.back) × (j.late ≡ None) = nothing_sent (sent i.back) (sent j.back) i.late j.late late looked.1.1 in
    let second : (sent a.back ≡ sent j.back) × (a.late ≡ None) = nothing_sent (sent j.back) (sent a.back) j.late a.late first.1 takes.3.1 in
    let all : known_items i.items ≡ as_item k ∷ known_items a.items = sym (ap (λ v. known_items v) looked.0) ∙ takes.2 in
    let before : sent a.back ≡ sent i.back = second.0 ∙ first.0 in
    let slots : length (sent a.back) + known_free a.back ≡ length (sent i.back) + known_free i.back = takes.3.2 ∙ looked.1.2 in
    let n : length (sent a.back) ≡ length (sent i.back) = ap length before in
    let free : 0 < known_free a.back = omega (arith, slots, n, room) in
    let last = granted due stamp a b free second.1 grants in
    let taken : got b.items ≡ got i.items ++ as_item k ∷ [] = ap (λ v. got v) last.0 ∙ takes.1 ∙ ap (λ v. got v ++ as_item k ∷ []) looked.0 in
    let known : known_items b.items ≡ known_items a.items = ap (λ v. known_items v) last.0 in
    let items : timed_items round (got b.items) ≡ timed_items round (got i.items) ++ timed_item round (as_item k) ∷ [] = ap (timed_items round) taken ∙ map-append (timed_item round) (got i.items) (as_item k ∷ []) in
    record {
      items = items;
      grants = given_back round t due stamp a b free grants time ∙ ap (λ xs. timed_grants round xs ++ due_at t due) before;
      late = last.2;
      initial = last.4 ∙ takes.3.3 ∙ looked.1.3;
      ring = pair_in a b (in_items_same a b last.0) last.5 ∙ pair_in j a takes.0 takes.3.0 ∙ pair_in i j (in_items_same i j looked.0) looked.1.0;
      rests = λ ends. record {
        items =
            ap (λ xs. xs ++ timed_items round (known_items b.items)) items
            ∙ append_assoc (timed_items round (got i.items)) (timed_item round (as_item k) ∷ []) (timed_items round (known_items b.items))
            ∙ ap (λ xs. timed_items round (got i.items) ++ timed_item round (as_item k) ∷ timed_items round xs) known
            ∙ ap (λ xs. timed_items round (got i.items) ++ timed_items round xs) (sym all);
        end_stands = ap (λ xs. has_end (map content xs)) known ∙ sym (ap (λ xs. has_end (map content xs)) all) ∙ ends;
        room = last.3 ∙ slots;
      };
    }

-- and where nothing was taken
wait_passes : (round : ℕ) (i j : RingIn Load) → i.late ≡ None → RingWaited i j → InPasses round [] [] i j
wait_passes round i j late looked =
    let first : (sent j.back ≡ sent i.back) × (j.late ≡ None) = nothing_sent (sent i.back) (sent j.back) i.late j.late late looked.1.1 in
    record {
      items = ap (λ v. timed_items round (got v)) looked.0 ∙ sym (append-nil (timed_items round (got i.items)));
      grants = ap (timed_grants round) first.0 ∙ sym (append-nil (timed_grants round (sent i.back)));
      late = first.1;
      initial = looked.1.3;
      ring = pair_in i j (in_items_same i j looked.0) looked.1.0;
      rests = λ ends. record {
        items = ap (λ v. timed_items round (got v) ++ timed_items round (known_items v)) looked.0;
        end_stands = ap (λ v. has_end (map content (known_items v))) looked.0 ∙ ends;
        room = looked.1.2;
      };
    }

-- ---- what goes back, by one entry

abbrev due_back : ℕ → ℕ → Option ℕ → List (ℕ × Act ℕ)
due_back s t due = at_some due [] (λ g. (s, push (record { stamp = t; it = g })) ∷ [])

due_puts : (t s k : ℕ) (due : Option ℕ) (from : Option ℕ) → from ≡ Some s → puts (timed t (acts_at k (due_back s t due)) ++ []) ≡ cond (is_place from k) (due_at t due) []
due_puts t s k None from e = none_here (is_place from k)
due_puts t s k (Some g) from e = let x : Stamped ℕ = record { stamp = t; it = g } in push_puts t s k x from e

due_takes : (t s k : ℕ) (due : Option ℕ) (b : Bool) → takes (timed t (acts_at k (due_back s t due)) ++ []) ≡ cond b [] []
due_takes t s k None b = none_here b
due_takes t s k (Some g) b = let x : Stamped ℕ = record { stamp = t; it = g } in push_takes t s k x b

-- ---- a party that has taken

-- one that is up doesn't wait
up_runs : (f : Phase) → f ≡ Up → is_waiting f ≡ false
up_runs f e = ap is_waiting e

took_up : (h : Held) (k : PacketById) (c : Incoming) → h.current ≡ Some c → is_waiting h.phase ≡ false → took_held h k ≡ took_from h k c
took_up h k c current runs = ap (λ o. at_some o h (λ x. cond (is_waiting h.phase) (began_from h k x) (took_from h k x))) current ∙ ap (λ b. cond b (began_from h k c) (took_from h k c)) runs

-- the end of its link knows of a slot on the way back
room_there : (m : ANode) (i : RingIn Load) → HasRoomBack m → (ends_of m).link ≡ Some i → 0 < known_free i.back
room_there m i back there = subst (λ (n : RingIn Load). 0 < known_free n.back) (same_some (ends_of m).link back.0 i back.1 there) back.2

-- What a take of packet k does, from p to q, by a member that is n after it.
pub record Took (k : PacketSeen) (p q : Party) : Type 0 where
  pub may : MayTurn p
  pub room_back : HasRoomBack p.node
  pub on : TookOn (λ e. e.late) RingTakes RingWaited RingSends (given (recorded_of q.node)) k p.node q.node
  pub held : held_of q.node ≡ took_held (held_of p.node) (packet_by_id k)
  pub older : k.view ≤ (held_of p.node).view.version
  pub enabled : take_refused (held_of p.node) None ≡ None
  pub recorded : recorded_of q.node ≡ noted (event.Take (held_of p.node).name) (met k.stamp (recorded_of p.node))
  pub keeps : keeps_in q ≡ keeps_taken (held_of p.node) (sent_of (packet_by_id k)) (keeps_in p)
  pub room : spare_of p.node ≤ spare_of q.node

-- what the entry tells
abbrev take_deed : Seat → Stamped (Option PacketShown) → ℕ → ℕ → Deed
take_deed a x s t = record { event = event.Take a.held.name; there = (s, pop x) ∷ []; back = due_back s t (due_of a.held) }

take_turns : (k : PacketSeen) (p q : Party) → Took k p q → TakesTurns p q
take_turns k p q h a sits = by_on h.on
  where
    by_on : TookOn (λ e. e.late) RingTakes RingWaited RingSends (given (recorded_of q.node)) k p.node q.node → (b : Seat) × (es : List (ℕ × Deed)) × Turned (round_of p) a b es p q
    by_on (l, l', ml, nl, (i, j, y, z, li, looked, took, waits, grants, lz), (out, door, old_outs, old_ins)) =
        let r : Recorded = recorded_of p.node in
        let t : ℕ = max r.time (time_in r k.stamp) + 1 in
        let x : Stamped (Option PacketShown) = timed_item r.round (as_item k) in
        let place : (s : ℕ) × (a.current ≡ Some s) = place_of a.current (sits.current ∙ ap is_some (ap (option_map in_of) ml)) in
        let b : Seat = record a { held = took_held a.held (packet_by_id k); keeps = keeps_taken a.held (sent_of (packet_by_id k)) a.keeps } in
        let later : time_at r.round k.stamp < t = after_met r.time (time_in r k.stamp) (time_at r.round k.stamp) (met_time r k.stamp h.may.beside) in
        let time : time_at r.round (given (recorded_of q.node)) ≡ t = given_time r.round t (recorded_of q.node) (ap (λ v. v.is_alone) h.recorded ∙ h.may.beside) (ap (λ v. v.round) h.recorded) (ap (λ v. v.time) h.recorded) in
        let there : (ends_of p.node).link ≡ Some i = ap (λ c. at_some c None (λ (v : InLink (RingIn Load)). v.end)) ml ∙ li in
        let free : 0 < known_free i.back = room_there p.node i h.room_back there in
        let passes : InPasses r.round (x ∷ []) (due_at t (grant_due l.counted)) i z = take_passes r.round t (grant_due l.counted) (given (recorded_of q.node)) k i j y z (not_late p l i h.may ml li) free looked took grants time in
        let due : grant_due l.counted ≡ due_of a.held = sym (ap due_of sits.held ∙ ap (λ c. at_some (option_map in_of c) None (λ v. grant_due v.counted)) ml) in
        let held : held_of q.node ≡ took_from (held_of p.node) (packet_by_id k) (in_of l) = h.held ∙ took_up (held_of p.node) (packet_by_id k) (in_of l) (ap (option_map in_of) ml) (up_runs (held_of p.node).phase h.may.up) in (
          b,
          (t, take_deed a x place.0 t) ∷ [],
          record {
            run = (
              b,
              (
                refl,
                (
                  packet_by_id k,
                  place.0,
                  x.stamp,
                  t,
                  place.1,
                  ap (λ g. take_refused g (version_refusal k.view g.view.version)) sits.held ∙ ap (take_refused (held_of p.node)) (no_version k.view (held_of p.node).view.version h.older) ∙ h.enabled,
                  later,
                  omega arith,
                  refl,
                  refl,
                  refl,
                ),
              ),
              refl,
            );
            sits = record {
              held = ap (λ g. took_held g (packet_by_id k)) sits.held ∙ sym h.held;
              keeps = ap (λ g. keeps_taken g (sent_of (packet_by_id k)) a.keeps) sits.held ∙ ap (keeps_taken (held_of p.node) (sent_of (packet_by_id k))) sits.keeps ∙ sym h.keeps;
              out = sits.out ∙ ap (λ g. is_some g.out) (sym held);
              current = sits.current ∙ ap is_some (ap (option_map in_of) ml) ∙ ap (λ g. is_some g.current) (sym held);
            };
            same_out = refl;
            same_current = refl;
            same_door = refl;
            names = names_took a.held (packet_by_id k);
            put = [];
            gained = [];
            taken = x ∷ [];
            given = due_at t (due_of a.held);
            puts_are = λ s. pop_puts t place.0 s x (is_place a.out s);
            gains_are = λ s. due_takes t place.0 s (due_of a.held) (is_place a.out s);
            takes_are = λ s. pop_takes t place.0 s x a.current place.1;
            gives_are = λ s. due_puts t place.0 s (due_of a.held) a.current place.1;
            out_end = out_rests r.round (ends_of p.node).out (ends_of q.node).out (ap end_there out);
            in_end = subst (λ e. InsPass r.round (x ∷ []) (due_at t (due_of a.held)) e (ends_of q.node).link) (sym there) (z, ap (λ c. at_some c None (λ (v : InLink (RingIn Load)). v.end)) nl ∙ lz, subst (λ d. InPasses r.round (x ∷ []) (due_at t d) i z) due passes);
            others = ends_but (ends_of p.node) (ends_of q.node) (ap returned_there out) (ap (λ v. map end_of v.items) door) (ap (λ v. v.items) old_outs) (ap (λ v. v.items) old_ins);
            recorded = ap (λ v. v.entries) h.recorded ∙ ap (λ n. r.entries ++ (t, event.Take n) ∷ []) (ap (λ g. g.name) (sym sits.held));
          },
        )

-- what it keeps of its own messages
pub took_own : (k : PacketById) (p : Party) → MayTurn p → (held_of p.node).current ≢ None → SameOwn (own_known (held_of p.node)) (own_known (took_held (held_of p.node) k))
took_own k p may current = by (held_of p.node).current refl
  where
    by : (c : Option Incoming) → (held_of p.node).current ≡ c → SameOwn (own_known (held_of p.node)) (own_known (took_held (held_of p.node) k))
    by None e = absurd (current e)
    by (Some c) e = subst (λ g. SameOwn (own_known (held_of p.node)) (own_known g)) (sym (took_up (held_of p.node) k c e (up_runs (held_of p.node).phase may.up))) (own_took (held_of p.node) k c p.node.own.0 p.node.own.1)

-- no more come round to it than its book has
pub took_within : (k : PacketById) (p : Party) → MayTurn p → (held_of p.node).current ≢ None → (own_known (took_held (held_of p.node) k)).forgot ≤ last_of (keeps_in p).book
took_within k p may current = subst (λ n. (own_known (took_held (held_of p.node) k)).forgot ≤ n) (sym may.booked) (took_own k p may current).1

take_may : (k : PacketSeen) (p q : Party) → Took k p q → MayTurn q
take_may k p q h = by_on h.on
  where
    by_on : TookOn (λ e. e.late) RingTakes RingWaited RingSends (given (recorded_of q.node)) k p.node q.node → MayTurn q
    by_on (l, l', ml, nl, (i, j, y, z, li, looked, took, waits, grants, lz), (out, door, old_outs, old_ins)) =
        let there : (ends_of p.node).link ≡ Some i = ap (λ c. at_some c None (λ (v : InLink (RingIn Load)). v.end)) ml ∙ li in
        let free : 0 < known_free i.back = room_there p.node i h.room_back there in
        let passes = take_passes 0 (time_at 0 (given (recorded_of q.node))) (grant_due l.counted) (given (recorded_of q.node)) k i j y z (not_late p l i h.may ml li) free looked took grants refl in
        let held : held_of q.node ≡ took_from (held_of p.node) (packet_by_id k) (in_of l) = h.held ∙ took_up (held_of p.node) (packet_by_id k) (in_of l) (ap (option_map in_of) ml) (up_runs (held_of p.node).phase h.may.up) in
        let current : (held_of p.node).current ≢ None = λ none. cc (sym (ap (option_map in_of) ml) ∙ none) in
        let own = took_own (packet_by_id k) p h.may current in
        record {
          beside = ap (λ r. r.is_alone) h.recorded ∙ h.may.beside;
          up = ap (λ g. g.phase) held ∙ h.may.up;
          free = ap (λ g. g.asks) held ∙ h.may.free;
          out = subst (λ (o : Option (OutLink (RingOut Load))). MatchOption (option_map out_of o) ⊤ (λ _. MatchOption (option_map out_seen (end_there o)) ⊥ (λ (v : OutSeen). v.ended ≡ false))) (sym out) h.may.out;
          link = late_there q.node l' z nl lz passes.late;
          returned = ap returned_there out ∙ h.may.returned;
          booked =
              ap (λ x. last_of x.book) h.keeps
              ∙ last_same (own_known (took_held (held_of p.node) (packet_by_id k))).forgot (keeps_in p).book (took_within (packet_by_id k) p h.may current)
              ∙ h.may.booked
              ∙ sym own.0
              ∙ ap (λ g. got_of (own_known g)) (sym h.held);
        }

pub take_acted : (k : PacketSeen) (p q : Party) → Took k p q → Acted (event.Take (held_of p.node).name ∷ []) p q
take_acted k p q h =
    let r : Recorded = recorded_of p.node in
    acted_one p q (max r.time (time_in r k.stamp) + 1) (event.Take (held_of p.node).name) (take_turns k p q h) (take_may k p q h) (ap (λ x. x.round) h.recorded) (ap (λ x. x.entries) h.recorded) (omega (arith, h.room))

-- ---- a party that has taken nothing

-- its link waited
waited : (round : ℕ) (a b : Option (RingIn Load)) → MatchOption a ⊤ (λ n. n.late ≡ None) → EndLooks RingWaited a b → InsPass round [] [] a b
waited round a b late looks = ⊎_elim
    (λ (e : b ≡ a). in_rests round a b e late)
    (λ (x : (i : RingIn Load) × (j : RingIn Load) × (a ≡ Some i) × (b ≡ Some j) × RingWaited i j).
    subst (λ e. InsPass round [] [] e b) (sym x.2) (x.1, x.3, wait_passes round x.0 x.1 (subst (λ (e : Option (RingIn Load)). MatchOption e ⊤ (λ n. n.late ≡ None)) x.2 late) x.4))
    looks

pub take_not : (p q : Party) → MayTurn p → LooksIn RingWaited p.node q.node → held_of q.node ≡ held_of p.node → recorded_of q.node ≡ recorded_of p.node → keeps_in q ≡ keeps_in p → spare_of p.node ≤ spare_of q.node → Acted [] p q
take_not p q may looks held recorded keeps room =
    acted_looked p q may held keeps recorded room
    (link_but (ends_of p.node) (ends_of q.node) (ap end_there looks.0.0) (ap returned_there looks.0.0) (ap (λ v. map end_of v.items) looks.0.1) (ap (λ v. v.items) looks.0.2) (ap (λ v. v.items) looks.0.3))
    (⊎_elim
    (λ (e : q.node.current ≡ p.node.current). in_rests (round_of p) (ends_of p.node).link (ends_of q.node).link (ap (λ c. at_some c None (λ (v : InLink (RingIn Load)). v.end)) e) (none_waits p may))
    (λ (x : (l : InLink (RingIn Load)) × (l' : InLink (RingIn Load)) × (p.node.current ≡ Some l) × (q.node.current ≡ Some l') × EndLooks RingWaited l.end l'.end).
    let before : (ends_of p.node).link ≡ x.0.end = ap (λ c. at_some c None (λ (v : InLink (RingIn Load)). v.end)) x.2 in
    let after : (ends_of q.node).link ≡ x.1.end = ap (λ c. at_some c None (λ (v : InLink (RingIn Load)). v.end)) x.3 in
    subst (λ e. InsPass (round_of p) [] [] e (ends_of q.node).link) (sym before)
    (subst (λ e. InsPass (round_of p) [] [] x.0.end e) (sym after)
    (waited (round_of p) x.0.end x.1.end (subst (λ (e : Option (RingIn Load)). MatchOption e ⊤ (λ n. n.late ≡ None)) before (none_waits p may)) x.4)))
    looks.1)

-- ---- the calls of a take

-- the packet stood first on the link
pub first_taken : (p : Party) (n : ANode) (stamp : Stamp) (k : PacketSeen) → TookOn (λ e. e.late) RingTakes RingWaited RingSends stamp k p.node n → (rest : List (Option PacketShown)) × (first_item (shown_of p.node).ends.link ≡ Some (sent_of (packet_by_id k)) ∷ rest)
first_taken p n stamp k (l, l', ml, nl, (i, j, y, z, li, looked, took, waits, grants, lz), same) =
    let there : (ends_of p.node).link ≡ Some i = ap (λ c. at_some c None (λ (v : InLink (RingIn Load)). v.end)) ml ∙ li in
    let all : known_items i.items ≡ as_item k ∷ known_items y.items = sym (ap (λ v. known_items v) looked.0) ∙ took.2 in
    (map content (known_items y.items), ap (λ e. first_item (option_map in_seen e)) there ∙ ap (map content) all)

-- so many of its own messages have come round to it then as its book may hear
pub taken_within : (p : Party) (n : ANode) (stamp : Stamp) (k : PacketSeen) → MayTurn p → TookOn (λ e. e.late) RingTakes RingWaited RingSends stamp k p.node n → held_of n ≡ took_held (held_of p.node) (packet_by_id k) → (own_known (held_of n)).forgot ≤ last_of (keeps_in p).book
taken_within p n stamp k may (l, l', ml, nl, on, same) held =
    subst (λ (h : Held). (own_known h).forgot ≤ last_of (keeps_in p).book) (sym held)
    (took_within (packet_by_id k) p may (λ none. cc (sym (ap (option_map in_of) ml) ∙ none)))

-- what the party keeps then
pub taken_keeps : (k : PacketSeen) (h g : Held) (old new : Keeps) (mirror : MirrorState) (taken : List Taken) → g ≡ took_held h (packet_by_id k) → taken ≡ news_of h (packet_by_id k) → mirror ≡ apply_ops old.mirror (ops_taken taken)
    → new ≡ record old { mirror = mirror; book = without_room (came_round (own_known g).forgot old.book) } → new ≡ keeps_taken h (sent_of (packet_by_id k)) old
taken_keeps k h g old new mirror taken held news ops is =
    is
    ∙ ap (λ x. record old { mirror = mirror; book = without_room (came_round (own_known x).forgot old.book) }) held
    ∙ ap (λ m. record old { mirror = m; book = without_room (came_round (own_known (took_held h (packet_by_id k))).forgot old.book) }) (ops ∙ ap (λ ts. apply_ops old.mirror (ops_taken ts)) news)

-- a member n has taken the packet, and q is its party once it has heard of that
pub took_there : (k : PacketSeen) (p : Party) (n : ANode) (q : Party) → q.node ≡ n → MayTurn p → HasRoomBack p.node → TookOn (λ e. e.late) RingTakes RingWaited RingSends (given (recorded_of n)) k p.node n → held_of n ≡ took_held (held_of p.node) (packet_by_id k)
    → k.view ≤ (held_of p.node).view.version → take_refused (held_of p.node) None ≡ None → recorded_of n ≡ noted (event.Take (held_of p.node).name) (met k.stamp (recorded_of p.node)) → spare_of p.node ≤ spare_of n
    → keeps_in q ≡ keeps_taken (held_of p.node) (sent_of (packet_by_id k)) (keeps_in p) → Acted (event.Take (held_of p.node).name ∷ []) p q
took_there k p n q same may back on held older enabled recorded room keeps = take_acted k p q (record {
  may = may;
  room_back = back;
  on = subst (λ (m : ANode). TookOn (λ e. e.late) RingTakes RingWaited RingSends (given (recorded_of m)) k p.node m) (sym same) on;
  held = ap (λ (m : ANode). held_of m) same ∙ held;
  older = older;
  enabled = enabled;
  recorded = ap (λ (m : ANode). recorded_of m) same ∙ recorded;
  keeps = keeps;
  room = subst (λ (m : ANode). spare_of p.node ≤ spare_of m) (sym same) room;
})
