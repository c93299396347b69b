-- A party that stays as it was, and one that does one thing at no link.
use Rattle.std.proofs.Common.{◌≡◌, ℕ, ◌+◌, ◌≤◌, false, [], ◌∷◌, map, Option, None, is_some, refl, sym, ap, subst, ◌∙◌, arith, append-nil}
use Rattle.std.specs.Prelude.{MatchOption, ⊤}
use Rattle.std.proofs.lemmas.List.{map-append}
use Rattle.ordered_link.specs.declared.ring.RingOut.{RingOut}
use Rattle.ordered_link.specs.declared.ring.RingIn.{RingIn}
use Rattle.activity.specs.declared.packet.Load.{Load}
use Rattle.activity.specs.Kept.{got_of}
use Rattle.confirm_book.specs.Book.{last_of}
use Rattle.lamport_merge.specs.Recorder.{Recorded, noted}
use Rattle.ring_rules.specs.declared.event.Event.{Event}
use Rattle.ring_rules.specs.Kind.{kind_of}
use Rattle.ring_rules.specs.Event.{by_of}
use Rattle.ring_rules.specs.OpenLinks.{is_place}
use Rattle.gm_member.specs.Held.{Held, Outgoing, Incoming}
use Rattle.gm_member.specs.Shown.{Ends, held_of, ends_of, recorded_of, spare_of}
use Rattle.ring_parties.specs.declared.party.Party.{Party}
use Rattle.ring_parties.specs.Ends.{OutSeen, InSeen}
use Rattle.ring_parties.specs.Parties.{EndsSeen, Shown, Keeps, shown_of, shown_in, keeps_in, ends_seen}
use Rattle.ring_parties.specs.Keeps.{own_known}
use Rattle.ring_parties.specs.Round.{Seat, Deed, Did}
use Rattle.ring_parties.specs.Turn.{OutsPass, InsPass, SameNames, MayTurn, SitsAt, Acted, events_by, round_of}
use Rattle.ring_parties.proofs.turns.Named.{names_none}
use Rattle.ring_parties.proofs.turns.Passing.{outs_still, ins_still, none_at}

-- ---- a party that may take turns

-- it may go on where its member is still up and at the same links, and its book has what it has published
pub may_go_on : (p q : Party) → MayTurn p → (recorded_of q.node).is_alone ≡ (recorded_of p.node).is_alone → (held_of q.node).phase ≡ (held_of p.node).phase → (held_of q.node).asks ≡ (held_of p.node).asks → (held_of q.node).out ≡ (held_of p.node).out
    → (held_of q.node).current ≡ (held_of p.node).current → (shown_of q.node).ends ≡ (shown_of p.node).ends → last_of (keeps_in q).book ≡ got_of (own_known (held_of q.node)) → MayTurn q
may_go_on p q may alone phase asks out current ends booked = record {
  beside = alone ∙ may.beside;
  up = phase ∙ may.up;
  free = asks ∙ may.free;
  out = subst (λ (o : Option Outgoing). MatchOption o ⊤ (λ _. MatchOption (shown_of q.node).ends.out ⊥ (λ (e : OutSeen). e.ended ≡ false))) (sym out)
      (subst (λ (o : Option OutSeen). MatchOption (held_of p.node).out ⊤ (λ _. MatchOption o ⊥ (λ (e : OutSeen). e.ended ≡ false))) (ap (λ (e : EndsSeen). e.out) (sym ends)) may.out);
  link = subst (λ (o : Option Incoming). MatchOption o ⊤ (λ _. MatchOption (shown_of q.node).ends.link ⊥ (λ (n : InSeen). n.late ≡ None))) (sym current)
      (subst (λ (o : Option InSeen). MatchOption (held_of p.node).current ⊤ (λ _. MatchOption o ⊥ (λ (n : InSeen). n.late ≡ None))) (ap (λ (e : EndsSeen). e.link) (sym ends)) may.link);
  returned = ap (λ (e : EndsSeen). e.returned) ends ∙ may.returned;
  booked = booked;
}

-- and where it shows and keeps the same
pub may_same : (p q : Party) → MayTurn p → (recorded_of q.node).is_alone ≡ (recorded_of p.node).is_alone → shown_in q ≡ shown_in p → keeps_in q ≡ keeps_in p → MayTurn q
may_same p q may alone shown keeps = may_go_on p q may alone
    (ap (λ (s : Shown). s.held.phase) shown) (ap (λ (s : Shown). s.held.asks) shown) (ap (λ (s : Shown). s.held.out) shown) (ap (λ (s : Shown). s.held.current) shown) (ap (λ (s : Shown). s.ends) shown)
    (ap (λ (k : Keeps). last_of k.book) keeps ∙ may.booked ∙ sym (ap (λ (s : Shown). got_of (own_known s.held)) shown))

-- a member that holds the same, and has the same ends, shows the same
pub shows_same : (p q : Party) → held_of q.node ≡ held_of p.node → ends_of q.node ≡ ends_of p.node → shown_in q ≡ shown_in p
shows_same p q held ends = ap (λ (h : Held). shows h (ends_of q.node)) held ∙ ap (shows (held_of p.node)) ends
  where
    shows : Held → Ends (RingOut Load) (RingIn Load) → Shown
    shows h e = record { held = h; ends = ends_seen e }

-- ---- ends that stay

same_outs : (round : ℕ) (p q : Party) → ends_of q.node ≡ ends_of p.node → OutsPass round [] [] (ends_of p.node).out (ends_of q.node).out
same_outs round p q ends = subst (λ (e : Ends (RingOut Load) (RingIn Load)). OutsPass round [] [] (ends_of p.node).out e.out) (sym ends) (outs_still round (ends_of p.node).out)

same_ins : (round : ℕ) (p q : Party) → MayTurn p → ends_of q.node ≡ ends_of p.node → InsPass round [] [] (ends_of p.node).link (ends_of q.node).link
same_ins round p q may ends = subst (λ (e : Ends (RingOut Load) (RingIn Load)). InsPass round [] [] (ends_of p.node).link e.link) (sym ends) (ins_still round p may)

same_others : (p q : Party) → ends_of q.node ≡ ends_of p.node → ends_of q.node ≡ record (ends_of p.node) { out = (ends_of q.node).out; link = (ends_of q.node).link }
same_others p q ends = ends ∙ ap (λ (e : Ends (RingOut Load) (RingIn Load)). record (ends_of p.node) { out = e.out; link = e.link }) (sym ends)

-- ---- what it has done

-- nothing, where it shows and keeps the same, and has recorded nothing
pub acted_same : (p q : Party) → MayTurn p → recorded_of q.node ≡ recorded_of p.node → spare_of p.node ≤ spare_of q.node → shown_in q ≡ shown_in p → ends_of q.node ≡ ends_of p.node → keeps_in q ≡ keeps_in p → Acted [] p q
acted_same p q may recorded spare shown ends keeps = record {
  turns = λ a sits. (
    a,
    [],
    record {
      run = refl;
      sits = record {
        held = sits.held ∙ sym (ap (λ (s : Shown). s.held) shown);
        keeps = sits.keeps ∙ sym keeps;
        out = sits.out ∙ sym (ap (λ (s : Shown). is_some s.held.out) shown);
        current = sits.current ∙ sym (ap (λ (s : Shown). is_some s.held.current) shown);
      };
      same_out = refl;
      same_current = refl;
      same_door = refl;
      names = names_none a.held;
      put = [];
      gained = [];
      taken = [];
      given = [];
      puts_are = λ s. none_at (is_place a.out s) [] refl;
      gains_are = λ s. none_at (is_place a.out s) [] refl;
      takes_are = λ s. none_at (is_place a.current s) [] refl;
      gives_are = λ s. none_at (is_place a.current s) [] refl;
      out_end = same_outs (round_of p) p q ends;
      in_end = same_ins (round_of p) p q may ends;
      others = same_others p q ends;
      recorded = ap (λ (r : Recorded). r.entries) recorded ∙ sym (append-nil (recorded_of p.node).entries);
    },
  );
  may = may_same p q may (ap (λ (r : Recorded). r.is_alone) recorded) shown keeps;
  round = ap (λ (r : Recorded). r.round) recorded;
  records = ap (λ (r : Recorded). map (λ (e : ℕ × Event). e.1) r.entries) recorded ∙ sym (append-nil (events_by p));
  room = omega (arith, spare);
  still = λ _. recorded;
}

-- what an entry tells of an event that does nothing to links
abbrev pub still_deed : Event → Deed
still_deed e = record { event = e; there = []; back = [] }

-- the seat of a party that has its member at the same links
abbrev pub seat_after : Seat → Party → Seat
seat_after a q = record a { held = held_of q.node; keeps = keeps_in q }

-- one thing, at no link
pub acted_once : (e : Event) (p q : Party) → MayTurn p → MayTurn q → by_of e ≡ (held_of p.node).name → recorded_of q.node ≡ noted e (recorded_of p.node) → spare_of p.node ≤ spare_of q.node → ends_of q.node ≡ ends_of p.node → SameNames (held_of p.node) (held_of q.node)
    → (held_of q.node).out ≡ (held_of p.node).out → (held_of q.node).current ≡ (held_of p.node).current
    → ((a : Seat) → SitsAt a p → Did (kind_of e) ((recorded_of p.node).time + 1) (still_deed e) a (seat_after a q)) → Acted (e ∷ []) p q
acted_once e p q may after by recorded spare ends names out current did = record {
  turns = λ a sits. (
    seat_after a q,
    ((recorded_of p.node).time + 1, still_deed e) ∷ [],
    record {
      run = (seat_after a q, (by ∙ sym (ap (λ (h : Held). h.name) sits.held), did a sits), refl);
      sits = record {
        held = refl;
        keeps = refl;
        out = sits.out ∙ sym (ap is_some out);
        current = sits.current ∙ sym (ap is_some current);
      };
      same_out = refl;
      same_current = refl;
      same_door = refl;
      names = subst (λ (h : Held). SameNames h (held_of q.node)) (sym sits.held) names;
      put = [];
      gained = [];
      taken = [];
      given = [];
      puts_are = λ s. none_at (is_place a.out s) [] refl;
      gains_are = λ s. none_at (is_place a.out s) [] refl;
      takes_are = λ s. none_at (is_place a.current s) [] refl;
      gives_are = λ s. none_at (is_place a.current s) [] refl;
      out_end = same_outs (round_of p) p q ends;
      in_end = same_ins (round_of p) p q may ends;
      others = same_others p q ends;
      recorded = ap (λ (r : Recorded). r.entries) recorded;
    },
  );
  may = after;
  round = ap (λ (r : Recorded). r.round) recorded;
  records = ap (λ (r : Recorded). map (λ (f : ℕ × Event). f.1) r.entries) recorded ∙ map-append (λ (f : ℕ × Event). f.1) (recorded_of p.node).entries (((recorded_of p.node).time + 1, e) ∷ []);
  room = omega (arith, spare);
  still = λ (none : e ∷ [] ≡ []). cc;
}
