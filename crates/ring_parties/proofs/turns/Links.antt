-- What one entry does to links, and what passes the ends of them.
use Rattle.std.proofs.Common.{◌≡◌, ℕ, ◌+◌, ◌<◌, ◌≤◌, max, Bool, true, false, cond, not, ◌&&◌, nat_eq, List, [], ◌∷◌, ◌++◌, map, Option, Some, None, is_some, refl, sym, ap, subst, ◌∙◌, arith, append-nil}
use Rattle.std.specs.Prelude.{MatchOption, ⊤, option_map}
use Rattle.std.proofs.lemmas.Bool.{eq-eqb}
use Rattle.std.proofs.lemmas.List.{map-append}
use Rattle.ring_names.specs.declared.numbers.Stamp.{Stamp}
use Rattle.lamport_merge.specs.Recorder.{Recorded, time_in, given}
use Rattle.rtrb.specs.Ring.{sent, received as got}
use Rattle.ordered_link.specs.declared.ring.RingOut.{RingOut}
use Rattle.ordered_link.specs.declared.ring.RingIn.{RingIn}
use Rattle.activity.specs.declared.packet.Load.{Load}
use Rattle.activity.specs.Kept.{got_of}
use Rattle.confirm_book.specs.Book.{last_of}
use Rattle.ring_rules.specs.declared.event.Event.{Event}
use Rattle.ring_rules.specs.OpenLinks.{is_place}
use Rattle.gm_member.specs.Held.{Held, at_some}
use Rattle.gm_member.specs.declared.links.OutLink.{OutLink}
use Rattle.gm_member.specs.declared.links.InLink.{InLink}
use Rattle.gm_member.specs.View.{out_of, in_of}
use Rattle.gm_member.specs.Shown.{Ends, held_of, ends_of, recorded_of, spare_of}
use Rattle.ring_parties.specs.declared.party.Party.{Party}
use Rattle.ring_parties.specs.Ends.{OutSeen, InSeen}
use Rattle.ring_parties.specs.Parties.{ANode, amount_of, out_seen, in_seen, keeps_in, shown_of}
use Rattle.ring_parties.specs.Keeps.{own_known}
use Rattle.ring_parties.specs.RoundActs.{Stamped, push, pop, acts_at, timed, puts, takes}
use Rattle.ring_parties.specs.Turn.{time_at, timed_items, timed_grants, OutsPass, InsPass, round_of, MayTurn, TakesTurns, Acted}
use Rattle.ring_parties.proofs.standing.Rings.{none_waiting}
use Rattle.ring_parties.proofs.standing.Shown.{end_there, in_there}
use Rattle.ring_parties.proofs.turns.Named.{names_none}

-- ---- one act

-- the place of a link, where there is one
pub place_of : (o : Option ℕ) → is_some o ≡ true → (s : ℕ) × (o ≡ Some s)
place_of None e = cc
place_of (Some s) e = (s, refl)

-- nothing is done, here or there
pub none_here : {X : Type 0} (b : Bool) → (let none : List X = [] in none ≡ cond b none none)
none_here true = refl
none_here false = refl

module _ {X : Type 0} where
  -- one thing is put, on this link
  pub push_puts : (t s k : ℕ) (x : Stamped X) (out : Option ℕ) → out ≡ Some s → puts (timed t (acts_at k ((s, push x) ∷ [])) ++ []) ≡ cond (is_place out k) (x ∷ []) []
  push_puts t s k x out e = by (nat_eq s k) ∙ ap (λ o. cond (is_place o k) (x ∷ []) []) (sym e)
    where
      by : (b : Bool) → puts (timed t (cond b (push x ∷ []) []) ++ []) ≡ cond b (x ∷ []) []
      by true = refl
      by false = refl

  -- and nothing is taken
  pub push_takes : (t s k : ℕ) (x : Stamped X) (b : Bool) → takes (timed t (acts_at k ((s, push x) ∷ [])) ++ []) ≡ cond b [] []
  push_takes t s k x b = by (nat_eq s k) ∙ none_here {X = Stamped X} b
    where
      by : (c : Bool) → takes (timed t (cond c (push x ∷ []) []) ++ []) ≡ []
      by true = refl
      by false = refl

  -- one thing is taken, from this link
  pub pop_takes : (t s k : ℕ) (x : Stamped X) (from : Option ℕ) → from ≡ Some s → takes (timed t (acts_at k ((s, pop x) ∷ [])) ++ []) ≡ cond (is_place from k) (x ∷ []) []
  pop_takes t s k x from e = by (nat_eq s k) ∙ ap (λ o. cond (is_place o k) (x ∷ []) []) (sym e)
    where
      by : (b : Bool) → takes (timed t (cond b (pop x ∷ []) []) ++ []) ≡ cond b (x ∷ []) []
      by true = refl
      by false = refl

  -- and nothing is put
  pub pop_puts : (t s k : ℕ) (x : Stamped X) (b : Bool) → puts (timed t (acts_at k ((s, pop x) ∷ [])) ++ []) ≡ cond b [] []
  pop_puts t s k x b = by (nat_eq s k) ∙ none_here {X = Stamped X} b
    where
      by : (c : Bool) → puts (timed t (cond c (pop x ∷ []) []) ++ []) ≡ []
      by true = refl
      by false = refl

-- an option is one thing
pub same_some : {A : Type 0} (o : Option A) (a b : A) → o ≡ Some a → o ≡ Some b → a ≡ b
same_some o a b e f = let both : Some a ≡ Some b = sym e ∙ f in let same : a ≡ b = cc in same

-- ---- times

-- the time of a stamp that a party gives beside others
pub given_time : (round t : ℕ) (r : Recorded) → r.is_alone ≡ false → r.round ≡ round → r.time ≡ t → time_at round (given r) ≡ t
given_time round t r beside same time =
    ap (λ b. cond b (cond r.is_alone 0 r.time) 0) (eq-eqb r.round round same) ∙ ap (λ b. cond b 0 r.time) beside ∙ time

-- and of one that it takes in
pub met_time : (r : Recorded) (s : Stamp) → r.is_alone ≡ false → time_in r s ≡ time_at r.round s
met_time r s beside = ap (λ b. cond (not b && nat_eq s.round r.round) s.time 0) beside

-- the clock is later then
pub after_met : (now u v : ℕ) → u ≡ v → v < max now u + 1
after_met now u v e = omega (arith, e)

-- ---- ends that nothing passes

pub out_rests : (round : ℕ) (a b : Option (RingOut Load)) → b ≡ a → OutsPass round [] [] a b
out_rests round None b e = (e, refl, refl)
out_rests round (Some o) b e = (
  o,
  e,
  record {
    items = sym (append-nil (timed_items round (sent o.items)));
    unended = refl;
    grants = sym (append-nil (timed_grants round (got o.back)));
    back = refl;
    ended = refl;
    initial = refl;
    ring = refl;
  },
)

pub in_rests : (round : ℕ) (a b : Option (RingIn Load)) → b ≡ a → MatchOption a ⊤ (λ n. n.late ≡ None) → InsPass round [] [] a b
in_rests round None b e late = (e, refl, refl)
in_rests round (Some n) b e late = (
  n,
  e,
  record {
    items = sym (append-nil (timed_items round (got n.items)));
    grants = sym (append-nil (timed_grants round (sent n.back)));
    late = late;
    initial = refl;
    ring = refl;
    rests = λ h. record { items = refl; end_stands = h; room = refl };
  },
)

-- ---- what a party has that takes turns

-- no grant waits in the end of the link from which it takes
late_in : (c : Option (InLink (RingIn Load))) → MatchOption (option_map in_of c) ⊤ (λ _. MatchOption (in_there c) ⊥ (λ (n : InSeen). n.late ≡ None)) → MatchOption (at_some c None (λ l. l.end)) ⊤ (λ n. n.late ≡ None)
late_in None h = tt
late_in (Some l) h = by l.end h
  where
    by : (e : Option (RingIn Load)) → MatchOption (option_map in_seen e) ⊥ (λ (n : InSeen). n.late ≡ None) → MatchOption e ⊤ (λ n. n.late ≡ None)
    by None h = tt
    by (Some n) h = none_waiting n.late h

pub none_waits : (p : Party) → MayTurn p → MatchOption (ends_of p.node).link ⊤ (λ n. n.late ≡ None)
none_waits p may = late_in p.node.current may.link

-- that end
pub not_late : (p : Party) (l : InLink (RingIn Load)) (i : RingIn Load) → MayTurn p → p.node.current ≡ Some l → l.end ≡ Some i → i.late ≡ None
not_late p l i may ml li = subst (λ (e : Option (RingIn Load)). MatchOption e ⊤ (λ n. n.late ≡ None)) (ap (λ c. at_some c None (λ (x : InLink (RingIn Load)). x.end)) ml ∙ li) (none_waits p may)

pub late_there : (m : ANode) (l : InLink (RingIn Load)) (i : RingIn Load) → m.current ≡ Some l → l.end ≡ Some i → i.late ≡ None → MatchOption (held_of m).current ⊤ (λ _. MatchOption (shown_of m).ends.link ⊥ (λ (n : InSeen). n.late ≡ None))
late_there m l i ml li late =
    subst (λ (c : Option (InLink (RingIn Load))). MatchOption (option_map in_of c) ⊤ (λ _. MatchOption (in_there c) ⊥ (λ (n : InSeen). n.late ≡ None))) (sym ml)
    (subst (λ (e : Option (RingIn Load)). MatchOption (option_map in_seen e) ⊥ (λ (n : InSeen). n.late ≡ None)) (sym li) (ap amount_of late))

-- and it doesn't end the one on which it sends
pub is_open : (p : Party) (l : OutLink (RingOut Load)) (o : RingOut Load) → MayTurn p → p.node.out ≡ Some l → l.end ≡ Some o → o.ended ≡ false
is_open p l o may ml lo =
    let h : MatchOption (option_map out_seen l.end) ⊥ (λ (x : OutSeen). x.ended ≡ false) =
    subst (λ (c : Option (OutLink (RingOut Load))). MatchOption (option_map out_of c) ⊤ (λ _. MatchOption (option_map out_seen (end_there c)) ⊥ (λ (x : OutSeen). x.ended ≡ false))) ml may.out in
    subst (λ (e : Option (RingOut Load)). MatchOption (option_map out_seen e) ⊥ (λ (x : OutSeen). x.ended ≡ false)) lo h

pub open_there : (m : ANode) (l : OutLink (RingOut Load)) (o : RingOut Load) → m.out ≡ Some l → l.end ≡ Some o → o.ended ≡ false → MatchOption (held_of m).out ⊤ (λ _. MatchOption (shown_of m).ends.out ⊥ (λ (x : OutSeen). x.ended ≡ false))
open_there m l o ml lo is =
    subst (λ (c : Option (OutLink (RingOut Load))). MatchOption (option_map out_of c) ⊤ (λ _. MatchOption (option_map out_seen (end_there c)) ⊥ (λ (x : OutSeen). x.ended ≡ false))) (sym ml)
    (subst (λ (e : Option (RingOut Load)). MatchOption (option_map out_seen e) ⊥ (λ (x : OutSeen). x.ended ≡ false)) (sym lo) is)

-- the ends of a member, but for those of its two links
pub ends_but : (a b : Ends (RingOut Load) (RingIn Load)) → b.returned ≡ a.returned → b.door ≡ a.door → b.old_outs ≡ a.old_outs → b.old_ins ≡ a.old_ins → b ≡ record a { out = b.out; link = b.link }
ends_but a b e1 e2 e3 e4 =
    ap (λ x. record b { returned = x }) e1
    ∙ ap (λ x. record b { returned = a.returned; door = x }) e2
    ∙ ap (λ x. record a { out = b.out; link = b.link; old_outs = x; old_ins = b.old_ins }) e3
    ∙ ap (λ x. record a { out = b.out; link = b.link; old_ins = x }) e4

pub link_but : (a b : Ends (RingOut Load) (RingIn Load)) → b.out ≡ a.out → b.returned ≡ a.returned → b.door ≡ a.door → b.old_outs ≡ a.old_outs → b.old_ins ≡ a.old_ins → b ≡ record a { link = b.link }
link_but a b e e1 e2 e3 e4 = ends_but a b e1 e2 e3 e4 ∙ ap (λ o. record a { out = o; link = b.link }) e

-- what holds in any case holds where there is something
pub any_some : {A P : Type 0} (o : Option A) → P → MatchOption o ⊤ (λ _. P)
any_some None x = tt
any_some (Some y) x = x

-- ---- what a party has done

-- one event, which is an entry of its log
pub acted_one : (p q : Party) (t : ℕ) (e : Event) → TakesTurns p q → MayTurn q → round_of q ≡ round_of p → (recorded_of q.node).entries ≡ (recorded_of p.node).entries ++ (t, e) ∷ [] → spare_of p.node ≤ spare_of q.node + 1 → Acted (e ∷ []) p q
acted_one p q t e turns may round entries room = record {
  turns = turns;
  may = may;
  round = round;
  records = ap (map (λ (x : ℕ × Event). x.1)) entries ∙ map-append (λ (x : ℕ × Event). x.1) (recorded_of p.node).entries ((t, e) ∷ []);
  room = omega (arith, room);
  still = λ none. cc;
}

-- nothing, though its ends may know more
pub acted_still : (p q : Party) → MayTurn q → held_of q.node ≡ held_of p.node → keeps_in q ≡ keeps_in p → recorded_of q.node ≡ recorded_of p.node → spare_of p.node ≤ spare_of q.node
    → OutsPass (round_of p) [] [] (ends_of p.node).out (ends_of q.node).out → InsPass (round_of p) [] [] (ends_of p.node).link (ends_of q.node).link
    → ends_of q.node ≡ record (ends_of p.node) { out = (ends_of q.node).out; link = (ends_of q.node).link } → Acted [] p q
acted_still p q may held keeps recorded room out link others = record {
  turns = λ a sits. (
    a,
    [],
    record {
      run = refl;
      sits = record {
        held = sits.held ∙ sym held;
        keeps = sits.keeps ∙ sym keeps;
        out = sits.out ∙ ap (λ h. is_some h.out) (sym held);
        current = sits.current ∙ ap (λ h. is_some h.current) (sym held);
      };
      same_out = refl;
      same_current = refl;
      same_door = refl;
      names = names_none a.held;
      put = [];
      gained = [];
      taken = [];
      given = [];
      puts_are = λ s. none_here (is_place a.out s);
      gains_are = λ s. none_here (is_place a.out s);
      takes_are = λ s. none_here (is_place a.current s);
      gives_are = λ s. none_here (is_place a.current s);
      out_end = out;
      in_end = link;
      others = others;
      recorded = ap (λ r. r.entries) recorded ∙ sym (append-nil (recorded_of p.node).entries);
    },
  );
  may = may;
  round = ap (λ r. r.round) recorded;
  records = ap (λ r. map (λ (x : ℕ × Event). x.1) r.entries) recorded ∙ sym (append-nil (map (λ (x : ℕ × Event). x.1) (recorded_of p.node).entries));
  room = omega (arith, room);
  still = λ none. recorded;
}

-- where its links are looked at, it may go on
pub may_still : (p q : Party) → MayTurn p → held_of q.node ≡ held_of p.node → keeps_in q ≡ keeps_in p → recorded_of q.node ≡ recorded_of p.node
    → MatchOption (held_of q.node).out ⊤ (λ _. MatchOption (shown_of q.node).ends.out ⊥ (λ (o : OutSeen). o.ended ≡ false))
    → MatchOption (held_of q.node).current ⊤ (λ _. MatchOption (shown_of q.node).ends.link ⊥ (λ (n : InSeen). n.late ≡ None))
    → (shown_of q.node).ends.returned ≡ None → MayTurn q
may_still p q may held keeps recorded out link returned = record {
  beside = ap (λ r. r.is_alone) recorded ∙ may.beside;
  up = ap (λ h. h.phase) held ∙ may.up;
  free = ap (λ h. h.asks) held ∙ may.free;
  out = out;
  link = link;
  returned = returned;
  booked = ap (λ k. last_of k.book) keeps ∙ may.booked ∙ ap (λ h. got_of (own_known h)) (sym held);
}

-- the end from which it takes may know more
link_still : {A : Type 0} (c : Option A) (round : ℕ) (a b : Option (RingIn Load)) → MatchOption c ⊤ (λ _. MatchOption (option_map in_seen a) ⊥ (λ (n : InSeen). n.late ≡ None)) → InsPass round [] [] a b → MatchOption c ⊤ (λ _. MatchOption (option_map in_seen b) ⊥ (λ (n : InSeen). n.late ≡ None))
link_still None round a b h passes = tt
link_still (Some c) round None b h passes = absurd h
link_still (Some c) round (Some n) b h (n', is, passes) = subst (λ (e : Option (RingIn Load)). MatchOption (option_map in_seen e) ⊥ (λ (s : InSeen). s.late ≡ None)) (sym is) (ap amount_of passes.late)

pub acted_looked : (p q : Party) → MayTurn p → held_of q.node ≡ held_of p.node → keeps_in q ≡ keeps_in p → recorded_of q.node ≡ recorded_of p.node → spare_of p.node ≤ spare_of q.node
    → ends_of q.node ≡ record (ends_of p.node) { link = (ends_of q.node).link } → InsPass (round_of p) [] [] (ends_of p.node).link (ends_of q.node).link → Acted [] p q
acted_looked p q may held keeps recorded room ends passes =
    acted_still p q
    (may_still p q may held keeps recorded
    (subst (λ (h : Held). MatchOption h.out ⊤ (λ _. MatchOption (option_map out_seen (ends_of q.node).out) ⊥ (λ (o : OutSeen). o.ended ≡ false))) (sym held)
    (subst (λ (e : Option (RingOut Load)). MatchOption (held_of p.node).out ⊤ (λ _. MatchOption (option_map out_seen e) ⊥ (λ (o : OutSeen). o.ended ≡ false))) (sym (ap (λ e. e.out) ends)) may.out))
    (subst (λ (h : Held). MatchOption h.current ⊤ (λ _. MatchOption (option_map in_seen (ends_of q.node).link) ⊥ (λ (n : InSeen). n.late ≡ None))) (sym held)
    (link_still (held_of p.node).current (round_of p) (ends_of p.node).link (ends_of q.node).link may.link passes))
    (ap (λ e. e.returned) ends ∙ may.returned))
    held keeps recorded room
    (out_rests (round_of p) (ends_of p.node).out (ends_of q.node).out (ap (λ e. e.out) ends)) passes
    (ends_but (ends_of p.node) (ends_of q.node) (ap (λ e. e.returned) ends) (ap (λ e. e.door) ends) (ap (λ e. e.old_outs) ends) (ap (λ e. e.old_ins) ends))

-- where its member is as it was, nothing was done
pub acted_same : (p q : Party) → MayTurn p → q.node ≡ p.node → keeps_in q ≡ keeps_in p → Acted [] p q
acted_same p q may same keeps =
    acted_looked p q may (ap (λ (m : ANode). held_of m) same) keeps (ap (λ (m : ANode). recorded_of m) same) (subst (λ (m : ANode). spare_of m ≤ spare_of q.node) same (omega arith))
    (ap (λ (m : ANode). ends_of m) same ∙ ap (λ (m : ANode). record (ends_of p.node) { link = (ends_of m).link }) (sym same))
    (in_rests (round_of p) (ends_of p.node).link (ends_of q.node).link (ap (λ (m : ANode). (ends_of m).link) same) (none_waits p may))
