-- A gain in a turn.
use Rattle.std.proofs.Common.{◌≡◌, ℕ, ◌+◌, ◌<◌, ◌≤◌, max, Bool, true, false, not, List, [], ◌∷◌, ◌++◌, map, Option, Some, None, is_some, refl, sym, ap, subst, ◌∙◌, ⊎_elim, arith, append-nil}
use Rattle.std.specs.Prelude.{option_map, MatchOption, ⊤}
use Rattle.std.proofs.lemmas.List.{map-append}
use Rattle.rtrb.specs.Ring.{sent, received as got, known_items}
use Rattle.lamport_merge.specs.Recorder.{Recorded, time_in, met, noted, is_late}
use Rattle.ordered_link.specs.declared.grant.Grant.{Grant}
use Rattle.ordered_link.specs.declared.ring.RingOut.{RingOut}
use Rattle.ordered_link.specs.declared.ring.RingIn.{RingIn}
use Rattle.ordered_link.specs.RingSteps.{RingGains}
use Rattle.activity.specs.declared.packet.Load.{Load}
use Rattle.activity.specs.Kept.{got_of}
use Rattle.confirm_book.specs.Book.{last_of}
use Rattle.ring_rules.specs.declared.event.Event.TheVariants as event
use Rattle.ring_rules.specs.OpenLinks.{is_place}
use Rattle.gm_member.specs.declared.links.InLink.{InLink}
use Rattle.gm_member.specs.declared.links.OutLink.{OutLink}
use Rattle.gm_member.specs.Held.{Held, at_some, gain_refused, gained_held, gained_on}
use Rattle.gm_member.specs.View.{out_of, end_of}
use Rattle.gm_member.specs.Shown.{held_of, ends_of, recorded_of, spare_of, KeepsGrant}
use Rattle.ring_parties.specs.declared.party.Party.{Party}
use Rattle.ring_parties.specs.Ends.{OutSeen, InSeen}
use Rattle.ring_parties.specs.Keeps.{own_known}
use Rattle.ring_parties.specs.Parties.{ANode, keeps_in, out_seen, in_seen}
use Rattle.ring_parties.specs.RoundActs.{Stamped, pop}
use Rattle.ring_parties.specs.Round.{Seat, Deed}
use Rattle.ring_parties.specs.Turn.{time_at, timed_grant, timed_items, timed_grants, OutPasses, OutsPass, MayTurn, HasEarlyGrant, TakesTurns, Acted}
use Rattle.ring_parties.proofs.lists.Truth.{made_some}
use Rattle.ring_parties.proofs.standing.Rings.{pair_out, out_items_same}
use Rattle.ring_parties.proofs.standing.Shown.{end_there, returned_there}
use Rattle.ring_parties.proofs.turns.Named.{names_gained}
use Rattle.ring_parties.proofs.turns.Links.{place_of, none_here, pop_puts, pop_takes, met_time, after_met, any_some, in_rests, none_waits, is_open, ends_but, acted_one}

-- what passes the end
gain_passes : (round : ℕ) (o p : RingOut Load) (grant : Grant) → RingGains o grant p → OutPasses round [] (timed_grant round grant ∷ []) o p
gain_passes round o p grant e = record {
  items = ap (λ v. timed_items round (sent v)) e.0 ∙ sym (append-nil (timed_items round (sent o.items)));
  unended = refl;
  grants = ap (timed_grants round) e.2 ∙ map-append (timed_grant round) (got o.back) (grant ∷ []);
  back = sym (ap (timed_grants round) e.3);
  ended = e.5;
  initial = e.4;
  ring = pair_out o p (out_items_same o p e.0) e.1;
}

-- A member m had no grant kept; it is n, which keeps the oldest that its out end knew to have come back, and which has it no more there.
pub record KeptNow (grant : Grant) (m n : ANode) : Type 0 where
  pub before : OutLink (RingOut Load)
  pub after : OutLink (RingOut Load)
  pub end : RingOut Load
  pub end_after : RingOut Load
  pub out : m.out ≡ Some before
  pub out_after : n.out ≡ Some after
  pub is : before.end ≡ Some end
  pub is_after : after.end ≡ Some end_after
  pub gains : RingGains end grant end_after

pub kept_now : (m n : ANode) (grant : Grant) → returned_there m.out ≡ None → KeepsGrant RingGains grant m n → KeptNow grant m n
kept_now m n grant none (same, l, l', ml, nl, kept, how) = ⊎_elim
    (λ (x : (l.returned ≡ Some grant) × (l'.end ≡ l.end)). absurd (cc (sym x.0 ∙ sym (ap returned_there ml) ∙ none)))
    (λ (x : (l.returned ≡ None) × (o : RingOut Load) × (r : RingOut Load) × (l.end ≡ Some o) × (l'.end ≡ Some r) × RingGains o grant r).
    record { before = l; after = l'; end = x.1; end_after = x.2; out = ml; out_after = nl; is = x.3; is_after = x.4; gains = x.5 })
    how

-- What a gain does, from p over a member that keeps the grant to q.
pub record Gained (grant : Grant) (p : Party) (kept : ANode) (q : Party) : Type 0 where
  pub may : MayTurn p
  pub keeps_grant : KeepsGrant RingGains grant p.node kept
  pub held : held_of q.node ≡ gained_held (held_of p.node) grant.amount
  pub ends : ends_of q.node ≡ record (ends_of kept) { returned = None }
  pub enabled : gain_refused (held_of p.node) ≡ None
  pub recorded : recorded_of q.node ≡ noted (event.Gain (held_of p.node).name) (met grant.stamp (recorded_of p.node))
  pub keeps : keeps_in q ≡ keeps_in p
  pub room : spare_of p.node ≤ spare_of q.node + 1

-- what the entry tells
abbrev gain_deed : Seat → ℕ → Stamped ℕ → Deed
gain_deed a s g = record { event = event.Gain a.held.name; there = []; back = (s, pop g) ∷ [] }

-- the ends of the member then
ends_kept : (grant : Grant) (p : Party) (kept : ANode) (q : Party) (h : Gained grant p kept q) → (ends_of q.node ≡ record (ends_of p.node) { out = (ends_of kept).out; link = (ends_of p.node).link })
ends_kept grant p kept q h =
    let same = h.keeps_grant.0 in
    h.ends
    ∙ ap (λ c. record (ends_of kept) { returned = None; link = at_some c None (λ (i : InLink (RingIn Load)). i.end) }) same.0
    ∙ ap (λ v. record (ends_of kept) { returned = None; link = (ends_of p.node).link; door = map end_of v.items }) same.1
    ∙ ap (λ v. record (ends_of p.node) { out = (ends_of kept).out; returned = None; old_outs = v.items; old_ins = (ends_of kept).old_ins }) same.2
    ∙ ap (λ v. record (ends_of p.node) { out = (ends_of kept).out; returned = None; old_ins = v.items }) same.3
    ∙ ap (λ r. record (ends_of p.node) { out = (ends_of kept).out; returned = r }) (sym h.may.returned)

gain_turns : (grant : Grant) (p : Party) (kept : ANode) (q : Party) → Gained grant p kept q → TakesTurns p q
gain_turns grant p kept q h a sits =
    let k : KeptNow grant p.node kept = kept_now p.node kept grant h.may.returned h.keeps_grant in
    let r : Recorded = recorded_of p.node in
    let t : ℕ = max r.time (time_in r grant.stamp) + 1 in
    let g : Stamped ℕ = timed_grant r.round grant in
    let place : (s : ℕ) × (a.out ≡ Some s) = place_of a.out (sits.out ∙ ap is_some (ap (option_map out_of) k.out)) in
    let b : Seat = record a { held = gained_held a.held grant.amount } in
    let later : time_at r.round grant.stamp < t = after_met r.time (time_in r grant.stamp) (time_at r.round grant.stamp) (met_time r grant.stamp h.may.beside) in
    let ends : ends_of q.node ≡ record (ends_of p.node) { out = (ends_of kept).out; link = (ends_of p.node).link } = ends_kept grant p kept q h in
    let out : (ends_of q.node).out ≡ (ends_of kept).out = ap (λ e. e.out) ends in (
      b,
      (t, gain_deed a place.0 g) ∷ [],
      record {
        run = (b, (refl, (place.0, g.stamp, g.it, place.1, ap gain_refused sits.held ∙ h.enabled, later, refl, refl, refl)), refl);
        sits = record {
          held = ap (λ x. gained_held x grant.amount) sits.held ∙ sym h.held;
          keeps = sits.keeps ∙ sym h.keeps;
          out = sits.out ∙ sym (made_some (gained_on grant.amount) (held_of p.node).out) ∙ ap (λ x. is_some x.out) (sym h.held);
          current = sits.current ∙ ap (λ x. is_some x.current) (sym h.held);
        };
        same_out = refl;
        same_current = refl;
        same_door = refl;
        names = names_gained a.held grant.amount;
        put = [];
        gained = g ∷ [];
        taken = [];
        given = [];
        puts_are = λ s. none_here (is_place a.out s);
        gains_are = λ s. pop_takes t place.0 s g a.out place.1;
        takes_are = λ s. none_here (is_place a.current s);
        gives_are = λ s. pop_puts t place.0 s g (is_place a.current s);
        out_end = subst (λ e. OutsPass r.round [] (g ∷ []) e (ends_of q.node).out) (sym (ap end_there k.out ∙ k.is)) (k.end_after, out ∙ ap end_there k.out_after ∙ k.is_after, gain_passes r.round k.end k.end_after grant k.gains);
        in_end = in_rests r.round (ends_of p.node).link (ends_of q.node).link (ap (λ e. e.link) ends) (none_waits p h.may);
        others = ends_but (ends_of p.node) (ends_of q.node) (ap (λ e. e.returned) ends) (ap (λ e. e.door) ends) (ap (λ e. e.old_outs) ends) (ap (λ e. e.old_ins) ends);
        recorded = ap (λ x. x.entries) h.recorded ∙ ap (λ n. r.entries ++ (t, event.Gain n) ∷ []) (ap (λ x. x.name) (sym sits.held));
      },
    )

gain_may : (grant : Grant) (p : Party) (kept : ANode) (q : Party) → Gained grant p kept q → MayTurn q
gain_may grant p kept q h =
    let k : KeptNow grant p.node kept = kept_now p.node kept grant h.may.returned h.keeps_grant in
    let ends : ends_of q.node ≡ record (ends_of p.node) { out = (ends_of kept).out; link = (ends_of p.node).link } = ends_kept grant p kept q h in
    let open_end : k.end_after.ended ≡ false = k.gains.5 ∙ is_open p k.before k.end h.may k.out k.is in
    let known : MatchOption (option_map out_seen (ends_of q.node).out) ⊥ (λ (o : OutSeen). o.ended ≡ false) =
    subst (λ (e : Option (RingOut Load)). MatchOption (option_map out_seen e) ⊥ (λ (o : OutSeen). o.ended ≡ false)) (sym (ap (λ e. e.out) ends ∙ ap end_there k.out_after ∙ k.is_after)) open_end in
    record {
      beside = ap (λ r. r.is_alone) h.recorded ∙ h.may.beside;
      up = ap (λ x. x.phase) h.held ∙ h.may.up;
      free = ap (λ x. x.asks) h.held ∙ h.may.free;
      out = any_some (held_of q.node).out known;
      link =
          subst (λ (x : Held). MatchOption x.current ⊤ (λ _. MatchOption (option_map in_seen (ends_of q.node).link) ⊥ (λ (n : InSeen). n.late ≡ None))) (sym h.held)
          (subst (λ (e : Option (RingIn Load)). MatchOption (held_of p.node).current ⊤ (λ _. MatchOption (option_map in_seen e) ⊥ (λ (n : InSeen). n.late ≡ None))) (sym (ap (λ e. e.link) ends)) h.may.link);
      returned = ap (λ e. e.returned) h.ends;
      booked = ap (λ x. last_of x.book) h.keeps ∙ h.may.booked ∙ ap (λ x. got_of (own_known x)) (sym h.held);
    }

pub gain_acted : (grant : Grant) (p : Party) (kept : ANode) (q : Party) → Gained grant p kept q → Acted (event.Gain (held_of p.node).name ∷ []) p q
gain_acted grant p kept q h =
    let r : Recorded = recorded_of p.node in
    acted_one p q (max r.time (time_in r grant.stamp) + 1) (event.Gain (held_of p.node).name) (gain_turns grant p kept q h) (gain_may grant p kept q h) (ap (λ x. x.round) h.recorded) (ap (λ x. x.entries) h.recorded) h.room

-- ---- the calls of a gain

-- an end that knows of a grant that isn't late
not_true : (b : Bool) → not b ≡ true → b ≡ false
not_true true e = cc
not_true false e = refl

pub early_is : (b : Bool) (m : ANode) (o : RingOut Load) (g : Grant) (rest : List Grant) → (ends_of m).out ≡ Some o → known_items o.back ≡ g ∷ rest → b ≡ is_late (recorded_of m) g.stamp → not b ≡ true → HasEarlyGrant m
early_is b m o g rest there known is early = (o, g, rest, there, known, sym is ∙ not_true b early)

pub gain_there : (grant : Grant) (p : Party) (kept : ANode) (q : Party) → MayTurn p → KeepsGrant RingGains grant p.node kept → held_of kept ≡ held_of p.node → kept.recorder ≡ p.node.recorder
    → held_of q.node ≡ gained_held (held_of kept) grant.amount → ends_of q.node ≡ record (ends_of kept) { returned = None } → gain_refused (held_of kept) ≡ None → recorded_of q.node ≡ noted (event.Gain (held_of kept).name) (met grant.stamp (recorded_of kept))
    → spare_of kept ≡ spare_of q.node + 1 → keeps_in q ≡ keeps_in p → Acted (event.Gain (held_of p.node).name ∷ []) p q
gain_there grant p kept q may keeps_grant same recorder held ends enabled recorded room keeps = gain_acted grant p kept q (record {
  may = may;
  keeps_grant = keeps_grant;
  held = held ∙ ap (λ h. gained_held h grant.amount) same;
  ends = ends;
  enabled = ap gain_refused (sym same) ∙ enabled;
  recorded = recorded ∙ ap (λ h. noted (event.Gain h.name) (met grant.stamp (recorded_of kept))) same ∙ ap (λ r. noted (event.Gain (held_of p.node).name) (met grant.stamp r.recorded)) recorder;
  keeps = keeps;
  room = (let n = ap (λ r. r.spare) recorder in omega (arith, n, room));
})
