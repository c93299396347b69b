-- Between two meetings: who may take turns still may once ends have met, and ends may meet again once turns were taken.
use Rattle.std.proofs.Common.{◌≡◌, ℕ, ◌+◌, ◌<◌, false, List, [], length, Option, Some, None, is_some, refl, sym, ap, subst, ◌∙◌, arith}
use Rattle.std.specs.Prelude.{option_map, MatchOption, ⊤}
use Rattle.std.proofs.lemmas.Option.{slice_get_within}
use Rattle.ordered_link.specs.Names.{PairName, out_pair, in_pair}
use Rattle.ordered_link.specs.declared.ring.RingOut.{RingOut}
use Rattle.ordered_link.specs.declared.ring.RingIn.{RingIn}
use Rattle.activity.specs.declared.packet.Load.{Load}
use Rattle.activity.specs.Kept.{got_of}
use Rattle.confirm_book.specs.Book.{last_of}
use Rattle.gm_member.specs.Held.{Held, Outgoing, Incoming}
use Rattle.gm_member.specs.Shown.{Ends, held_of, ends_of, recorded_of, out_name_of, in_name_of}
use Rattle.ring_parties.specs.declared.party.Party.{Party}
use Rattle.ring_parties.specs.Ends.{OutSeen, InSeen, Fits}
use Rattle.ring_parties.specs.Parties.{Keeps, shown_of, keeps_in, amount_of, out_seen, in_seen}
use Rattle.ring_parties.specs.Keeps.{own_known}
use Rattle.ring_parties.specs.Round.{Seat}
use Rattle.ring_parties.specs.Pairing.{IsAt, EachParty, OutMeets, InMeets, Meets, MayMeetPairs, IsHeardIf}
use Rattle.ring_parties.specs.Turn.{OutsPass, InsPass, round_of, MayTurn, SitsAt, Turned, TakesTurns}
use Rattle.ring_parties.proofs.lists.Truth.{some_is, made_some}
use Rattle.ring_parties.proofs.standing.Rings.{none_waiting}
use Rattle.ring_parties.proofs.turns.Balance.{out_kept, in_kept}
use Rattle.ring_parties.proofs.turns.Places.{party_at}

-- ---- who may take turns

out_open : (a : Option Outgoing) (b b' : Option (RingOut Load)) → OutMeets b b' → MatchOption a ⊤ (λ _. MatchOption (option_map out_seen b) ⊥ (λ (o : OutSeen). o.ended ≡ false)) → MatchOption a ⊤ (λ _. MatchOption (option_map out_seen b') ⊥ (λ (o : OutSeen). o.ended ≡ false))
out_open None b b' m h = tt
out_open (Some a) None b' m h = absurd h
out_open (Some a) (Some o) b' (o', e, k) h = subst (λ x. MatchOption (option_map out_seen x) ⊥ (λ (z : OutSeen). z.ended ≡ false)) (sym e) ((out_kept o o' k).ended ∙ h)

in_free : (a : Option Incoming) (b b' : Option (RingIn Load)) → InMeets b b' → MatchOption a ⊤ (λ _. MatchOption (option_map in_seen b) ⊥ (λ (n : InSeen). n.late ≡ None)) → MatchOption a ⊤ (λ _. MatchOption (option_map in_seen b') ⊥ (λ (n : InSeen). n.late ≡ None))
in_free None b b' m h = tt
in_free (Some a) None b' m h = absurd h
in_free (Some a) (Some n) b' (n', e, k) h = subst (λ x. MatchOption (option_map in_seen x) ⊥ (λ (z : InSeen). z.late ≡ None)) (sym e) (ap amount_of (in_kept n n' (none_waiting n.late h) k).late)

-- once ends have met
pub may_still : (r r' : Party) → Meets r r' → MayTurn r → MayTurn r'
may_still r r' m h = record {
  beside = ap (λ c. c.recorded.is_alone) m.recorder ∙ h.beside;
  up = ap (λ (g : Held). g.phase) m.held ∙ h.up;
  free = ap (λ (g : Held). g.asks) m.held ∙ h.free;
  out = subst (λ (g : Held). MatchOption g.out ⊤ (λ _. MatchOption (shown_of r'.node).ends.out ⊥ (λ (o : OutSeen). o.ended ≡ false))) (sym m.held) (out_open (held_of r.node).out (ends_of r.node).out (ends_of r'.node).out m.out h.out);
  link = subst (λ (g : Held). MatchOption g.current ⊤ (λ _. MatchOption (shown_of r'.node).ends.link ⊥ (λ (n : InSeen). n.late ≡ None))) (sym m.held) (in_free (held_of r.node).current (ends_of r.node).link (ends_of r'.node).link m.link h.link);
  returned = ap (λ (e : Ends (RingOut Load) (RingIn Load)). e.returned) m.others ∙ h.returned;
  booked = ap (λ (k : Keeps). last_of k.book) m.keeps ∙ h.booked ∙ sym (ap (λ (g : Held). got_of (own_known g)) m.held);
}

-- and where only the mark is another
pub may_unmarked : (all : List Party) (r r' : Party) → IsHeardIf all r r' → MayTurn r → MayTurn r'
may_unmarked all r r' m h = record {
  beside = ap (λ c. (recorded_of c).is_alone) m.node ∙ h.beside;
  up = ap (λ c. (held_of c).phase) m.node ∙ h.up;
  free = ap (λ c. (held_of c).asks) m.node ∙ h.free;
  out = subst (λ c. MatchOption (held_of c).out ⊤ (λ _. MatchOption (shown_of c).ends.out ⊥ (λ (o : OutSeen). o.ended ≡ false))) (sym m.node) h.out;
  link = subst (λ c. MatchOption (held_of c).current ⊤ (λ _. MatchOption (shown_of c).ends.link ⊥ (λ (n : InSeen). n.late ≡ None))) (sym m.node) h.link;
  returned = ap (λ c. (shown_of c).ends.returned) m.node ∙ h.returned;
  booked = ap (λ (k : Keeps). last_of k.book) m.keeps ∙ h.booked ∙ sym (ap (λ c. got_of (own_known (held_of c))) m.node);
}

-- ---- ends that may meet again

-- A party has its id, its links have their names, and their ends are of the same rings.
pub record KeepsLinks (r r' : Party) : Type 0 where
  pub id : (held_of r'.node).id ≡ (held_of r.node).id
  pub out_named : out_name_of (held_of r'.node) ≡ out_name_of (held_of r.node)
  pub in_named : in_name_of (held_of r'.node) 0 ≡ in_name_of (held_of r.node) 0
  pub outs : is_some (ends_of r'.node).out ≡ is_some (ends_of r.node).out
  pub links : is_some (ends_of r'.node).link ≡ is_some (ends_of r.node).link
  pub out_end : (o' : RingOut Load) → (ends_of r'.node).out ≡ Some o' → (o : RingOut Load) × ((ends_of r.node).out ≡ Some o) × (o'.initial ≡ o.initial) × (out_pair o' ≡ out_pair o)
  pub in_end : (n' : RingIn Load) → (ends_of r'.node).link ≡ Some n' → (n : RingIn Load) × ((ends_of r.node).link ≡ Some n) × (n'.initial ≡ n.initial) × (in_pair n' ≡ in_pair n)

pub keeps_still : (r r' : Party) → r' ≡ r → KeepsLinks r r'
keeps_still r r' e = record {
  id = ap (λ (z : Party). (held_of z.node).id) e;
  out_named = ap (λ (z : Party). out_name_of (held_of z.node)) e;
  in_named = ap (λ (z : Party). in_name_of (held_of z.node) 0) e;
  outs = ap (λ (z : Party). is_some (ends_of z.node).out) e;
  links = ap (λ (z : Party). is_some (ends_of z.node).link) e;
  out_end = λ o' k. (o', ap (λ (z : Party). (ends_of z.node).out) (sym e) ∙ k, refl, refl);
  in_end = λ n' k. (n', ap (λ (z : Party). (ends_of z.node).link) (sym e) ∙ k, refl, refl);
}

outs_many : (round : ℕ) (put : _) (gained : _) (a b : Option (RingOut Load)) → OutsPass round put gained a b → is_some b ≡ is_some a
outs_many round put gained None b h = ap is_some h.0
outs_many round put gained (Some o) b h = ap is_some h.1

ins_many : (round : ℕ) (taken : _) (given : _) (a b : Option (RingIn Load)) → InsPass round taken given a b → is_some b ≡ is_some a
ins_many round taken given None b h = ap is_some h.0
ins_many round taken given (Some n) b h = ap is_some h.1

out_before : (round : ℕ) (put : _) (gained : _) (a b : Option (RingOut Load)) → OutsPass round put gained a b → (o' : RingOut Load) → b ≡ Some o' → (o : RingOut Load) × (a ≡ Some o) × (o'.initial ≡ o.initial) × (out_pair o' ≡ out_pair o)
out_before round put gained None b h o' e = absurd (none_some (sym h.0 ∙ e))
  where
    none_some : {X : Type 0} {x : X} → None ≡ Some x → ⊥
    none_some k = cc
out_before round put gained (Some o) b h o' e =
    let same : o' ≡ h.0 = some_is (sym e ∙ h.1) in
    (o, refl, ap (λ (z : RingOut Load). z.initial) same ∙ h.2.initial, ap out_pair same ∙ h.2.ring)

in_before : (round : ℕ) (taken : _) (given : _) (a b : Option (RingIn Load)) → InsPass round taken given a b → (n' : RingIn Load) → b ≡ Some n' → (n : RingIn Load) × (a ≡ Some n) × (n'.initial ≡ n.initial) × (in_pair n' ≡ in_pair n)
in_before round taken given None b h n' e = absurd (none_some (sym h.0 ∙ e))
  where
    none_some : {X : Type 0} {x : X} → None ≡ Some x → ⊥
    none_some k = cc
in_before round taken given (Some n) b h n' e =
    let same : n' ≡ h.0 = some_is (sym e ∙ h.1) in
    (n, refl, ap (λ (z : RingIn Load). z.initial) same ∙ h.2.initial, ap in_pair same ∙ h.2.ring)

-- a seat for a party, wherever its links stand
abbrev seat_for : Party → Seat
seat_for r = record { held = held_of r.node; keeps = keeps_in r; out = option_map (λ _. 0) (held_of r.node).out; current = option_map (λ _. 0) (held_of r.node).current; door = [] }

sits_there : (r : Party) → SitsAt (seat_for r) r
sits_there r = record { held = refl; keeps = refl; out = made_some (λ _. 0) (held_of r.node).out; current = made_some (λ _. 0) (held_of r.node).current }

pub keeps_turned : (r r' : Party) → TakesTurns r r' → KeepsLinks r r'
keeps_turned r r' h =
    let k = h (seat_for r) (sits_there r) in
    let t : Turned (round_of r) (seat_for r) k.0 k.1 r r' = k.2 in
    record {
      id = ap (λ (g : Held). g.id) (sym t.sits.held) ∙ t.names.id;
      out_named = ap out_name_of (sym t.sits.held) ∙ t.names.out;
      in_named = ap (λ (g : Held). in_name_of g 0) (sym t.sits.held) ∙ t.names.current;
      outs = outs_many (round_of r) t.put t.gained (ends_of r.node).out (ends_of r'.node).out t.out_end;
      links = ins_many (round_of r) t.taken t.given (ends_of r.node).link (ends_of r'.node).link t.in_end;
      out_end = out_before (round_of r) t.put t.gained (ends_of r.node).out (ends_of r'.node).out t.out_end;
      in_end = in_before (round_of r) t.taken t.given (ends_of r.node).link (ends_of r'.node).link t.in_end;
    }

pub meet_again : (ps qs : List Party) → EachParty (λ _ r r'. KeepsLinks r r') ps qs → MayMeetPairs ps → MayMeetPairs qs
meet_again ps qs each h = record {
  ids = λ i r at. let b = was i r at in (keeps i r at).id ∙ h.ids i b.0 b.1;
  to = λ i r name at e. let b = was i r at in h.to i b.0 name b.1 (sym (keeps i r at).out_named ∙ e);
  outs = λ i r at. let b = was i r at in sym (made_some _ (held_of r.node).out) ∙ ap is_some (keeps i r at).out_named ∙ made_some _ (held_of b.0.node).out ∙ h.outs i b.0 b.1 ∙ sym (keeps i r at).outs;
  links = λ i r at. let b = was i r at in sym (made_some _ (held_of r.node).current) ∙ ap is_some (keeps i r at).in_named ∙ made_some _ (held_of b.0.node).current ∙ h.links i b.0 b.1 ∙ sym (keeps i r at).links;
  fits = λ i j x y o' n' ix jy pair eo en.
      let bx = was i x ix in
      let by' = was j y jy in
      let ko = (keeps i x ix).out_end o' eo in
      let kn = (keeps j y jy).in_end n' en in
      let before : Fits (out_seen ko.0) (in_seen kn.0) = h.fits i j bx.0 by'.0 ko.0 kn.0 bx.1 by'.1 (pair.0, sym (keeps i x ix).out_named ∙ pair.1, sym (keeps j y jy).in_named ∙ pair.2) ko.1 kn.1 in
      record {
        initial = kn.2 ∙ before.initial ∙ sym ko.2;
        ring = kn.3 ∙ before.ring ∙ sym ko.3;
        slots = ap (λ (z : PairName). z.slots) ko.3 ∙ before.slots ∙ ap (λ k. k + 1) (sym ko.2);
      };
}
  where
    was : (i : ℕ) (r : Party) → IsAt qs i r → (b : Party) × IsAt ps i b
    was i r at = party_at ps i (let l : i < length qs = slice_get_within qs i r at in omega (arith, l, each.count))

    keeps : (i : ℕ) (r : Party) (at : IsAt qs i r) → KeepsLinks (was i r at).0 r
    keeps i r at = each.each i (was i r at).0 r (was i r at).1 at
