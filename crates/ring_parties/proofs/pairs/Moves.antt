-- What the meeting of ends leaves of a party.
use Rattle.std.proofs.Common.{◌≡◌, ℕ, ◌+◌, ◌++◌, ◌∷◌, [], Bool, true, false, cond, nat_eq, List, Option, Some, None, is_some, refl, sym, ap, subst, ◌∙◌, ⊎_elim, inl, inr}
use Rattle.std.specs.Prelude.{◌⊎◌}
use Rattle.std.proofs.lemmas.Bool.{eqb-true}
use Rattle.std.proofs.lemmas.Option.{none-some, same_Some}
use Rattle.ordered_link.specs.declared.grant.Grant.{Grant}
use Rattle.ordered_link.specs.declared.ring.RingOut.{RingOut}
use Rattle.ordered_link.specs.declared.ring.RingIn.{RingIn}
use Rattle.ordered_link.specs.Waiting.{Sends}
use Rattle.ordered_link.specs.RingSteps.{OutStays, InStays}
use Rattle.activity.specs.declared.packet.Load.{Load}
use Rattle.gm_member.specs.Shown.{Ends, held_of, ends_of, out_name_of, in_name_of}
use Rattle.ring_parties.specs.declared.party.Party.{Party}
use Rattle.ring_parties.specs.Ends.{Fits}
use Rattle.ring_parties.specs.Parties.{out_seen, in_seen}
use Rattle.ring_parties.specs.Pairing.{IsAt, EachParty, OutMeets, InMeets, Meets, HasEnds, MeetsOne, met_ends, MayMeetPairs, ArePaired}
use Rattle.ring_parties.proofs.standing.Rings.{pair_out, pair_in}
use Rattle.ring_parties.proofs.pairs.Each.{same_at, one_at, each_so}

-- ---- an end that may have met, more than once

sends_then : (a b c : List Grant) (la lb lc : Option Grant) → Sends a la b lb → Sends b lb c lc → Sends a la c lc
sends_then a b c la lb lc s t = ⊎_elim
    (λ (x : (b ≡ a) × (lb ≡ la)). subst (λ g. Sends g la c lc) x.0 (subst (λ l. Sends b l c lc) x.1 t))
    (λ (x : (lb ≡ None) × (g : Grant) × (la ≡ Some g) × (b ≡ a ++ g ∷ [])). ⊎_elim
    (λ (y : (c ≡ b) × (lc ≡ lb)). inr (y.1 ∙ x.0, x.1, x.2, y.0 ∙ x.3))
    (λ (y : (lc ≡ None) × (g : Grant) × (lb ≡ Some g) × (c ≡ b ++ g ∷ [])). absurd (none-some y.1 (sym x.0 ∙ y.2)))
    t)
    s

out_stays_then : (a b c : RingOut Load) → OutStays a b → OutStays b c → OutStays a c
out_stays_then a b c (((w, s, n, h), k), ((w1, s1, n1, h1), k1), i, r, e, j) (((w', s', n', h'), k'), ((w1', s1', n1', h1'), k1'), i', r', e', j') =
    (((w' ∙ w, s' ∙ s, n' ∙ n, h' ∙ h), k' ∙ k), ((w1' ∙ w1, s1' ∙ s1, n1' ∙ n1, h1' ∙ h1), k1' ∙ k1), i' ∙ i, r' ∙ r, e' ∙ e, j' ∙ j)

in_stays_then : (a b c : RingIn Load) → InStays a b → InStays b c → InStays a c
in_stays_then a b c (((w, s, n, h), k), r, ((w1, s1, n1, h1), k1), t, j) (((w', s', n', h'), k'), r', ((w1', s1', n1', h1'), k1'), t', j') =
    (((w' ∙ w, s' ∙ s, n' ∙ n, h' ∙ h), k' ∙ k), r' ∙ r, ((w1' ∙ w1, s1' ∙ s1, n1' ∙ n1, h1' ∙ h1), k1' ∙ k1), sends_then _ _ _ _ _ _ t t', j' ∙ j)

may_then : {X : Type 0} (R : X → X → Type 0) → ((a b c : X) → R a b → R b c → R a c) → (a b c : X) → (b ≡ a) ⊎ R a b → (c ≡ b) ⊎ R b c → (c ≡ a) ⊎ R a c
may_then R then a b c s t = ⊎_elim
    (λ (x : b ≡ a). subst (λ z. (c ≡ z) ⊎ R z c) x t)
    (λ (x : R a b). ⊎_elim (λ (y : c ≡ b). inr (subst (R a) (sym y) x)) (λ (y : R b c). inr (then a b c x y)) t)
    s

out_then : (a b c : Option (RingOut Load)) → OutMeets a b → OutMeets b c → OutMeets a c
out_then None b c e f = subst (λ x. OutMeets x c) e f
out_then (Some o) b c (o', e, s) f =
    let again : OutMeets (Some o') c = subst (λ x. OutMeets x c) e f in
    (again.0, again.1, may_then OutStays out_stays_then o o' again.0 s again.2)

in_then : (a b c : Option (RingIn Load)) → InMeets a b → InMeets b c → InMeets a c
in_then None b c e f = subst (λ x. InMeets x c) e f
in_then (Some n) b c (n', e, s) f =
    let again : InMeets (Some n') c = subst (λ x. InMeets x c) e f in
    (again.0, again.1, may_then InStays in_stays_then n n' again.0 s again.2)

out_rests : (a : Option (RingOut Load)) → OutMeets a a
out_rests None = refl
out_rests (Some o) = (o, refl, inl refl)

in_rests : (a : Option (RingIn Load)) → InMeets a a
in_rests None = refl
in_rests (Some n) = (n, refl, inl refl)

-- ---- a party

pub meets_rests : (p : Party) → Meets p p
meets_rests p = record {
  held = refl;
  keeps = refl;
  recorder = refl;
  others = refl;
  out = out_rests (ends_of p.node).out;
  link = in_rests (ends_of p.node).link;
}

-- the ends of two links have moved, and then again
two_moves : (a b c : Ends (RingOut Load) (RingIn Load)) → b ≡ record a { out = b.out; link = b.link } → c ≡ record b { out = c.out; link = c.link }
    → c ≡ record a { out = c.out; link = c.link }
two_moves a b c e f = f ∙ ap (λ (x : Ends (RingOut Load) (RingIn Load)). record x { out = c.out; link = c.link }) e

pub meets_then : (p q r : Party) → Meets p q → Meets q r → Meets p r
meets_then p q r a b = record {
  held = b.held ∙ a.held;
  keeps = b.keeps ∙ a.keeps;
  recorder = b.recorder ∙ a.recorder;
  others = two_moves (ends_of p.node) (ends_of q.node) (ends_of r.node) a.others b.others;
  out = out_then (ends_of p.node).out (ends_of q.node).out (ends_of r.node).out a.out b.out;
  link = in_then (ends_of p.node).link (ends_of q.node).link (ends_of r.node).link a.link b.link;
}

-- ---- one meeting

out_moves : (b : Bool) (o o' : RingOut Load) (x y : Option (RingOut Load)) → y ≡ cond b (Some o') x → (b ≡ true → x ≡ Some o) → OutStays o o' → OutMeets x y
out_moves true o o' x y e was s = subst (λ z. OutMeets z y) (sym (was refl)) (o', e, inr s)
out_moves false o o' x y e was s = subst (OutMeets x) (sym e) (out_rests x)

in_moves : (b : Bool) (n n' : RingIn Load) (x y : Option (RingIn Load)) → y ≡ cond b (Some n') x → (b ≡ true → x ≡ Some n) → InStays n n' → InMeets x y
in_moves true n n' x y e was s = subst (λ z. InMeets z y) (sym (was refl)) (n', e, inr s)
in_moves false n n' x y e was s = subst (InMeets x) (sym e) (in_rests x)

-- a party after it
one_meets : (i : ℕ) (xs ys : List Party) (m : MeetsOne i xs ys) (k : ℕ) (p q : Party) → IsAt xs k p → HasEnds (met_ends k i m.place m.out_met m.link_met (ends_of p.node)) p q → Meets p q
one_meets i xs ys m k p q at h = record {
  held = h.held;
  keeps = h.keeps;
  recorder = h.recorder;
  others = h.ends ∙ ap (λ (e : Ends (RingOut Load) (RingIn Load)). record (ends_of p.node) { out = e.out; link = e.link }) (sym h.ends);
  out = out_moves (nat_eq k i) m.out m.out_met (ends_of p.node).out (ends_of q.node).out (ap (λ e. e.out) h.ends)
      (λ b. ap (λ (z : Party). (ends_of z.node).out) (same_at xs i p m.pair.sender (subst (λ j. IsAt xs j p) (eqb-true k i b) at) m.pair.sends) ∙ m.has_out)
      m.meet.out;
  link = in_moves (nat_eq k m.place) m.link m.link_met (ends_of p.node).link (ends_of q.node).link (ap (λ e. e.link) h.ends)
      (λ b. ap (λ (z : Party). (ends_of z.node).link) (same_at xs m.place p m.pair.receiver (subst (λ j. IsAt xs j p) (eqb-true k m.place b) at) m.pair.takes) ∙ m.has_link)
      m.meet.link;
}

pub one_stays : (i : ℕ) (xs ys : List Party) → MeetsOne i xs ys → EachParty (λ k p q. Meets p q) xs ys
one_stays i xs ys m = each_so (λ k p q. HasEnds (met_ends k i m.place m.out_met m.link_met (ends_of p.node)) p q) (λ k p q. Meets p q) xs ys m.each
    (λ k p q a b h. one_meets i xs ys m k p q a h)

-- ---- ends may still meet

still_out : (x y : Option (RingOut Load)) → OutMeets x y → is_some y ≡ is_some x
still_out None y e = ap is_some e
still_out (Some o) y (o', e, s) = ap is_some e

still_in : (x y : Option (RingIn Load)) → InMeets x y → is_some y ≡ is_some x
still_in None y e = ap is_some e
still_in (Some n) y (n', e, s) = ap is_some e

-- the end from which this one has come
out_was : (x y : Option (RingOut Load)) (o' : RingOut Load) → OutMeets x y → y ≡ Some o' → (o : RingOut Load) × (x ≡ Some o) × ((o' ≡ o) ⊎ OutStays o o')
out_was None y o' e f = absurd (none-some o' (sym e ∙ f))
out_was (Some o) y o' (p, e, s) f = (o, refl, subst (λ z. (z ≡ o) ⊎ OutStays o z) (same_Some p o' (sym e ∙ f)) s)

in_was : (x y : Option (RingIn Load)) (n' : RingIn Load) → InMeets x y → y ≡ Some n' → (n : RingIn Load) × (x ≡ Some n) × ((n' ≡ n) ⊎ InStays n n')
in_was None y n' e f = absurd (none-some n' (sym e ∙ f))
in_was (Some n) y n' (p, e, s) f = (n, refl, subst (λ z. (z ≡ n) ⊎ InStays n z) (same_Some p n' (sym e ∙ f)) s)

out_same : (o o' : RingOut Load) → (o' ≡ o) ⊎ OutStays o o' → ((out_seen o').initial ≡ (out_seen o).initial) × ((out_seen o').ring ≡ (out_seen o).ring)
out_same o o' = ⊎_elim
    (λ (e : o' ≡ o). (ap (λ x. (out_seen x).initial) e, ap (λ x. (out_seen x).ring) e))
    (λ (s : OutStays o o'). (s.5, pair_out o o' s.0 s.1))

in_same : (n n' : RingIn Load) → (n' ≡ n) ⊎ InStays n n' → ((in_seen n').initial ≡ (in_seen n).initial) × ((in_seen n').ring ≡ (in_seen n).ring)
in_same n n' = ⊎_elim
    (λ (e : n' ≡ n). (ap (λ x. (in_seen x).initial) e, ap (λ x. (in_seen x).ring) e))
    (λ (s : InStays n n'). (s.4, pair_in n n' s.0 s.2))

fits_still : (o o' : RingOut Load) (n n' : RingIn Load) → (o' ≡ o) ⊎ OutStays o o' → (n' ≡ n) ⊎ InStays n n' → Fits (out_seen o) (in_seen n) → Fits (out_seen o') (in_seen n')
fits_still o o' n n' s t f =
    let a = out_same o o' s in
    let b = in_same n n' t in
    record {
      initial = b.0 ∙ f.initial ∙ sym a.0;
      ring = b.1 ∙ f.ring ∙ sym a.1;
      slots = ap (λ r. r.slots) a.1 ∙ f.slots ∙ ap (λ k. k + 1) (sym a.0);
    }

-- links stay paired
pub paired_still : (p q p' q' : Party) → held_of p'.node ≡ held_of p.node → held_of q'.node ≡ held_of q.node → ArePaired p' q' → ArePaired p q
paired_still p q p' q' e f (name, out, link) = (name, subst (λ h. out_name_of h ≡ Some name) e out, subst (λ h. in_name_of h 0 ≡ Some name) f link)

pub may_still : (xs ys : List Party) → EachParty (λ k p q. Meets p q) xs ys → MayMeetPairs xs → MayMeetPairs ys
may_still xs ys stay may = record {
  ids = λ i p at. (let (x, was) = one_at ys xs i p (sym stay.count) at in ap (λ h. h.id) (stay.each i x p was at).held ∙ may.ids i x was);
  to = λ i p name at e. (let (x, was) = one_at ys xs i p (sym stay.count) at in may.to i x name was (subst (λ h. out_name_of h ≡ Some name) (stay.each i x p was at).held e));
  outs = λ i p at. (let (x, was) = one_at ys xs i p (sym stay.count) at in let m = stay.each i x p was at in
      ap (λ h. is_some h.out) m.held ∙ may.outs i x was ∙ sym (still_out (ends_of x.node).out (ends_of p.node).out m.out));
  links = λ i p at. (let (x, was) = one_at ys xs i p (sym stay.count) at in let m = stay.each i x p was at in
      ap (λ h. is_some h.current) m.held ∙ may.links i x was ∙ sym (still_in (ends_of x.node).link (ends_of p.node).link m.link));
  fits = λ i j p q o n a b pair has_o has_n.
      (let (x, was_x) = one_at ys xs i p (sym stay.count) a in
      let (y, was_y) = one_at ys xs j q (sym stay.count) b in
      let m = stay.each i x p was_x a in
      let k = stay.each j y q was_y b in
      let (o0, has_o0, s) = out_was (ends_of x.node).out (ends_of p.node).out o m.out has_o in
      let (n0, has_n0, t) = in_was (ends_of y.node).link (ends_of q.node).link n k.link has_n in
      fits_still o0 o n0 n s t (may.fits i j x y o0 n0 was_x was_y (paired_still x y p q m.held k.held pair) has_o0 has_n0));
}
