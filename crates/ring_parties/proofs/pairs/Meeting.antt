-- The ends of one link are lent, meet, and are given back.
use Rattle.std.proofs.Common.{◌≡◌, ℕ, ◌<◌, Bool, true, false, cond, nat_eq, List, length, get_or, set, Option, Some, None, is_some, refl, sym, ap, ◌∙◌}
use Rattle.std.specs.Prelude.{option_map}
use Rattle.std.proofs.lemmas.Bool.{eq-eqb, ne_eqb, false≢true}
use Rattle.std.proofs.lemmas.Option.{none-some, slice_get-get_or}
use Rattle.ordered_link.specs.declared.ring.RingOut.{RingOut}
use Rattle.ordered_link.specs.declared.ring.RingIn.{RingIn}
use Rattle.ordered_link.specs.RingSteps.{AreRingEnds, RingMeets}
use Rattle.group_view.specs.declared.link.LinkName.{LinkName}
use Rattle.activity.specs.declared.packet.Load.{Load}
use Rattle.gm_member.specs.Held.{Held}
use Rattle.gm_member.specs.View.{ring_link}
use Rattle.gm_member.specs.Shown.{Ends, held_of, ends_of, out_name_of, in_name_of}
use Rattle.ring_parties.specs.declared.party.Party.{Party}
use Rattle.ring_parties.specs.Parties.{ANode}
use Rattle.ring_parties.specs.Pairing.{IsAt, EachParty, HasEnds, met_ends, MayMeetPairs, TakesFrom, SendsApartAt, TriesToMeet}
use Rattle.ring_parties.proofs.standing.Rings.{fits_ends}
use Rattle.ring_parties.proofs.pairs.Each.{same_at, one_at, each_then, each_set}

-- the ends of a member
abbrev pub AnEnds : Type 0
AnEnds = Ends (RingOut Load) (RingIn Load)

-- one call on the member at a place
abbrev pub Moved : ℕ → (AnEnds → AnEnds) → ℕ → Party → Party → Type 0
Moved i f k p q = HasEnds (cond (nat_eq k i) (f (ends_of p.node)) (ends_of p.node)) p q

pub node_moved : (xs : List Party) (i : ℕ) (d : Party) (n : ANode) (f : AnEnds → AnEnds) → i < length xs
    → ends_of n ≡ f (ends_of (get_or xs i d).node) → held_of n ≡ held_of (get_or xs i d).node → n.recorder ≡ (get_or xs i d).node.recorder
    → EachParty (Moved i f) xs (set xs i (record (get_or xs i d) { node = n }))
node_moved xs i d n f l ends held recorder =
    let r : Party = get_or xs i d in
    each_set (Moved i f) xs i r (record r { node = n }) (slice_get-get_or xs i d l)
    (record {
      ends = ends ∙ ap (λ (t : Bool). cond t (f (ends_of r.node)) (ends_of r.node)) (sym (eq-eqb i i refl));
      held = held;
      keeps = refl;
      recorder = recorder;
      meets = refl;
    })
    (λ k p apart. record {
      ends = ap (λ (t : Bool). cond t (f (ends_of p.node)) (ends_of p.node)) (sym (ne_eqb k i apart));
      held = refl;
      keeps = refl;
      recorder = refl;
      meets = refl;
    })

-- that makes together
met_together : (a b : Bool) (o : RingOut Load) (n : RingIn Load) (e0 e1 e2 e3 e4 : AnEnds)
    → e1 ≡ cond a (record e0 { out = None }) e0 → e2 ≡ cond b (record e1 { link = None }) e1
    → e3 ≡ cond b (record e2 { link = Some n }) e2 → e4 ≡ cond a (record e3 { out = Some o }) e3
    → e4 ≡ record e0 { out = cond a (Some o) e0.out; link = cond b (Some n) e0.link }
met_together a b o n e0 e1 e2 e3 e4 p q r s =
    s ∙ ap (λ (e : AnEnds). cond a (record e { out = Some o }) e) (r ∙ ap (λ (e : AnEnds). cond b (record e { link = Some n }) e) (q ∙ ap (λ (e : AnEnds). cond b (record e { link = None }) e) p))
    ∙ all a b
  where
    step1 : Bool → AnEnds
    step1 a = cond a (record e0 { out = None }) e0

    all : (a b : Bool) → cond a (record (cond b (record (cond b (record (step1 a) { link = None }) (step1 a)) { link = Some n }) (cond b (record (step1 a) { link = None }) (step1 a))) { out = Some o }) (cond b (record (cond b (record (step1 a) { link = None }) (step1 a)) { link = Some n }) (cond b (record (step1 a) { link = None }) (step1 a)))
        ≡ record e0 { out = cond a (Some o) e0.out; link = cond b (Some n) e0.link }
    all true true = refl
    all true false = refl
    all false true = refl
    all false false = refl

-- two calls after one another
two_moved : (xs ys zs : List Party) (R S : ℕ → Party → AnEnds) → EachParty (λ k p q. HasEnds (R k p) p q) xs ys → EachParty (λ k p q. HasEnds (S k p) p q) ys zs
    → EachParty (λ k p r. (q : Party) × HasEnds (R k p) p q × HasEnds (S k q) q r) xs zs
two_moved xs ys zs R S a b = each_then (λ k p q. HasEnds (R k p) p q) (λ k p q. HasEnds (S k p) p q) (λ k p r. (q : Party) × HasEnds (R k p) p q × HasEnds (S k q) q r) xs ys zs a b
    (λ k p q r _ _ _ a b. (q, a, b))

pub all_moved : (i j : ℕ) (o : RingOut Load) (n : RingIn Load) (xs ys zs us vs : List Party)
    → EachParty (Moved i (λ e. record e { out = None })) xs ys → EachParty (Moved j (λ e. record e { link = None })) ys zs
    → EachParty (Moved j (λ e. record e { link = Some n })) zs us → EachParty (Moved i (λ e. record e { out = Some o })) us vs
    → EachParty (λ k p q. HasEnds (met_ends k i j o n (ends_of p.node)) p q) xs vs
all_moved i j o n xs ys zs us vs a b c d =
    let before = two_moved xs ys zs (λ k p. cond (nat_eq k i) (record (ends_of p.node) { out = None }) (ends_of p.node)) (λ k p. cond (nat_eq k j) (record (ends_of p.node) { link = None }) (ends_of p.node)) a b in
    let behind = two_moved zs us vs (λ k p. cond (nat_eq k j) (record (ends_of p.node) { link = Some n }) (ends_of p.node)) (λ k p. cond (nat_eq k i) (record (ends_of p.node) { out = Some o }) (ends_of p.node)) c d in
    each_then _ _ (λ k p q. HasEnds (met_ends k i j o n (ends_of p.node)) p q) xs zs vs before behind
    (λ k p r t _ _ _ (q, x, y) (s, z, w). record {
      ends = met_together (nat_eq k i) (nat_eq k j) o n (ends_of p.node) (ends_of q.node) (ends_of r.node) (ends_of s.node) (ends_of t.node) x.ends y.ends z.ends w.ends;
      held = w.held ∙ z.held ∙ y.held ∙ x.held;
      keeps = w.keeps ∙ z.keeps ∙ y.keeps ∙ x.keeps;
      recorder = w.recorder ∙ z.recorder ∙ y.recorder ∙ x.recorder;
      meets = w.meets ∙ z.meets ∙ y.meets ∙ x.meets;
    })

-- ---- the ends are there

named_some : {A B : Type 0} (f : A → B) (o : Option A) (b : B) → option_map f o ≡ Some b → is_some o ≡ true
named_some f None b e = absurd (none-some b e)
named_some f (Some a) b e = refl

sends_there : (h : Held) (name : LinkName) → out_name_of h ≡ Some name → is_some h.out ≡ true
sends_there h name e = named_some (λ o. ring_link h.id o.to o.opened) h.out name e

takes_there : (h : Held) (name : LinkName) → in_name_of h 0 ≡ Some name → is_some h.current ≡ true
takes_there h name e = named_some (λ l. ring_link l.from h.id l.opened) h.current name e

-- whose out end is lent keeps its in end, and the other way round
keeps_link : (b : Bool) (e f : AnEnds) → f ≡ cond b (record e { out = None }) e → f.link ≡ e.link
keeps_link true e f is = ap (λ z. z.link) is
keeps_link false e f is = ap (λ z. z.link) is

keeps_out : (b : Bool) (l : Option (RingIn Load)) (e f : AnEnds) → f ≡ cond b (record e { link = l }) e → f.out ≡ e.out
keeps_out true l e f is = ap (λ z. z.out) is
keeps_out false l e f is = ap (λ z. z.out) is

module _ (xs : List Party) (i j : ℕ) (may : MayMeetPairs xs) (t : TakesFrom xs i j) where
  sender_is : (x : Party) → IsAt xs i x → t.sender ≡ x
  sender_is x at = same_at xs i t.sender x t.sends at

  receiver_is : (y : Party) → IsAt xs j y → t.receiver ≡ y
  receiver_is y at = same_at xs j t.receiver y t.takes at

  does_send : (x : Party) → IsAt xs i x → is_some (held_of x.node).out ≡ true
  does_send x at = sends_there (held_of x.node) t.paired.0 (ap (λ (z : Party). out_name_of (held_of z.node)) (sym (sender_is x at)) ∙ t.paired.1)

  does_take : (y : Party) → IsAt xs j y → is_some (held_of y.node).current ≡ true
  does_take y at = takes_there (held_of y.node) t.paired.0 (ap (λ (z : Party). in_name_of (held_of z.node) 0) (sym (receiver_is y at)) ∙ t.paired.2)

  pub out_there : (x : Party) → IsAt xs i x → (ends_of x.node).out ≡ None → ⊥
  out_there x at none = false≢true (sym (ap is_some none) ∙ sym (may.outs i x at) ∙ does_send x at)

  -- where its out end is lent
  module _ (ys : List Party) (a : EachParty (Moved i (λ e. record e { out = None })) xs ys) where
    was_link : (y : Party) → IsAt ys j y → (y0 : Party) × IsAt xs j y0 × (held_of y.node ≡ held_of y0.node) × ((ends_of y.node).link ≡ (ends_of y0.node).link)
    was_link y at =
        let (y0, was) = one_at ys xs j y (sym a.count) at in
        let h = a.each j y0 y was at in
        (y0, was, h.held, keeps_link (nat_eq j i) (ends_of y0.node) (ends_of y.node) h.ends)

    pub link_there : (y : Party) → IsAt ys j y → (ends_of y.node).link ≡ None → ⊥
    link_there y at none =
        let (y0, was, held, link) = was_link y at in
        false≢true (sym (ap is_some (sym link ∙ none)) ∙ sym (may.links j y0 was) ∙ does_take y0 was)

    pub two_fit : (x y : Party) (o : RingOut Load) (n : RingIn Load) → IsAt xs i x → IsAt ys j y → (ends_of x.node).out ≡ Some o → (ends_of y.node).link ≡ Some n → AreRingEnds o n
    two_fit x y o n at_x at_y has_o has_n =
        let (y0, was, held, link) = was_link y at_y in
        fits_ends o n (may.fits i j t.sender t.receiver o n t.sends t.takes t.paired (ap (λ (z : Party). (ends_of z.node).out) (sender_is x at_x) ∙ has_o)
        (ap (λ (z : Party). (ends_of z.node).link) (receiver_is y0 was) ∙ sym link ∙ has_n))

    -- and then its receiver's in end
    module _ (zs : List Party) (b : EachParty (Moved j (λ e. record e { link = None })) ys zs) where
      pub takes_still : (z : Party) → IsAt zs j z → is_some (held_of z.node).current ≡ true
      takes_still z at =
          let (y, was) = one_at zs ys j z (sym b.count) at in
          let (y0, was0, held, link) = was_link y was in
          ap (λ h. is_some h.current) ((b.each j y z was at).held ∙ held) ∙ does_take y0 was0

      pub link_lent : (z : Party) → IsAt zs j z → (ends_of z.node).link ≡ None
      link_lent z at =
          let (y, was) = one_at zs ys j z (sym b.count) at in
          ap (λ e. e.link) (b.each j y z was at).ends ∙ ap (λ (s : Bool). (cond s (record (ends_of y.node) { link = None }) (ends_of y.node)).link) (eq-eqb j j refl)

      -- and that came back
      module _ (n : RingIn Load) (us : List Party) (c : EachParty (Moved j (λ e. record e { link = Some n })) zs us) where
        pub back_at : (u : Party) → IsAt us i u → (x : Party) × IsAt xs i x × (held_of u.node ≡ held_of x.node) × ((ends_of u.node).out ≡ None)
        back_at u at =
            let (z, at_z) = one_at us zs i u (sym c.count) at in
            let (y, at_y) = one_at zs ys i z (sym b.count) at_z in
            let (x, at_x) = one_at ys xs i y (sym a.count) at_y in
            let m1 = a.each i x y at_x at_y in
            let m2 = b.each i y z at_y at_z in
            let m3 = c.each i z u at_z at in (
              x,
              at_x,
              m3.held ∙ m2.held ∙ m1.held,
              keeps_out (nat_eq i j) (Some n) (ends_of z.node) (ends_of u.node) m3.ends
                  ∙ keeps_out (nat_eq i j) None (ends_of y.node) (ends_of z.node) m2.ends
                  ∙ ap (λ e. e.out) m1.ends ∙ ap (λ (s : Bool). (cond s (record (ends_of x.node) { out = None }) (ends_of x.node)).out) (eq-eqb i i refl),
            )

        pub sends_still : (u : Party) → IsAt us i u → is_some (held_of u.node).out ≡ true
        sends_still u at = let (x, was, held, out) = back_at u at in ap (λ h. is_some h.out) held ∙ does_send x was

        pub both_met : (x y : Party) (o o' : RingOut Load) (l : RingIn Load) (vs : List Party) → IsAt xs i x → IsAt ys j y → (ends_of x.node).out ≡ Some o → (ends_of y.node).link ≡ Some l
            → RingMeets o l o' n → EachParty (Moved i (λ e. record e { out = Some o' })) us vs → TriesToMeet i xs vs true
        both_met x y o o' l vs at_x at_y has_o has_l meet d =
            let (y0, was, held, link) = was_link y at_y in
            record {
              did = λ _. record {
                place = j;
                pair = t;
                out = o;
                has_out = ap (λ (z : Party). (ends_of z.node).out) (sender_is x at_x) ∙ has_o;
                link = l;
                has_link = ap (λ (z : Party). (ends_of z.node).link) (receiver_is y0 was) ∙ sym link ∙ has_l;
                out_met = o';
                link_met = n;
                meet = meet;
                each = all_moved i j o' n xs ys zs us vs a b c d;
              };
              did_not = λ no. absurd (false≢true (sym no));
            }

pub not_met : (i : ℕ) (xs : List Party) → SendsApartAt xs i → TriesToMeet i xs xs false
not_met i xs apart = record {
  did = λ no. absurd (false≢true no);
  did_not = λ _. (refl, apart);
}
