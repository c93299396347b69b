-- The ends of links meet, one sender after another.
use Rattle.std.proofs.Common.{◌≡◌, ◌≢◌, ℕ, ◌+◌, ◌<◌, Bool, true, false, cond, nat_eq, List, length, set, Some, refl, sym, ap, subst, ◌∙◌, ⊎_elim, arith}
use Rattle.std.proofs.lemmas.Bool.{eq-eqb, ne_eqb, false≢true, cases_eq}
use Rattle.std.proofs.lemmas.Option.{same_Some}
use Rattle.ordered_link.specs.declared.ring.RingOut.{RingOut}
use Rattle.ordered_link.specs.declared.ring.RingIn.{RingIn}
use Rattle.ordered_link.specs.RingSteps.{RingsHaveMet}
use Rattle.activity.specs.declared.packet.Load.{Load}
use Rattle.gm_member.specs.Shown.{Ends, held_of, ends_of}
use Rattle.ring_parties.specs.declared.party.Party.{Party}
use Rattle.ring_parties.specs.Pairing.{IsAt, EachParty, ArePaired, SendsApart, TakesApart, MayMeetPairs, Meets, HasEnds, MeetsOne, TriesToMeet, met_ends, HaveMetPairs}
use Rattle.ring_parties.proofs.pairs.Each.{within, same_at, one_at, each_then, each_so, each_same, each_set}
use Rattle.ring_parties.proofs.pairs.Moves.{meets_rests, meets_then, one_stays, may_still, paired_still}
use Rattle.ring_parties.proofs.pairs.Names.{one_receiver, one_sender}

-- ---- one sender

-- The member at place k sends on a link whose ends have met, or on none such, and it is marked which.
pub record SenderMet (k : ℕ) (b : Bool) (xs ys : List Party) : Type 0 where
  pub stay : EachParty (λ _ p q. Meets p q) xs ys
  pub marks : EachParty (λ i p q. q.meets ≡ cond (nat_eq i k) b p.meets) xs ys
  pub outs : EachParty (λ i p q. i ≢ k → (ends_of q.node).out ≡ (ends_of p.node).out) xs ys
  pub apart : EachParty (λ i p q. SendsApart xs p → (ends_of q.node).out ≡ (ends_of p.node).out) xs ys
  pub ins : EachParty (λ j p q. ((s : Party) → IsAt xs k s → ArePaired s p → ⊥) → (ends_of q.node).link ≡ (ends_of p.node).link) xs ys
  pub met : (j : ℕ) (p q : Party) (o : RingOut Load) (n : RingIn Load) → IsAt ys k p → IsAt ys j q → ArePaired p q
      → (ends_of p.node).out ≡ Some o → (ends_of q.node).link ≡ Some n → RingsHaveMet o n
  pub paired : b ≡ true → (p : Party) → IsAt xs k p → (j : ℕ) × (q : Party) × IsAt xs j q × ArePaired p q
  pub unpaired : b ≡ false → (p : Party) → IsAt xs k p → SendsApart xs p

-- a mark changes nothing else
marked_stays : (k : ℕ) (xs : List Party) (x : Party) (b : Bool) → IsAt xs k x → EachParty (λ _ p q. Meets p q) xs (set xs k (record x { meets = b }))
marked_stays k xs x b at = each_set (λ _ p q. Meets p q) xs k x (record x { meets = b }) at
    (record { held = refl; keeps = refl; recorder = refl; others = refl; out = (meets_rests x).out; link = (meets_rests x).link })
    (λ i p _. meets_rests p)

marked_ends : (k : ℕ) (xs : List Party) (x : Party) (b : Bool) → IsAt xs k x → EachParty (λ _ p q. ends_of q.node ≡ ends_of p.node) xs (set xs k (record x { meets = b }))
marked_ends k xs x b at = each_set (λ _ p q. ends_of q.node ≡ ends_of p.node) xs k x (record x { meets = b }) at refl (λ i p _. refl)

marked_here : (k : ℕ) (xs : List Party) (x : Party) (b : Bool) → IsAt xs k x → EachParty (λ i p q. q.meets ≡ cond (nat_eq i k) b p.meets) xs (set xs k (record x { meets = b }))
marked_here k xs x b at = each_set (λ i p q. q.meets ≡ cond (nat_eq i k) b p.meets) xs k x (record x { meets = b }) at
    (ap (λ (t : Bool). cond t b x.meets) (sym (eq-eqb k k refl)))
    (λ i p apart. ap (λ (t : Bool). cond t b p.meets) (sym (ne_eqb i k apart)))

-- where nothing has met
pub none_met : (k : ℕ) (xs : List Party) (x : Party) → IsAt xs k x → SendsApart xs x → MayMeetPairs xs → SenderMet k false xs (set xs k (record x { meets = false }))
none_met k xs x at apart may =
    let ys = set xs k (record x { meets = false }) in
    let stay = marked_stays k xs x false at in
    let ends = marked_ends k xs x false at in
    record {
      stay = stay;
      marks = marked_here k xs x false at;
      outs = each_so _ (λ i p q. i ≢ k → (ends_of q.node).out ≡ (ends_of p.node).out) xs ys ends (λ i p q _ _ e _. ap (λ z. z.out) e);
      apart = each_so _ (λ i p q. SendsApart xs p → (ends_of q.node).out ≡ (ends_of p.node).out) xs ys ends (λ i p q _ _ e _. ap (λ z. z.out) e);
      ins = each_so _ (λ j p q. ((s : Party) → IsAt xs k s → ArePaired s p → ⊥) → (ends_of q.node).link ≡ (ends_of p.node).link) xs ys ends (λ i p q _ _ e _. ap (λ z. z.link) e);
      met = λ j p q o n a b pair has_o has_n.
          (let (x0, was) = one_at ys xs k p (sym stay.count) a in
          let (y0, was_y) = one_at ys xs j q (sym stay.count) b in
          absurd (subst (SendsApart xs) (same_at xs k x x0 at was) apart j y0 was_y (paired_still x0 y0 p q (stay.each k x0 p was a).held (stay.each j y0 q was_y b).held pair)));
      paired = λ no. absurd (false≢true no);
      unpaired = λ _ p was. subst (SendsApart xs) (same_at xs k x p at was) apart;
    }

-- where they have
pub one_met : (k : ℕ) (xs ys : List Party) (y : Party) → MayMeetPairs xs → MeetsOne k xs ys → IsAt ys k y → SenderMet k true xs (set ys k (record y { meets = true }))
one_met k xs ys y may m at =
    let zs = set ys k (record y { meets = true }) in
    let R = λ (i : ℕ) (p q : Party). HasEnds (met_ends i k m.place m.out_met m.link_met (ends_of p.node)) p q in
    let E = λ (i : ℕ) (p q : Party). ends_of q.node ≡ met_ends i k m.place m.out_met m.link_met (ends_of p.node) in
    let stay : EachParty (λ _ p q. Meets p q) xs zs = each_then (λ _ p q. Meets p q) (λ _ p q. Meets p q) (λ _ p q. Meets p q) xs ys zs (one_stays k xs ys m) (marked_stays k ys y true at)
    (λ i p q r _ _ _ a b. meets_then p q r a b) in
    let ends : EachParty E xs zs = each_then R (λ _ p q. ends_of q.node ≡ ends_of p.node) E xs ys zs m.each (marked_ends k ys y true at) (λ i p q r _ _ _ a b. b ∙ a.ends) in
    record {
      stay = stay;
      marks = each_then R (λ i p q. q.meets ≡ cond (nat_eq i k) true p.meets) (λ i p q. q.meets ≡ cond (nat_eq i k) true p.meets) xs ys zs m.each (marked_here k ys y true at)
          (λ i p q r _ _ _ a b. b ∙ ap (cond (nat_eq i k) true) a.meets);
      outs = each_so E (λ i p q. i ≢ k → (ends_of q.node).out ≡ (ends_of p.node).out) xs zs ends
          (λ i p q _ _ e apart. out_other i k m.place m.out_met m.link_met (ends_of p.node) (ends_of q.node) e apart);
      apart = each_so E (λ i p q. SendsApart xs p → (ends_of q.node).out ≡ (ends_of p.node).out) xs zs ends
          (λ i p q a _ e apart. out_other i k m.place m.out_met m.link_met (ends_of p.node) (ends_of q.node) e
          (λ (is : i ≡ k). apart m.place m.pair.receiver m.pair.takes (subst (λ z. ArePaired z m.pair.receiver) (same_at xs k m.pair.sender p m.pair.sends (subst (λ j. IsAt xs j p) is a)) m.pair.paired)));
      ins = each_so E (λ j p q. ((s : Party) → IsAt xs k s → ArePaired s p → ⊥) → (ends_of q.node).link ≡ (ends_of p.node).link) xs zs ends
          (λ j p q a _ e apart. link_other j k m.place m.out_met m.link_met (ends_of p.node) (ends_of q.node) e
          (λ (is : j ≡ m.place). apart m.pair.sender m.pair.sends (subst (ArePaired m.pair.sender) (same_at xs m.place m.pair.receiver p m.pair.takes (subst (λ i. IsAt xs i p) is a)) m.pair.paired)));
      met = λ j p q o n a b pair has_o has_n.
          (let (p0, was_p) = one_at zs xs k p (sym stay.count) a in
          let (q0, was_q) = one_at zs xs j q (sym stay.count) b in
          let pair0 : ArePaired p0 q0 = paired_still p0 q0 p q (stay.each k p0 p was_p a).held (stay.each j q0 q was_q b).held pair in
          let sender : m.pair.sender ≡ p0 = same_at xs k m.pair.sender p0 m.pair.sends was_p in
          let here : j ≡ m.place = one_receiver xs j m.place p0 q0 m.pair.receiver may was_q m.pair.takes pair0 (subst (λ z. ArePaired z m.pair.receiver) sender m.pair.paired) in
          let o_is : m.out_met ≡ o = same_Some m.out_met o (sym (out_here k k m.place m.out_met m.link_met (ends_of p0.node) (ends_of p.node) (ends.each k p0 p was_p a) refl) ∙ has_o) in
          let n_is : m.link_met ≡ n = same_Some m.link_met n (sym (link_here j k m.place m.out_met m.link_met (ends_of q0.node) (ends_of q.node) (ends.each j q0 q was_q b) here) ∙ has_n) in
          subst (λ z. RingsHaveMet z n) o_is (subst (RingsHaveMet m.out_met) n_is m.meet.met));
      paired = λ _ p was. (m.place, m.pair.receiver, m.pair.takes, subst (λ z. ArePaired z m.pair.receiver) (same_at xs k m.pair.sender p m.pair.sends was) m.pair.paired);
      unpaired = λ no. absurd (false≢true (sym no));
    }
  where
    out_other : (i k j : ℕ) (o : RingOut Load) (n : RingIn Load) (e f : Ends (RingOut Load) (RingIn Load)) → f ≡ met_ends i k j o n e → i ≢ k → f.out ≡ e.out
    out_other i k j o n e f is apart = ap (λ z. z.out) is ∙ ap (λ (t : Bool). cond t (Some o) e.out) (ne_eqb i k apart)

    out_here : (i k j : ℕ) (o : RingOut Load) (n : RingIn Load) (e f : Ends (RingOut Load) (RingIn Load)) → f ≡ met_ends i k j o n e → i ≡ k → f.out ≡ Some o
    out_here i k j o n e f is same = ap (λ z. z.out) is ∙ ap (λ (t : Bool). cond t (Some o) e.out) (eq-eqb i k same)

    link_other : (i k j : ℕ) (o : RingOut Load) (n : RingIn Load) (e f : Ends (RingOut Load) (RingIn Load)) → f ≡ met_ends i k j o n e → i ≢ j → f.link ≡ e.link
    link_other i k j o n e f is apart = ap (λ z. z.link) is ∙ ap (λ (t : Bool). cond t (Some n) e.link) (ne_eqb i j apart)

    link_here : (i k j : ℕ) (o : RingOut Load) (n : RingIn Load) (e f : Ends (RingOut Load) (RingIn Load)) → f ≡ met_ends i k j o n e → i ≡ j → f.link ≡ Some n
    link_here i k j o n e f is same = ap (λ z. z.link) is ∙ ap (λ (t : Bool). cond t (Some n) e.link) (eq-eqb i j same)

-- the member at a place has tried, and it is marked whether its link has met
pub tried_met : (k : ℕ) (xs ys : List Party) (y : Party) (b : Bool) → MayMeetPairs xs → TriesToMeet k xs ys b → IsAt ys k y → SenderMet k b xs (set ys k (record y { meets = b }))
tried_met k xs ys y true may t at = one_met k xs ys y may (t.did refl) at
tried_met k xs ys y false may t at =
    let (same, apart) = t.did_not refl in
    subst (λ zs. SenderMet k false xs (set zs k (record y { meets = false }))) (sym same)
    (let was = subst (λ zs. IsAt zs k y) same at in none_met k xs y was (apart y was) may)

-- ---- all below a place

-- The ends of all links have met whose senders stand below a place.
pub record MetBelow (k : ℕ) (old new : List Party) : Type 0 where
  pub stay : EachParty (λ _ p q. Meets p q) old new
  pub met : (i j : ℕ) (p q : Party) (o : RingOut Load) (n : RingIn Load) → i < k → IsAt new i p → IsAt new j q → ArePaired p q
      → (ends_of p.node).out ≡ Some o → (ends_of q.node).link ≡ Some n → RingsHaveMet o n
  pub apart_out : EachParty (λ _ p q. SendsApart old p → (ends_of q.node).out ≡ (ends_of p.node).out) old new
  pub apart_in : EachParty (λ _ p q. TakesApart old p → (ends_of q.node).link ≡ (ends_of p.node).link) old new
  pub marked : (i : ℕ) (p : Party) → i < k → IsAt new i p → p.meets ≡ true → (j : ℕ) × (q : Party) × IsAt new j q × ArePaired p q
  pub unmarked : (i : ℕ) (p : Party) → i < k → IsAt new i p → p.meets ≡ false → SendsApart new p

pub none_below : (xs : List Party) → MetBelow 0 xs xs
none_below xs = record {
  stay = each_same (λ _ p q. Meets p q) xs (λ _ p. meets_rests p);
  met = λ i j p q o n l. absurd (omega (arith, l));
  apart_out = each_same (λ _ p q. SendsApart xs p → (ends_of q.node).out ≡ (ends_of p.node).out) xs (λ _ p _. refl);
  apart_in = each_same (λ _ p q. TakesApart xs p → (ends_of q.node).link ≡ (ends_of p.node).link) xs (λ _ p _. refl);
  marked = λ i p l. absurd (omega (arith, l));
  unmarked = λ i p l. absurd (omega (arith, l));
}

-- who sends on a link from which nobody takes does so still, and so of who takes
apart_still : (xs ys : List Party) (p q : Party) → EachParty (λ _ p q. Meets p q) xs ys → held_of q.node ≡ held_of p.node → SendsApart xs p → SendsApart ys q
apart_still xs ys p q stay e apart j r at pair =
    let (x, was) = one_at ys xs j r (sym stay.count) at in
    apart j x was (paired_still p x q r e (stay.each j x r was at).held pair)

-- a pair of before is one still
pair_next : (xs ys : List Party) (p q : Party) → EachParty (λ _ p q. Meets p q) xs ys → held_of q.node ≡ held_of p.node
    → ((j : ℕ) × (r : Party) × IsAt xs j r × ArePaired p r) → (j : ℕ) × (r : Party) × IsAt ys j r × ArePaired q r
pair_next xs ys p q stay e (j, r, was, pair) =
    let (s, at) = one_at xs ys j r stay.count was in
    (j, s, at, paired_still q s p r (sym e) (sym (stay.each j r s was at).held) pair)

mark_other : (i k : ℕ) (b c d : Bool) → d ≡ cond (nat_eq i k) b c → i ≢ k → d ≡ c
mark_other i k b c d e apart = e ∙ ap (λ (t : Bool). cond t b c) (ne_eqb i k apart)

mark_here : (i k : ℕ) (b c d : Bool) → d ≡ cond (nat_eq i k) b c → i ≡ k → d ≡ b
mark_here i k b c d e same = e ∙ ap (λ (t : Bool). cond t b c) (eq-eqb i k same)

module _ (k : ℕ) (old xs ys : List Party) (b : Bool) (may : MayMeetPairs xs) (m : MetBelow k old xs) (s : SenderMet k b xs ys) where
  -- links whose senders stand below are no others'
  met_before : (i j : ℕ) (p q : Party) (o : RingOut Load) (n : RingIn Load) → i < k → IsAt ys i p → IsAt ys j q → ArePaired p q
      → (ends_of p.node).out ≡ Some o → (ends_of q.node).link ≡ Some n → RingsHaveMet o n
  met_before i j p q o n l a at pair has_o has_n =
      let (x, was_x) = one_at ys xs i p (sym s.stay.count) a in
      let (y, was_y) = one_at ys xs j q (sym s.stay.count) at in
      let pair0 : ArePaired x y = paired_still x y p q (s.stay.each i x p was_x a).held (s.stay.each j y q was_y at).held pair in
      let other : i ≢ k = λ (e : i ≡ k). absurd (omega (arith, e, l)) in
      let out : (ends_of p.node).out ≡ (ends_of x.node).out = s.outs.each i x p was_x a other in
      let link : (ends_of q.node).link ≡ (ends_of y.node).link = s.ins.each j y q was_y at
      (λ t was_t pair_t. other (one_sender xs i k x t y may was_x was_t pair0 pair_t)) in
      m.met i j x y o n l was_x was_y pair0 (sym out ∙ has_o) (sym link ∙ has_n)

  marked_before : (i : ℕ) (p : Party) → i < k → IsAt ys i p → p.meets ≡ true → (j : ℕ) × (q : Party) × IsAt ys j q × ArePaired p q
  marked_before i p l a e =
      let (x, was) = one_at ys xs i p (sym s.stay.count) a in
      let other : i ≢ k = λ (f : i ≡ k). absurd (omega (arith, f, l)) in
      pair_next xs ys x p s.stay (s.stay.each i x p was a).held (m.marked i x l was (sym (mark_other i k b x.meets p.meets (s.marks.each i x p was a) other) ∙ e))

  unmarked_before : (i : ℕ) (p : Party) → i < k → IsAt ys i p → p.meets ≡ false → SendsApart ys p
  unmarked_before i p l a e =
      let (x, was) = one_at ys xs i p (sym s.stay.count) a in
      let other : i ≢ k = λ (f : i ≡ k). absurd (omega (arith, f, l)) in
      apart_still xs ys x p s.stay (s.stay.each i x p was a).held (m.unmarked i x l was (sym (mark_other i k b x.meets p.meets (s.marks.each i x p was a) other) ∙ e))

  marked_now : (p : Party) → IsAt ys k p → p.meets ≡ true → (j : ℕ) × (q : Party) × IsAt ys j q × ArePaired p q
  marked_now p a e =
      let (x, was) = one_at ys xs k p (sym s.stay.count) a in
      pair_next xs ys x p s.stay (s.stay.each k x p was a).held (s.paired (sym (mark_here k k b x.meets p.meets (s.marks.each k x p was a) refl) ∙ e) x was)

  unmarked_now : (p : Party) → IsAt ys k p → p.meets ≡ false → SendsApart ys p
  unmarked_now p a e =
      let (x, was) = one_at ys xs k p (sym s.stay.count) a in
      apart_still xs ys x p s.stay (s.stay.each k x p was a).held (s.unpaired (sym (mark_here k k b x.meets p.meets (s.marks.each k x p was a) refl) ∙ e) x was)

  -- below the next place, by those below this one and this one
  below_next : (P : ℕ → Type 0) → ((i : ℕ) → i < k → P i) → P k → (i : ℕ) → i < k + 1 → P i
  below_next P before now i l = ⊎_elim
      (λ (e : i ≡ k). subst P (sym e) now)
      (λ (n : i ≢ k). before i (omega (arith, n, l)))
      (cases_eq i k)

  pub next_below : MetBelow (k + 1) old ys
  next_below = record {
    stay = each_then (λ _ p q. Meets p q) (λ _ p q. Meets p q) (λ _ p q. Meets p q) old xs ys m.stay s.stay (λ i p q r _ _ _ a c. meets_then p q r a c);
    met = λ i j p q o n l. below_next (λ i. IsAt ys i p → IsAt ys j q → ArePaired p q → (ends_of p.node).out ≡ Some o → (ends_of q.node).link ≡ Some n → RingsHaveMet o n)
        (λ i l. met_before i j p q o n l) (s.met j p q o n) i l;
    apart_out = each_then (λ _ p q. SendsApart old p → (ends_of q.node).out ≡ (ends_of p.node).out) (λ _ p q. SendsApart xs p → (ends_of q.node).out ≡ (ends_of p.node).out)
        (λ _ p q. SendsApart old p → (ends_of q.node).out ≡ (ends_of p.node).out) old xs ys m.apart_out s.apart
        (λ i p q r at_p at_q _ a c apart. c (apart_still old xs p q m.stay (m.stay.each i p q at_p at_q).held apart) ∙ a apart);
    apart_in = each_then (λ _ p q. TakesApart old p → (ends_of q.node).link ≡ (ends_of p.node).link)
        (λ _ p q. ((t : Party) → IsAt xs k t → ArePaired t p → ⊥) → (ends_of q.node).link ≡ (ends_of p.node).link)
        (λ _ p q. TakesApart old p → (ends_of q.node).link ≡ (ends_of p.node).link) old xs ys m.apart_in s.ins
        (λ i p q r at_p at_q _ a c apart. c (λ t at_t pair.
        (let (t0, was) = one_at xs old k t (sym m.stay.count) at_t in
        apart k t0 was (paired_still t0 p t q (m.stay.each k t0 t was at_t).held (m.stay.each i p q at_p at_q).held pair))) ∙ a apart);
    marked = λ i p l. below_next (λ i. IsAt ys i p → p.meets ≡ true → (j : ℕ) × (q : Party) × IsAt ys j q × ArePaired p q) (λ i l. marked_before i p l) (marked_now p) i l;
    unmarked = λ i p l. below_next (λ i. IsAt ys i p → p.meets ≡ false → SendsApart ys p) (λ i l. unmarked_before i p l) (unmarked_now p) i l;
  }

-- ---- all

pub all_below : (k : ℕ) (old new : List Party) → k ≡ length new → MetBelow k old new → HaveMetPairs old new
all_below k old new all m = record {
  stay = m.stay;
  met = λ i j p q o n a. m.met i j p q o n (let l = within new i p a in omega (arith, l, all)) a;
  apart_out = λ i p q was at. m.apart_out.each i p q was at;
  apart_in = λ i p q was at. m.apart_in.each i p q was at;
  marked = λ i p a. m.marked i p (let l = within new i p a in omega (arith, l, all)) a;
  unmarked = λ i p a. m.unmarked i p (let l = within new i p a in omega (arith, l, all)) a;
}

pub may_below : (k : ℕ) (old new : List Party) → MayMeetPairs old → MetBelow k old new → MayMeetPairs new
may_below k old new may m = may_still old new m.stay may

pub tried_count : (k : ℕ) (xs ys : List Party) (b : Bool) → TriesToMeet k xs ys b → length ys ≡ length xs
tried_count k xs ys true t = (t.did refl).each.count
tried_count k xs ys false t = ap length (t.did_not refl).0
