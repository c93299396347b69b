-- Where the parties stand when the ends of a link have met.
use Rattle.std.proofs.Common.{◌≡◌, ◌≢◌, ℕ, ◌-◌, ◌<◌, ◌≤◌, Bool, true, false, cond, nat_eq, List, [], ◌∷◌, length, get_or, set, Option, Some, None, refl, sym, ap, subst, ◌∙◌, ⊎_elim, inl}
use Rattle.std.specs.Prelude.{option_map, ◌⊎◌}
use Rattle.std.proofs.lemmas.Bool.{false≢true, cases_eq, cases_lt}
use Rattle.std.proofs.lemmas.List.{set_past}
use Rattle.std.proofs.lemmas.Option.{none-some}
use Rattle.ring_names.specs.declared.numbers.CreditSpec.{CreditSpec}
use Rattle.group_view.specs.declared.link.LinkName.{LinkName}
use Rattle.group_view.specs.Ring.{is_in}
use Rattle.group_view.proofs.Rings.{nat_eq-same, nat_eq-not}
use Rattle.ring_rules.specs.Machine.{World, member_at, link_at}
use Rattle.ring_rules.specs.OpenLinks.{is_place}
use Rattle.ring_rules.specs.Step.{size}
use Rattle.ring_rules.proofs.rings.Lists.{at_set}
use Rattle.ring_rules.proofs.invariants.Happens.{IsGood}
use Rattle.ring_rules.proofs.walks.OpenWalk.{place_is}
use Rattle.gm_member.specs.Held.{Outgoing}
use Rattle.gm_member.specs.View.{ring_link}
use Rattle.gm_member.specs.Shown.{in_name_of, out_name_of, in_end}
use Rattle.gm_member.specs.Stands.{outgoing_in}
use Rattle.ring_rules.proofs.work.OwnEnds.{OwnEnds}
use Rattle.ring_parties.specs.Ends.{OutSeen, InSeen, Carries, HaveMet, HasRested, Fits, Meets}
use Rattle.ring_parties.specs.Parties.{Shown, Deposit, Parties, no_shown, node_at, with_node, with_out, with_in}
use Rattle.ring_parties.specs.Standing.{Places, MemberStands, Shows, StandIn, Stand, HaveDone, name_of, has_out, has_in}
use Rattle.ring_parties.specs.Replaced.{StandBetween, DroppedHaveMet, OthersHaveMet}
use Rattle.ring_parties.proofs.work.Lawful.{IsLawfulAt}
use Rattle.ring_parties.proofs.standing.Writing.{placed, placed_same, placed_other, at_in}
use Rattle.ring_parties.proofs.standing.Placing.{GoBetween, name_is_unique, name_found}
use Rattle.ring_parties.proofs.standing.Showing.{stands_of, with_outs, with_ins, out_shows, out_hidden, in_shows, in_all_deposits}
use Rattle.ring_parties.proofs.meetings.Known.{known_met}
use Rattle.ring_parties.proofs.meetings.Meetings.{meets_carry, met_rests, found_at, found_deposit, found_nowhere, deposit_at, deposit_place, IsNowhere}

-- ---- what holds of the ends of each link

-- where both ends of one show something else
pub each_placed : (P : ℕ → OutSeen → InSeen → Type 0) (p : Places) (s : ℕ) (o : OutSeen) (n : InSeen) (t : ℕ) → (t ≡ s → P s o n) → (t ≢ s → P t (p.outs t) (p.ins t)) → P t (placed p.outs s o t) (placed p.ins s n t)
each_placed P p s o n t here other = ⊎_elim
    (λ (same : t ≡ s). subst (λ k. P k (placed p.outs s o k) (placed p.ins s n k)) (sym same)
    (subst (λ a. P s a (placed p.ins s n s)) (sym (placed_same p.outs s o)) (subst (P s o) (sym (placed_same p.ins s n)) (here same))))
    (λ (ne : t ≢ s). subst (λ a. P t a (placed p.ins s n t)) (sym (placed_other p.outs s o t ne)) (subst (P t (p.outs t)) (sym (placed_other p.ins s n t ne)) (other ne)))
    (cases_eq t s)

-- both ends of a link
abbrev pub with_both : Places → ℕ → OutSeen → InSeen → Places
with_both p s o n = with_ins (with_outs p s o) s n

-- they carry it where they have met
pub met_carry : (initial : ℕ) (w : World) (q : Parties) (p : Places) (s : ℕ) (o' : OutSeen) (n' : InSeen) → StandIn initial w q p → Meets (p.outs s) (p.ins s) o' n' → (t : ℕ) → t < length w.links → has_in w t ≡ true → Carries w initial (link_at w t) ((with_both p s o' n').outs t) ((with_both p s o' n').ins t)
met_carry initial w q p s o' n' st m t l h =
    each_placed (λ k o n. k < length w.links → has_in w k ≡ true → Carries w initial (link_at w k) o n) p s o' n' t
    (λ same tl th. meets_carry w initial (link_at w s) (p.outs s) (p.ins s) o' n' m (st.carry s tl th))
    (λ ne. st.carry t) l h

-- the ends that met are those that are shown
meets_so : (o p : OutSeen) (n i : InSeen) (o' : OutSeen) (n' : InSeen) (end : Option InSeen) → p ≡ o → end ≡ Some n → end ≡ Some i → Meets o n o' n' → Meets p i o' n'
meets_so o p n i o' n' end eo found shown m =
    let same : Some n ≡ Some i = sym found ∙ shown in
    let is : n ≡ i = cc in
    subst (λ k. Meets p k o' n') is (subst (λ k. Meets k n o' n') (sym eo) m)

-- ---- names

-- a link that is found at a member has a place
pub placed_at : (w : World) (initial : ℕ) (q : Parties) (p : Places) (y place : ℕ) (name : LinkName) → IsGood w → OwnEnds w → StandIn initial w q p → 1 ≤ y → y < size w → in_name_of (node_at q (y - 1)).held place ≡ Some name → (s : ℕ) × (s < length w.links) × (name_of w s ≡ name)
placed_at w initial q p y place name g own st a l e = name_found w p y place name (node_at q (y - 1)) (st.each y a l) own e

-- the link on which a member sends, by its name
pub out_placed : (w : World) (initial : ℕ) (q : Parties) (p : Places) (x : ℕ) (o : OutSeen) → OwnEnds w → StandIn initial w q p → 1 ≤ x → x < size w → (node_at q (x - 1)).ends.out ≡ Some o
    → (s : ℕ) × ((member_at w x).out ≡ Some s) × (s < length w.links) × ((link_at w s).sender ≡ x) × (p.outs s ≡ o) × (out_name_of (node_at q (x - 1)).held ≡ Some (name_of w s)) × (has_out w s ≡ true)
out_placed w initial q p x o own st a l e = by_out (member_at w x).out refl (sym h.out ∙ e)
  where
    m : Shown
    m = node_at q (x - 1)

    h : MemberStands w p x m
    h = st.each x a l

    by_out : (c : Option ℕ) → (member_at w x).out ≡ c → option_map p.outs c ≡ Some o → (s : ℕ) × ((member_at w x).out ≡ Some s) × (s < length w.links) × ((link_at w s).sender ≡ x) × (p.outs s ≡ o) × (out_name_of m.held ≡ Some (name_of w s)) × (has_out w s ≡ true)
    by_out None c k = cc
    by_out (Some s) c k =
        let own_of = own.out x s c in
        let name : out_name_of m.held ≡ Some (name_of w s) =
        ap out_name_of h.held
        ∙ ap (λ d. option_map (λ (f : Outgoing). ring_link x f.to f.opened) (option_map (outgoing_in w) d)) c
        ∙ ap (λ y. Some (ring_link y (link_at w s).receiver (link_at w s).opened)) (sym own_of.1) in
        (s, c, own_of.0, own_of.1, cc, name, ap (λ y. is_place (member_at w y).out s) own_of.1 ∙ ap (λ d. is_place d s) c ∙ nat_eq-same s)

-- where it has this name
out_known : (w : World) (initial : ℕ) (q : Parties) (p : Places) (x : ℕ) (o : OutSeen) (name : LinkName) → OwnEnds w → StandIn initial w q p → 1 ≤ x → x < size w → (node_at q (x - 1)).ends.out ≡ Some o → out_name_of (node_at q (x - 1)).held ≡ Some name
    → (s : ℕ) × ((member_at w x).out ≡ Some s) × (s < length w.links) × (p.outs s ≡ o) × (name ≡ name_of w s) × (has_out w s ≡ true)
out_known w initial q p x o name own st a l e named =
    let f = out_placed w initial q p x o own st a l e in
    let both : Some name ≡ Some (name_of w f.0) = sym named ∙ f.5 in
    let is : name ≡ name_of w f.0 = cc in
    (f.0, f.1, f.2, f.4, is, f.6)

-- ---- a replaced end

-- of the replaced end only one name is that
pub first_same : (a b : LinkName × OutSeen) → Some a ≡ Some b → a.0 ≡ b.0
first_same a b e = let is : a ≡ b = cc in ap (λ (c : LinkName × OutSeen). c.0) is

-- it rests, or was just replaced
abbrev pub RestsOr : World → Option (LinkName × OutSeen) → ℕ → OutSeen → InSeen → Type 0
RestsOr w replaced t o n = HasRested o n ⊎ (replaced ≡ Some (name_of w t, o))

-- what rested when it was dropped still does, and what was just replaced has met
replaced_dropped : (w : World) (p : Places) (s : ℕ) (name : LinkName) (o : OutSeen) (o' : OutSeen) (n' : InSeen) → IsGood w → s < length w.links → name_of w s ≡ name → HaveMet o' n' → DroppedHaveMet w p (Some (name, o)) → DroppedHaveMet w (with_both p s o' n') None
replaced_dropped w p s name o o' n' g sl named m d t l h none =
    each_placed (RestsOr w None) p s o' n' t
    (λ same. inl (met_rests o' n' m))
    (λ ne. ⊎_elim
    (λ (r : HasRested (p.outs t) (p.ins t)). inl r)
    (λ (e : Some (name, o) ≡ Some (name_of w t, p.outs t)).
    let is : name ≡ name_of w t = first_same (name, o) (name_of w t, p.outs t) e in
    absurd (ne (name_is_unique w t s g l sl (sym is ∙ sym named))))
    (d t l h none))

-- The link of a replaced end, which its receiver may still take from, and what its ends show: its in end is the one that is found.
record ReplacedLink (w : World) (p : Places) (name : LinkName) (o : OutSeen) (end : Option InSeen) : Type 0 where
  link : ℕ
  within : link < length w.links
  named : name_of w link ≡ name
  has : has_in w link ≡ true
  shown : end ≡ Some (p.ins link)
  none : has_out w link ≡ false
  out : p.outs link ≡ o

-- at a member
replaced_at : (credit : CreditSpec) (w : World) (ids : List ℕ) (q : Parties) (y place : ℕ) (name : LinkName) (o : OutSeen) → IsLawfulAt credit w → (b : StandBetween credit.initial w ids q (Some (name, o))) → 1 ≤ y → y < size w → in_name_of (node_at q (y - 1)).held place ≡ Some name
    → ReplacedLink w b.places name o (in_end (node_at q (y - 1)).ends place)
replaced_at credit w ids q y place name o g b a l named =
    let p : Places = b.places in
    let f = placed_at w credit.initial q p y place name g.fit.good g.fit.own_ends b.stand a l named in
    let s : ℕ = f.0 in
    let k = found_at credit w q p y place s g b.stand a l f.1 (named ∙ ap Some (sym f.2)) in
    let fits : (has_out w s ≡ false) × (p.outs s ≡ o) = b.fits s o f.1 k.1 (ap (λ i. Some (i, o)) (sym f.2)) in
    record { link = s; within = f.1; named = f.2; has = k.1; shown = k.2; none = fits.0; out = fits.1 }

-- or in the deposits
replaced_deposited : (credit : CreditSpec) (w : World) (ids : List ℕ) (q : Parties) (j : ℕ) (d : Deposit) (name : LinkName) (o : OutSeen) → IsLawfulAt credit w → GoBetween w → (b : StandBetween credit.initial w ids q (Some (name, o))) → j < length q.deposits → (get_or q.deposits j d).name ≡ name
    → ReplacedLink w b.places name o (get_or q.deposits j d).end
replaced_deposited credit w ids q j d name o g go b l named =
    let p : Places = b.places in
    let f = deposit_at credit.initial w q p j d b.stand l in
    let s : ℕ = get_or p.deposits j 0 in
    let sl : s < length w.links = b.stand.within s (at_in p.deposits j f.0) in
    let its : name_of w s ≡ name = sym (ap (λ (x : Deposit). x.name) f.1) ∙ named in
    let k = found_deposit credit w q p j s d g go b.stand l sl (named ∙ sym its) in
    let fits : (has_out w s ≡ false) × (p.outs s ≡ o) = b.fits s o sl k.0 (ap (λ i. Some (i, o)) (sym its)) in
    record { link = s; within = sl; named = its; has = k.0; shown = k.1; none = fits.0; out = fits.1 }

-- ---- the ends of a link meet

-- those of the others have met as before, where whoever sends on one and is none of the second list is none of the first
others_met : (w : World) (p : Places) (s : ℕ) (o' : OutSeen) (n' : InSeen) (ids ids' : List ℕ) → HaveMet o' n' → ((t : ℕ) → t ≢ s → has_out w t ≡ true → is_in (link_at w t).sender ids' ≡ false → is_in (link_at w t).sender ids ≡ false)
    → OthersHaveMet w p ids → OthersHaveMet w (with_both p s o' n') ids'
others_met w p s o' n' ids ids' m fewer old t l h o apart = each_placed (λ _ a b. HaveMet a b) p s o' n' t (λ same. m) (λ ne. old t l h o (fewer t ne o apart))

-- and nothing is replaced
both_met : {C : ℕ → Type 0} (initial : ℕ) (w : World) (ids ids' : List ℕ) (q q' : Parties) (replaced : Option (LinkName × OutSeen)) (b : StandBetween initial w ids q replaced) (s : ℕ) (o' : OutSeen) (n' : InSeen) → Meets (b.places.outs s) (b.places.ins s) o' n' → has_in w s ≡ true
    → Shows C w q' (with_both b.places s o' n') → DroppedHaveMet w (with_both b.places s o' n') None → ((t : ℕ) → t ≢ s → has_out w t ≡ true → is_in (link_at w t).sender ids' ≡ false → is_in (link_at w t).sender ids ≡ false)
    → StandBetween initial w ids' q' None
both_met initial w ids ids' q q' replaced b s o' n' m has shows dropped fewer = record {
  places = with_both b.places s o' n';
  stand = stands_of initial w q' (with_both b.places s o' n') shows (met_carry initial w q b.places s o' n' b.stand m);
  dropped = dropped;
  fits = λ t e l h k. cc;
  met = others_met w b.places s o' n' ids ids' m.met fewer b.met;
  known = known_met w b.places s o' n' has b.known;
}

-- a replaced one has met its other end at a member
pub replaced_met_at : (credit : CreditSpec) (w : World) (ids : List ℕ) (q : Parties) (y place : ℕ) (name : LinkName) (o : OutSeen) (n : InSeen) (o' : OutSeen) (n' : InSeen) → IsLawfulAt credit w → StandBetween credit.initial w ids q (Some (name, o)) → 1 ≤ y → y < size w
    → in_name_of (node_at q (y - 1)).held place ≡ Some name → in_end (node_at q (y - 1)).ends place ≡ Some n → Meets o n o' n'
    → StandBetween credit.initial w ids (with_node q (y - 1) (with_in (node_at q (y - 1)) place n')) None
replaced_met_at credit w ids q y place name o n o' n' g b a l named end m =
    let p : Places = b.places in
    let f : ReplacedLink w p name o (in_end (node_at q (y - 1)).ends place) = replaced_at credit w ids q y place name o g b a l named in
    let s : ℕ = f.link in
    let meets : Meets (p.outs s) (p.ins s) o' n' = meets_so o (p.outs s) n (p.ins s) o' n' (in_end (node_at q (y - 1)).ends place) f.out end f.shown m in
    both_met credit.initial w ids ids q (with_node q (y - 1) (with_in (node_at q (y - 1)) place n')) (Some (name, o)) b s o' n' meets f.has
    (in_shows w q (with_outs p s o') y place s n' g.fit.good g.fit.own_ends a l f.within (named ∙ ap Some (sym f.named)) (out_hidden w q p s o' g.fit.own_ends f.none b.stand))
    (replaced_dropped w p s name o o' n' g.fit.good f.within f.named m.met b.dropped) (λ t ne out apart. apart)

-- in the deposits
pub replaced_met_deposited : (credit : CreditSpec) (w : World) (ids : List ℕ) (q : Parties) (j : ℕ) (d : Deposit) (name : LinkName) (o : OutSeen) (n : InSeen) (o' : OutSeen) (n' : InSeen) → IsLawfulAt credit w → GoBetween w → StandBetween credit.initial w ids q (Some (name, o)) → j < length q.deposits
    → (get_or q.deposits j d).name ≡ name → (get_or q.deposits j d).end ≡ Some n → Meets o n o' n'
    → StandBetween credit.initial w ids (record q { deposits = set q.deposits j (record { name = name; end = Some n' }) }) None
replaced_met_deposited credit w ids q j d name o n o' n' g go b l named end m =
    let p : Places = b.places in
    let f : ReplacedLink w p name o (get_or q.deposits j d).end = replaced_deposited credit w ids q j d name o g go b l named in
    let s : ℕ = f.link in
    let place = deposit_place w credit.initial q p j s d g.fit.good b.stand l f.within (named ∙ sym f.named) in
    let meets : Meets (p.outs s) (p.ins s) o' n' = meets_so o (p.outs s) n (p.ins s) o' n' (get_or q.deposits j d).end f.out end f.shown m in
    subst (λ i. StandBetween credit.initial w ids (record q { deposits = set q.deposits j (record { name = i; end = Some n' }) }) None) f.named
    (both_met credit.initial w ids ids q (record q { deposits = set q.deposits j (record { name = name_of w s; end = Some n' }) }) (Some (name, o)) b s o' n' meets f.has
    (in_all_deposits w q (with_outs p s o') j s n' g.fit.own_ends go place.0 place.1 (out_hidden w q p s o' g.fit.own_ends f.none b.stand))
    (replaced_dropped w p s name o o' n' g.fit.good f.within f.named m.met b.dropped) (λ t ne out apart. apart))

-- its other end is nowhere
pub replaced_gone : (credit : CreditSpec) (w : World) (ids : List ℕ) (q : Parties) (name : LinkName) (o : OutSeen) → IsLawfulAt credit w → GoBetween w → StandBetween credit.initial w ids q (Some (name, o)) → IsNowhere q name → StandBetween credit.initial w ids q None
replaced_gone credit w ids q name o g go b none = record {
  places = b.places;
  stand = b.stand;
  dropped = λ t l h out. ⊎_elim
      (λ (r : HasRested (b.places.outs t) (b.places.ins t)). inl r)
      (λ (e : Some (name, o) ≡ Some (name_of w t, b.places.outs t)).
      let is : name ≡ name_of w t = first_same (name, o) (name_of w t, b.places.outs t) e in
      absurd (false≢true (sym (found_nowhere credit w q b.places t g go b.stand l (subst (IsNowhere q) is none)) ∙ h)))
      (b.dropped t l h out);
  fits = λ t e l h k. cc;
  met = b.met;
  known = b.known;
}

-- ---- the out ends of members, one after the other

-- all have met
pub met_all : (initial : ℕ) (w : World) (q : Parties) → StandBetween initial w [] q None → Stand initial w q
met_all initial w q m = record {
  places = m.places;
  stand = m.stand;
  met = λ s sl h. by_out s sl h (has_out w s) refl;
  known = m.known;
}
  where
    by_out : (s : ℕ) → s < length w.links → has_in w s ≡ true → (b : Bool) → has_out w s ≡ b → HaveDone b (m.places.outs s) (m.places.ins s)
    by_out s sl h true e = m.met s sl h e refl
    by_out s sl h false e = ⊎_elim
        (λ (r : HasRested (m.places.outs s) (m.places.ins s)). r)
        (λ (n : None ≡ Some (name_of w s, m.places.outs s)). cc)
        (m.dropped s sl h e)

-- who sends on a link has it
sends_it : (w : World) (s : ℕ) → has_out w s ≡ true → (member_at w (link_at w s).sender).out ≡ Some s
sends_it w s h = place_is (member_at w (link_at w s).sender).out s h

-- who sends on a link that isn't that of x, and is none of these, is none of these and x
one_fewer : (w : World) (ids : List ℕ) (x t : ℕ) → has_out w t ≡ true → ((member_at w x).out ≡ Some t → ⊥) → is_in (link_at w t).sender ids ≡ false → is_in (link_at w t).sender (x ∷ ids) ≡ false
one_fewer w ids x t o ne apart =
    let other : nat_eq (link_at w t).sender x ≡ false = nat_eq-not (link_at w t).sender x (λ (who : (link_at w t).sender ≡ x). ne (sym (ap (λ y. (member_at w y).out) who) ∙ sends_it w t o)) in
    ap (λ b. cond b true (is_in (link_at w t).sender ids)) other ∙ apart

-- so of each link but s, where x sends on that
fewer_but : (w : World) (ids : List ℕ) (x s : ℕ) → (member_at w x).out ≡ Some s → (t : ℕ) → t ≢ s → has_out w t ≡ true → is_in (link_at w t).sender ids ≡ false → is_in (link_at w t).sender (x ∷ ids) ≡ false
fewer_but w ids x s out t ne o apart = one_fewer w ids x t o (λ its. (let both : Some t ≡ Some s = sym its ∙ out in ne cc)) apart

-- what was dropped isn't that link
dropped_more : (w : World) (p : Places) (s : ℕ) (o' : OutSeen) (n' : InSeen) → has_out w s ≡ true → DroppedHaveMet w p None → DroppedHaveMet w (with_both p s o' n') None
dropped_more w p s o' n' has d t l h none =
    each_placed (RestsOr w None) p s o' n' t
    (λ same. absurd (false≢true (sym none ∙ ap (has_out w) same ∙ has)))
    (λ ne. d t l h none)

-- a member that sends on no link from which may be taken
met_so : (initial : ℕ) (w : World) (ids : List ℕ) (q : Parties) (x : ℕ) → ((t : ℕ) → has_in w t ≡ true → (member_at w x).out ≡ Some t → ⊥) → StandBetween initial w (x ∷ ids) q None → StandBetween initial w ids q None
met_so initial w ids q x none m = record {
  places = m.places;
  stand = m.stand;
  dropped = m.dropped;
  fits = m.fits;
  met = λ t tl h o apart. m.met t tl h o (one_fewer w ids x t o (none t h) apart);
  known = m.known;
}

-- one that sends on none
pub met_none : (credit : CreditSpec) (w : World) (ids : List ℕ) (q : Parties) (x : ℕ) → 1 ≤ x → x < size w → (node_at q (x - 1)).ends.out ≡ None → StandBetween credit.initial w (x ∷ ids) q None → StandBetween credit.initial w ids q None
met_none credit w ids q x some l none m =
    let mine : MemberStands w m.places x (node_at q (x - 1)) = m.stand.each x some l in
    met_so credit.initial w ids q x (λ t _ its. none-some (m.places.outs t) (sym none ∙ mine.out ∙ ap (option_map m.places.outs) its)) m

-- one whose link has no other end
pub met_gone : (credit : CreditSpec) (w : World) (ids : List ℕ) (q : Parties) (x : ℕ) (o : OutSeen) (name : LinkName) → IsLawfulAt credit w → GoBetween w → 1 ≤ x → x < size w → (node_at q (x - 1)).ends.out ≡ Some o → out_name_of (node_at q (x - 1)).held ≡ Some name → IsNowhere q name
    → StandBetween credit.initial w (x ∷ ids) q None → StandBetween credit.initial w ids q None
met_gone credit w ids q x o name g go some l out named none m =
    let f = out_known w credit.initial q m.places x o name g.fit.own_ends m.stand some l out named in
    let s : ℕ = f.0 in
    let gone : has_in w s ≡ false = found_nowhere credit w q m.places s g go m.stand f.2 (subst (IsNowhere q) f.4 none) in
    met_so credit.initial w ids q x (λ t h its.
    let both : Some t ≡ Some s = sym its ∙ f.1 in
    let same : t ≡ s = cc in
    false≢true (sym gone ∙ ap (has_in w) (sym same) ∙ h)) m

-- ---- one whose link has met its other end

-- what a member holds where another has another out end, or it itself
held_still : (q : Parties) (i j : ℕ) (o : OutSeen) → (node_at (with_node q i (with_out (node_at q i) o)) j).held ≡ (node_at q j).held
held_still q i j o = ⊎_elim
    (λ (lt : i < length q.nodes). at_set (λ k (m : Shown). m.held ≡ (node_at q k).held) q.nodes i j (with_out (node_at q i) o) no_shown lt refl (λ _. refl))
    (λ (ge : length q.nodes ≤ i). ap (λ ms. (get_or ms j no_shown).held) (set_past q.nodes i (with_out (node_at q i) o) ge))
    (cases_lt i (length q.nodes))

-- at a member
pub met_at : (credit : CreditSpec) (w : World) (ids : List ℕ) (q : Parties) (x y place : ℕ) (name : LinkName) (o : OutSeen) (n : InSeen) (o' : OutSeen) (n' : InSeen) → IsLawfulAt credit w → 1 ≤ x → x < size w → (node_at q (x - 1)).ends.out ≡ Some o → out_name_of (node_at q (x - 1)).held ≡ Some name
    → 1 ≤ y → y < size w → in_name_of (node_at q (y - 1)).held place ≡ Some name → in_end (node_at q (y - 1)).ends place ≡ Some n → Meets o n o' n'
    → StandBetween credit.initial w (x ∷ ids) q None
    → StandBetween credit.initial w ids (with_node (with_node q (x - 1) (with_out (node_at q (x - 1)) o')) (y - 1) (with_in (node_at (with_node q (x - 1) (with_out (node_at q (x - 1)) o')) (y - 1)) place n')) None
met_at credit w ids q x y place name o n o' n' g some xl out named a l found end m met =
    let p : Places = met.places in
    let f = out_known w credit.initial q p x o name g.fit.own_ends met.stand some xl out named in
    let s : ℕ = f.0 in
    let its : in_name_of (node_at q (y - 1)).held place ≡ Some (name_of w s) = found ∙ ap Some f.4 in
    let c = found_at credit w q p y place s g met.stand a l f.2 its in
    let meets : Meets (p.outs s) (p.ins s) o' n' = meets_so o (p.outs s) n (p.ins s) o' n' (in_end (node_at q (y - 1)).ends place) f.3 end c.2 m in
    let q1 : Parties = with_node q (x - 1) (with_out (node_at q (x - 1)) o') in
    both_met credit.initial w (x ∷ ids) ids q (with_node q1 (y - 1) (with_in (node_at q1 (y - 1)) place n')) None met s o' n' meets c.1
    (in_shows w q1 (with_outs p s o') y place s n' g.fit.good g.fit.own_ends a l f.2 (ap (λ h. in_name_of h place) (held_still q (x - 1) (y - 1) o') ∙ its)
    (out_shows w q p x s o' g.fit.own_ends some xl f.1 met.stand))
    (dropped_more w p s o' n' f.5 met.dropped) (fewer_but w ids x s f.1)

-- in the deposits
pub met_deposit : (credit : CreditSpec) (w : World) (ids : List ℕ) (q : Parties) (x j : ℕ) (d : Deposit) (name : LinkName) (o : OutSeen) (n : InSeen) (o' : OutSeen) (n' : InSeen) → IsLawfulAt credit w → GoBetween w → 1 ≤ x → x < size w → (node_at q (x - 1)).ends.out ≡ Some o
    → out_name_of (node_at q (x - 1)).held ≡ Some name → j < length q.deposits → (get_or q.deposits j d).name ≡ name → (get_or q.deposits j d).end ≡ Some n → Meets o n o' n'
    → StandBetween credit.initial w (x ∷ ids) q None
    → StandBetween credit.initial w ids (record (with_node q (x - 1) (with_out (node_at q (x - 1)) o')) { deposits = set q.deposits j (record { name = name; end = Some n' }) }) None
met_deposit credit w ids q x j d name o n o' n' g go some xl out named l found end m met =
    let p : Places = met.places in
    let f = out_known w credit.initial q p x o name g.fit.own_ends met.stand some xl out named in
    let s : ℕ = f.0 in
    let c = found_deposit credit w q p j s d g go met.stand l f.2 (found ∙ f.4) in
    let place = deposit_place w credit.initial q p j s d g.fit.good met.stand l f.2 (found ∙ f.4) in
    let meets : Meets (p.outs s) (p.ins s) o' n' = meets_so o (p.outs s) n (p.ins s) o' n' (get_or q.deposits j d).end f.3 end c.1 m in
    let q1 : Parties = with_node q (x - 1) (with_out (node_at q (x - 1)) o') in
    subst (λ i. StandBetween credit.initial w ids (record q1 { deposits = set q.deposits j (record { name = i; end = Some n' }) }) None) (sym f.4)
    (both_met credit.initial w (x ∷ ids) ids q (record q1 { deposits = set q.deposits j (record { name = name_of w s; end = Some n' }) }) None met s o' n' meets c.0
    (in_all_deposits w q1 (with_outs p s o') j s n' g.fit.own_ends go place.0 place.1 (out_shows w q p x s o' g.fit.own_ends some xl f.1 met.stand))
    (dropped_more w p s o' n' f.5 met.dropped) (fewer_but w ids x s f.1))

-- ---- the ends that are found are there, and may meet

-- of a replaced end
replaced_fits : (credit : CreditSpec) (w : World) (ids : List ℕ) (q : Parties) (name : LinkName) (o : OutSeen) (end : Option InSeen) (b : StandBetween credit.initial w ids q (Some (name, o))) → ReplacedLink w b.places name o end → (n : InSeen) × (end ≡ Some n) × Fits o n
replaced_fits credit w ids q name o end b f =
    let p : Places = b.places in
    let s : ℕ = f.link in
    (p.ins s, f.shown, subst (λ i. Fits i (p.ins s)) f.out (b.stand.carry s f.within f.has).fits)

-- at a member
pub replaced_there_at : (credit : CreditSpec) (w : World) (ids : List ℕ) (q : Parties) (y place : ℕ) (name : LinkName) (o : OutSeen) → IsLawfulAt credit w → StandBetween credit.initial w ids q (Some (name, o)) → 1 ≤ y → y < size w → in_name_of (node_at q (y - 1)).held place ≡ Some name
    → (n : InSeen) × (in_end (node_at q (y - 1)).ends place ≡ Some n) × Fits o n
replaced_there_at credit w ids q y place name o g b a l named = replaced_fits credit w ids q name o (in_end (node_at q (y - 1)).ends place) b (replaced_at credit w ids q y place name o g b a l named)

-- in the deposits
pub replaced_there_deposited : (credit : CreditSpec) (w : World) (ids : List ℕ) (q : Parties) (j : ℕ) (d : Deposit) (name : LinkName) (o : OutSeen) → IsLawfulAt credit w → GoBetween w → StandBetween credit.initial w ids q (Some (name, o)) → j < length q.deposits → (get_or q.deposits j d).name ≡ name
    → (n : InSeen) × ((get_or q.deposits j d).end ≡ Some n) × Fits o n
replaced_there_deposited credit w ids q j d name o g go b l named = replaced_fits credit w ids q name o (get_or q.deposits j d).end b (replaced_deposited credit w ids q j d name o g go b l named)
