-- Parties that stand in a state may begin a round: the ends of their links may meet, which changes nothing that they show.
use Rattle.std.proofs.Common.{◌≡◌, ⊎_elim, inl, ℕ, ◌+◌, ◌-◌, ◌<◌, ◌≤◌, Bool, true, false, nat_eq, List, length, get_or, Option, Some, None, is_some, refl, sym, ap, subst, ◌∙◌, arith}
use Rattle.std.specs.Prelude.{option_map, MatchOption, ⊤}
use Rattle.std.proofs.lemmas.Bool.{false≢true}
use Rattle.std.proofs.lemmas.Option.{slice_get_within}
use Rattle.ring_names.specs.declared.numbers.CreditSpec.{CreditSpec}
use Rattle.group_view.specs.declared.link.LinkName.{LinkName}
use Rattle.group_view.proofs.Rings.{nat_eq-same}
use Rattle.ordered_link.specs.declared.ring.RingOut.{RingOut}
use Rattle.ordered_link.specs.declared.ring.RingIn.{RingIn}
use Rattle.ring_rules.specs.declared.phase.Phase.TheVariants.{Up}
use Rattle.ring_rules.specs.Machine.{World, member_at, link_at, runs_phase}
use Rattle.ring_rules.specs.OpenLinks.{is_place}
use Rattle.ring_rules.specs.Step.{size}
use Rattle.gm_member.specs.Held.{Held, Outgoing, Incoming}
use Rattle.gm_member.specs.Shown.{Ends, held_of, ends_of, recorded_of, out_name_of, in_name_of}
use Rattle.gm_member.specs.Stands.{incoming_in, outgoing_in}
use Rattle.ring_parties.specs.declared.party.Party.{Party}
use Rattle.ring_parties.specs.Ends.{OutSeen, InSeen, Fits, HaveMet}
use Rattle.ring_parties.specs.Parties.{Parties, ends_seen, shown_of, keeps_in, out_seen, in_seen, node_at}
use Rattle.ring_parties.specs.Standing.{Places, MemberStands, Stand, name_of, has_out, has_in}
use Rattle.ring_parties.specs.Acting.{IsReady, IsBooked}
use Rattle.ring_parties.specs.Pairing.{IsAt, ArePaired, OutMeets, InMeets, MayMeetPairs, HaveMetPairs}
use Rattle.ring_parties.specs.Turn.{MayTurn}
use Rattle.ring_parties.proofs.lists.Truth.{some_is, made_some, from_map, from_none}
use Rattle.ring_parties.proofs.standing.Placing.{GoBetween, current_has, name_is_unique, name_stands, stands_named}
use Rattle.ring_rules.proofs.walks.OpenWalk.{place_is}
use Rattle.activity.specs.declared.packet.Load.{Load}
use Rattle.gm_member.specs.View.{ring_link}
use Rattle.ring_parties.proofs.standing.Rings.{none_waiting}
use Rattle.ring_parties.proofs.standing.Shown.{ends_same, shown_same}
use Rattle.ring_parties.proofs.events.OneEvent.{met_both}
use Rattle.ring_parties.proofs.work.Lawful.{IsLawfulAt}
use Rattle.ring_parties.proofs.turns.Balance.{out_kept, in_kept, met_again}
use Rattle.ring_parties.proofs.turns.Places.{party_at}

-- ---- who may take turns

-- what holds of an end that is ready
out_open : (a : Option Outgoing) (b : Option OutSeen) → MatchOption a ⊤ (λ h. MatchOption b ⊥ (λ o. (o.ended ≡ false) × (0 < h.credit.credit → 1 < o.free))) → MatchOption a ⊤ (λ _. MatchOption b ⊥ (λ o. o.ended ≡ false))
out_open None b h = tt
out_open (Some a) None h = h
out_open (Some a) (Some o) h = h.0

in_free : (P : InSeen → Type 0) (a : Option Incoming) (b : Option InSeen) → MatchOption a ⊤ (λ _. MatchOption b ⊥ (λ n. (n.late ≡ None) × P n)) → MatchOption a ⊤ (λ _. MatchOption b ⊥ (λ n. n.late ≡ None))
in_free P None b h = tt
in_free P (Some a) None h = h
in_free P (Some a) (Some n) h = h.0

-- a member that is up and ready for its calls, in a round that it shares
pub may_turn : (r : Party) → IsReady (shown_of r.node) → IsBooked (shown_of r.node) (keeps_in r) → (held_of r.node).asks ≡ false → (held_of r.node).phase ≡ Up → (recorded_of r.node).is_alone ≡ false → MayTurn r
may_turn r ready booked free up beside = record {
  beside = beside;
  up = up;
  free = free;
  out = out_open (held_of r.node).out (shown_of r.node).ends.out (ready.out (ap runs_phase up));
  link = in_free _ (held_of r.node).current (shown_of r.node).ends.link ready.link;
  returned = ready.returned;
  booked = booked.last;
}

-- ---- parties that stand

module _ (credit : CreditSpec) (w : World) (q : Parties) (st : Stand credit.initial w q) (lawful : IsLawfulAt credit w) (go : GoBetween w)
    (ps : List Party) (count : length ps ≡ length q.nodes) (shown : (i : ℕ) (r : Party) → IsAt ps i r → shown_of r.node ≡ node_at q i) where
  abbrev p : Places
  p = st.places

  -- the id of the member at a place
  within : (i : ℕ) (r : Party) → IsAt ps i r → (1 ≤ i + 1) × (i + 1 < size w)
  within i r at = let l : i < length ps = slice_get_within ps i r at in (omega arith, omega (arith, l, count, st.stand.count))

  stands : (i : ℕ) (r : Party) → IsAt ps i r → MemberStands w p (i + 1) (shown_of r.node)
  stands i r at =
      let k = within i r at in
      let back : i + 1 - 1 ≡ i = omega arith in
      subst (MemberStands w p (i + 1)) (ap (node_at q) back ∙ sym (shown i r at)) (st.stand.each (i + 1) k.0 k.1)

  -- the name of the link on which it sends
  out_named : (i : ℕ) (a : Party) (s : ℕ) → IsAt ps i a → (member_at w (i + 1)).out ≡ Some s → out_name_of (held_of a.node) ≡ Some (name_of w s)
  out_named i a s at c =
      ap out_name_of (stands i a at).held ∙ ap (λ d. option_map (λ (f : Outgoing). ring_link (i + 1) f.to f.opened) (option_map (outgoing_in w) d)) c
      ∙ ap (λ y. Some (ring_link y (link_at w s).receiver (link_at w s).opened)) (sym (lawful.fit.own_ends.out (i + 1) s c).1)

  -- the link of its out end
  out_link : (i : ℕ) (r : Party) (name : LinkName) → IsAt ps i r → out_name_of (held_of r.node) ≡ Some name → (s : ℕ) × ((member_at w (i + 1)).out ≡ Some s) × (s < length w.links) × ((link_at w s).sender ≡ i + 1) × (name ≡ name_of w s)
  out_link i r name at e = by_out (member_at w (i + 1)).out refl
    where
      h : MemberStands w p (i + 1) (shown_of r.node)
      h = stands i r at

      by_out : (c : Option ℕ) → (member_at w (i + 1)).out ≡ c → (s : ℕ) × ((member_at w (i + 1)).out ≡ Some s) × (s < length w.links) × ((link_at w s).sender ≡ i + 1) × (name ≡ name_of w s)
      by_out None c = absurd (none_name (ap out_name_of h.held ∙ ap (λ d. option_map (λ (f : Outgoing). ring_link (i + 1) f.to f.opened) (option_map (outgoing_in w) d)) c))
        where
          none_name : out_name_of (held_of r.node) ≡ None → ⊥
          none_name n = cc
      by_out (Some s) c =
          let of = lawful.fit.own_ends.out (i + 1) s c in
          (s, c, of.0, of.1, some_is (sym e ∙ out_named i r s at c))

  -- and of its in end
  in_link : (j : ℕ) (r : Party) (s : ℕ) → IsAt ps j r → s < length w.links → in_name_of (held_of r.node) 0 ≡ Some (name_of w s) → (member_at w (j + 1)).current ≡ Some s
  in_link j r s at l e = ⊎_elim
      (λ (c : (nat_eq 0 0 ≡ true) × ((member_at w (j + 1)).current ≡ Some s)). c.1)
      (λ (d : (nat_eq 0 0 ≡ false) × (0 - 1 < length (stands j r at).door) × (get_or (stands j r at).door (0 - 1) 0 ≡ s)). absurd (false≢true (sym d.0)))
      (name_stands w p (j + 1) 0 s (shown_of r.node) (stands j r at) lawful.fit.good lawful.fit.own_ends l e)

  -- what their ends show
  out_at : (i : ℕ) (r : Party) (s : ℕ) → IsAt ps i r → (member_at w (i + 1)).out ≡ Some s → option_map out_seen (ends_of r.node).out ≡ Some (p.outs s)
  out_at i r s at c = (stands i r at).out ∙ ap (option_map p.outs) c

  in_at : (j : ℕ) (r : Party) (s : ℕ) → IsAt ps j r → (member_at w (j + 1)).current ≡ Some s → option_map in_seen (ends_of r.node).link ≡ Some (p.ins s)
  in_at j r s at c = (stands j r at).link ∙ ap (option_map p.ins) c

  pub may_meet_pairs : MayMeetPairs ps
  may_meet_pairs = record {
    ids = λ i r at. ap (λ (g : Held). g.id) (stands i r at).held;
    to = λ i r name at e. let f = out_link i r name at e in subst (λ (n : LinkName). 1 ≤ n.to.0) (sym f.4) (go.receiver f.0 f.2).0;
    outs = λ i r at.
        let h = stands i r at in
        ap (λ (g : Held). is_some g.out) h.held ∙ made_some (outgoing_in w) (member_at w (i + 1)).out ∙ sym (made_some p.outs (member_at w (i + 1)).out) ∙ ap is_some (sym h.out) ∙ made_some out_seen (ends_of r.node).out;
    links = λ i r at.
        let h = stands i r at in
        ap (λ (g : Held). is_some g.current) h.held ∙ made_some (incoming_in w) (member_at w (i + 1)).current ∙ sym (made_some p.ins (member_at w (i + 1)).current) ∙ ap is_some (sym h.link) ∙ made_some in_seen (ends_of r.node).link;
    fits = λ i j a b o n ia jb pair eo en.
        let f = out_link i a pair.0 ia pair.1 in
        let s : ℕ = f.0 in
        let c : (member_at w (j + 1)).current ≡ Some s = in_link j b s jb f.2 (pair.2 ∙ ap Some f.4) in
        let has : has_in w s ≡ true = current_has w (j + 1) s lawful.fit.own_ends c in
        let oe : out_seen o ≡ p.outs s = some_is (sym (ap (option_map out_seen) eo) ∙ out_at i a s ia f.1) in
        let ne : in_seen n ≡ p.ins s = some_is (sym (ap (option_map in_seen) en) ∙ in_at j b s jb c) in
        subst (λ x. Fits x (in_seen n)) (sym oe) (subst (Fits (p.outs s)) (sym ne) (st.stand.carry s f.2 has).fits);
  }

  -- ---- once the ends have met

  module _ (qs : List Party) (met : HaveMetPairs ps qs) where
    -- the party before at the place of one
    was : (i : ℕ) (r : Party) → IsAt qs i r → (b : Party) × IsAt ps i b
    was i r at = party_at ps i (let l : i < length qs = slice_get_within qs i r at in omega (arith, l, met.stay.count))

    -- the two ends of a link had met, and have met: both show what they showed
    both_still : (i j : ℕ) (a a' b b' : Party) (s : ℕ) → IsAt ps i a → IsAt qs i a' → IsAt ps j b → IsAt qs j b' → (member_at w (i + 1)).out ≡ Some s → (member_at w (j + 1)).current ≡ Some s → (option_map out_seen (ends_of a'.node).out ≡ option_map out_seen (ends_of a.node).out) × (option_map in_seen (ends_of b'.node).link ≡ option_map in_seen (ends_of b.node).link)
    both_still i j a a' b b' s ia ia' jb jb' out c =
        let l : s < length w.links = (lawful.fit.own_ends.out (i + 1) s out).0 in
        let has : has_in w s ≡ true = current_has w (j + 1) s lawful.fit.own_ends c in
        let has_it : has_out w s ≡ true = ap (λ y. is_place (member_at w y).out s) (lawful.fit.own_ends.out (i + 1) s out).1 ∙ ap (λ o. is_place o s) out ∙ nat_eq-same s in
        let fo = from_map out_seen (ends_of a.node).out (p.outs s) (out_at i a s ia out) in
        let fn = from_map in_seen (ends_of b.node).link (p.ins s) (in_at j b s jb c) in
        let go' = subst (λ x. OutMeets x (ends_of a'.node).out) fo.1 (met.stay.each i a a' ia ia').out in
        let gn' = subst (λ x. InMeets x (ends_of b'.node).link) fn.1 (met.stay.each j b b' jb jb').link in
        let late : fn.0.late ≡ None = none_waiting fn.0.late (ap (λ (z : InSeen). z.late) fn.2 ∙ (st.stand.carry s l has).late) in
        let pair : ArePaired a' b' = (
          name_of w s,
          ap out_name_of (met.stay.each i a a' ia ia').held ∙ out_named i a s ia out,
          ap (λ (g : Held). in_name_of g 0) (met.stay.each j b b' jb jb').held ∙ stands_named w p (j + 1) 0 s (shown_of b.node) (stands j b jb) lawful.fit.own_ends (inl (refl, c)),
        ) in
        let before : HaveMet (out_seen fo.0) (in_seen fn.0) = subst (λ x. HaveMet x (in_seen fn.0)) (sym fo.2) (subst (HaveMet (p.outs s)) (sym fn.2) (met_both (has_out w s) (p.outs s) (p.ins s) has_it (st.met s l has))) in
        let same = met_again fo.0 go'.0 fn.0 gn'.0 before late (met.met i j a' b' go'.0 gn'.0 ia' jb' pair go'.1 gn'.1) (out_kept fo.0 go'.0 go'.2) (in_kept fn.0 gn'.0 late gn'.2) in (
          ap (option_map out_seen) go'.1 ∙ ap Some same.0 ∙ sym (ap (option_map out_seen) fo.1),
          ap (option_map in_seen) gn'.1 ∙ ap Some same.1 ∙ sym (ap (option_map in_seen) fn.1),
        )

    -- where a member has no out end, or nobody takes from its link, its out end is as it was
    out_still : (i : ℕ) (a a' : Party) → IsAt ps i a → IsAt qs i a' → option_map out_seen (ends_of a'.node).out ≡ option_map out_seen (ends_of a.node).out
    out_still i a a' ia ia' = by_out (member_at w (i + 1)).out refl
      where
        by_taken : (s : ℕ) → (member_at w (i + 1)).out ≡ Some s → (t : Bool) → is_place (member_at w (link_at w s).receiver).current s ≡ t → option_map out_seen (ends_of a'.node).out ≡ option_map out_seen (ends_of a.node).out
        by_taken s c true e =
            let l : s < length w.links = (lawful.fit.own_ends.out (i + 1) s c).0 in
            let k = go.receiver s l in
            let j : ℕ = (link_at w s).receiver - 1 in
            let there : j + 1 ≡ (link_at w s).receiver = omega (arith, k.0) in
            let b = party_at ps j (omega (arith, k.0, k.1, count, st.stand.count)) in
            let b' = party_at qs j (omega (arith, k.0, k.1, count, st.stand.count, met.stay.count)) in
            (both_still i j a a' b.0 b'.0 s ia ia' b.1 b'.1 c (ap (λ y. (member_at w y).current) there ∙ place_is (member_at w (link_at w s).receiver).current s e)).0
        by_taken s c false e =
            let l : s < length w.links = (lawful.fit.own_ends.out (i + 1) s c).0 in
            ap (option_map out_seen) (met.apart_out i a a' ia ia' (λ j r at pair.
            let named : in_name_of (held_of r.node) 0 ≡ Some (name_of w s) = pair.2 ∙ sym pair.1 ∙ out_named i a s ia c in
            let d : (member_at w (j + 1)).current ≡ Some s = in_link j r s at l named in
            false≢true (sym e ∙ ap (λ y. is_place (member_at w y).current s) (lawful.fit.own_ends.current (j + 1) s d).1 ∙ ap (λ o. is_place o s) d ∙ nat_eq-same s)))

        by_out : (c : Option ℕ) → (member_at w (i + 1)).out ≡ c → option_map out_seen (ends_of a'.node).out ≡ option_map out_seen (ends_of a.node).out
        by_out None c =
            let none : (ends_of a.node).out ≡ None = from_none out_seen (ends_of a.node).out ((stands i a ia).out ∙ ap (option_map p.outs) c) in
            ap (option_map out_seen) (subst (λ x. OutMeets x (ends_of a'.node).out) none (met.stay.each i a a' ia ia').out ∙ sym none)
        by_out (Some s) c = by_taken s c (is_place (member_at w (link_at w s).receiver).current s) refl

    -- and so of an in end
    link_still : (j : ℕ) (b b' : Party) → IsAt ps j b → IsAt qs j b' → option_map in_seen (ends_of b'.node).link ≡ option_map in_seen (ends_of b.node).link
    link_still j b b' jb jb' = by_current (member_at w (j + 1)).current refl
      where
        by_sent : (s : ℕ) → (member_at w (j + 1)).current ≡ Some s → (t : Bool) → has_out w s ≡ t → option_map in_seen (ends_of b'.node).link ≡ option_map in_seen (ends_of b.node).link
        by_sent s c true e =
            let l : s < length w.links = (lawful.fit.own_ends.current (j + 1) s c).0 in
            let k = go.sender s l in
            let i : ℕ = (link_at w s).sender - 1 in
            let there : i + 1 ≡ (link_at w s).sender = omega (arith, k.0) in
            let a = party_at ps i (omega (arith, k.0, k.1, count, st.stand.count)) in
            let a' = party_at qs i (omega (arith, k.0, k.1, count, st.stand.count, met.stay.count)) in
            (both_still i j a.0 a'.0 b b' s a.1 a'.1 jb jb' (ap (λ x. (member_at w x).out) there ∙ place_is (member_at w (link_at w s).sender).out s e) c).1
        by_sent s c false e =
            let l : s < length w.links = (lawful.fit.own_ends.current (j + 1) s c).0 in
            ap (option_map in_seen) (met.apart_in j b b' jb jb' (λ i r at pair.
            let f = out_link i r pair.0 at pair.1 in
            let named : name_of w f.0 ≡ name_of w s = some_is (ap Some (sym f.4) ∙ sym pair.2 ∙ stands_named w p (j + 1) 0 s (shown_of b.node) (stands j b jb) lawful.fit.own_ends (inl (refl, c))) in
            let same : f.0 ≡ s = name_is_unique w f.0 s lawful.fit.good f.2 l named in
            let d : (member_at w (i + 1)).out ≡ Some s = f.1 ∙ ap Some same in
            false≢true (sym e ∙ ap (λ x. is_place (member_at w x).out s) (lawful.fit.own_ends.out (i + 1) s d).1 ∙ ap (λ o. is_place o s) d ∙ nat_eq-same s)))

        by_current : (c : Option ℕ) → (member_at w (j + 1)).current ≡ c → option_map in_seen (ends_of b'.node).link ≡ option_map in_seen (ends_of b.node).link
        by_current None c =
            let none : (ends_of b.node).link ≡ None = from_none in_seen (ends_of b.node).link ((stands j b jb).link ∙ ap (option_map p.ins) c) in
            ap (option_map in_seen) (subst (λ x. InMeets x (ends_of b'.node).link) none (met.stay.each j b b' jb jb').link ∙ sym none)
        by_current (Some s) c = by_sent s c (has_out w s) refl

    -- each shows what it showed
    pub shown_still : (i : ℕ) (a' : Party) → IsAt qs i a' → shown_of a'.node ≡ node_at q i
    shown_still i a' ia' =
        let a = was i a' ia' in
        let k = met.stay.each i a.0 a' a.1 ia' in
        shown_same (shown_of a.0.node) (shown_of a'.node) k.held
        (ends_same (ends_seen (ends_of a.0.node)) (ends_seen (ends_of a'.node)) (out_still i a.0 a' a.1 ia')
        (ap (λ (e : Ends (RingOut Load) (RingIn Load)). e.returned) k.others) (link_still i a.0 a' a.1 ia')
        (ap (λ (e : Ends (RingOut Load) (RingIn Load)). (ends_seen e).door) k.others) (ap (λ (e : Ends (RingOut Load) (RingIn Load)). (ends_seen e).old_outs) k.others) (ap (λ (e : Ends (RingOut Load) (RingIn Load)). (ends_seen e).old_ins) k.others))
        ∙ shown i a.0 a.1
