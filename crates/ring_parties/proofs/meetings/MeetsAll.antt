-- Where the parties stand, one out end after another meets its in end, and then all have.
use Rattle.std.proofs.Common.{◌≡◌, ℕ, ◌+◌, ◌-◌, ◌<◌, ◌≤◌, true, List, [], ◌∷◌, length, get_or, Option, Some, None, refl, sym, ap, subst, ◌∙◌, ⊎_elim, arith}
use Rattle.std.specs.Prelude.{◌⊎◌, option_map, IfSome}
use Rattle.std.proofs.lemmas.List.{set-get_or}
use Rattle.ring_names.specs.declared.numbers.CreditSpec.{CreditSpec}
use Rattle.group_view.specs.declared.link.LinkName.{LinkName}
use Rattle.ring_rules.specs.declared.event.Event.{Event}
use Rattle.ring_rules.specs.Machine.{World, member_at, link_at}
use Rattle.ring_rules.specs.Step.{size}
use Rattle.gm_member.specs.Held.{Incoming, at_some}
use Rattle.gm_member.specs.Shown.{in_name_of, out_name_of, in_end}
use Rattle.gm_member.specs.Stands.{incoming_in}
use Rattle.gm_member.specs.View.{ring_link}
use Rattle.ring_parties.specs.Ends.{OutSeen, InSeen, Fits, Carries}
use Rattle.ring_parties.specs.Parties.{Parties, no_shown, no_deposit, node_at, with_node, with_out}
use Rattle.ring_parties.specs.States.{state}
use Rattle.ring_parties.specs.Standing.{StandAfter, name_of, has_out}
use Rattle.ring_parties.specs.Replaced.{StandBetween, BetweenAfter, sender_to, moved_by, IsMember, sender_in, MovedAfter}
use Rattle.ring_parties.specs.Meeting.{IsToMeet, MayMeetOut, MeetsOut, MeetsAt, MeetsDeposit, MeetsNone, MeetsIn, receiver_of}
use Rattle.ring_parties.proofs.work.Lawful.{IsLawfulAt}
use Rattle.ring_parties.proofs.standing.Placing.{GoBetween}
use Rattle.ring_parties.proofs.events.OneEvent.{stands_at}
use Rattle.ring_parties.proofs.events.After.{lawful_after, go_after}
use Rattle.ring_parties.proofs.meetings.Meetings.{found_at, found_deposit}
use Rattle.ring_parties.proofs.meetings.Joining.{out_placed, met_all, met_none, met_gone, met_at, met_deposit}
use Rattle.ring_parties.proofs.meetings.Receivers.{GoesIn, out_goes_in}

-- an end that carries a link with an out end may meet it
carried : (w : World) (initial s : ℕ) (o o' : OutSeen) (n : InSeen) (end : Option InSeen) → o' ≡ o → end ≡ Some n → Carries w initial (link_at w s) o' n → IsToMeet o end
carried w initial s o o' n end same is c = (n, is, subst (λ x. Fits x n) same c.fits)

-- wherever the other end of a member's out end stands, the two may meet
pub may_meet : (credit : CreditSpec) (w : World) (ids : List ℕ) (q : Parties) (x : ℕ) → IsLawfulAt credit w → GoBetween w → 1 ≤ x → x < size w → StandBetween credit.initial w ids q None → MayMeetOut q (x - 1)
may_meet credit w ids q x g go from l met name o named out = record {
  from_one = goes.0;
  member = λ place e.
      let at = found_at credit w q met.places name.to.0 place found.0 g met.stand goes.0 goes.1 found.2 (e ∙ ap Some is) in
      carried w credit.initial found.0 o (met.places.outs found.0) (met.places.ins found.0) (in_end (receiver_of q name).ends place) found.4 at.2 (met.stand.carry found.0 found.2 at.1);
  deposits = λ place within e.
      let at = found_deposit credit w q met.places place found.0 (no_deposit name) g go met.stand within found.2 (e ∙ is) in
      carried w credit.initial found.0 o (met.places.outs found.0) (met.places.ins found.0) (get_or q.deposits place (no_deposit name)).end found.4 at.1 (met.stand.carry found.0 found.2 at.0);
}
  where
    found : (s : ℕ) × ((member_at w x).out ≡ Some s) × (s < length w.links) × ((link_at w s).sender ≡ x) × (met.places.outs s ≡ o) × (out_name_of (node_at q (x - 1)).held ≡ Some (name_of w s)) × (has_out w s ≡ true)
    found = out_placed w credit.initial q met.places x o g.fit.own_ends met.stand from l out

    both : Some name ≡ Some (name_of w found.0)
    both = sym named ∙ found.5

    is : name ≡ name_of w found.0
    is = cc (both)

    goes : GoesIn w name
    goes = out_goes_in credit w ids q x o name g go from l met out named

-- a member with the out end that it has
same_out : (q : Parties) (i : ℕ) (o : OutSeen) → (node_at q i).ends.out ≡ Some o → with_node q i (with_out (node_at q i) o) ≡ q
same_out q i o out =
    ap (λ e. with_node q i (record (node_at q i) { ends = record (node_at q i).ends { out = e } })) (sym out)
    ∙ ap (λ ms. record q { nodes = ms }) (set-get_or q.nodes i no_shown)

-- one more has met
pub meets_more : (credit : CreditSpec) (w : World) (ids : List ℕ) (q q' : Parties) (x : ℕ) → IsLawfulAt credit w → GoBetween w → 1 ≤ x → x < size w → MeetsOut (x - 1) q q' → StandBetween credit.initial w (x ∷ ids) q None → StandBetween credit.initial w ids q' None
meets_more credit w ids q q' x g go some l how met = ⊎_elim
    (λ (a : ((node_at q (x - 1)).ends.out ≡ None) × (q' ≡ q)). subst (λ r. StandBetween credit.initial w ids r None) (sym a.1) (met_none credit w ids q x some l a.0 met))
    (λ (b : (name : LinkName) × (o : OutSeen) × (o' : OutSeen) × (out_name_of (node_at q (x - 1)).held ≡ Some name) × ((node_at q (x - 1)).ends.out ≡ Some o) × MeetsIn q name o (with_node q (x - 1) (with_out (node_at q (x - 1)) o')) q' o').
    by_place b.0 b.1 b.2 b.3 b.4 b.5)
    how
  where
    by_place : (name : LinkName) (o o' : OutSeen) → out_name_of (node_at q (x - 1)).held ≡ Some name → (node_at q (x - 1)).ends.out ≡ Some o → MeetsIn q name o (with_node q (x - 1) (with_out (node_at q (x - 1)) o')) q' o' → StandBetween credit.initial w ids q' None
    by_place name o o' named out m = ⊎_elim
        (λ (a : MeetsAt q name o (with_node q (x - 1) (with_out (node_at q (x - 1)) o')) q' o').
        let goes : GoesIn w name = out_goes_in credit w (x ∷ ids) q x o name g go some l met out named in
        subst (λ r. StandBetween credit.initial w ids r None) (sym (a.parties ∙ ap (with_node (with_node q (x - 1) (with_out (node_at q (x - 1)) o')) (name.to.0 - 1)) a.meets.shows))
        (met_at credit w ids q x name.to.0 a.meets.place name o a.meets.meets.0 o' a.meets.met g some l out named goes.0 goes.1 a.meets.named a.meets.meets.1 a.meets.meets.2 met))
        (λ (b : MeetsDeposit q name o (with_node q (x - 1) (with_out (node_at q (x - 1)) o')) q' o' ⊎ MeetsNone q name o (with_node q (x - 1) (with_out (node_at q (x - 1)) o')) q' o'). ⊎_elim
        (λ (p : MeetsDeposit q name o (with_node q (x - 1) (with_out (node_at q (x - 1)) o')) q' o').
        subst (λ r. StandBetween credit.initial w ids r None) (sym (p.parties ∙ ap (λ ps. record (with_node q (x - 1) (with_out (node_at q (x - 1)) o')) { deposits = ps }) p.meets.shows))
        (met_deposit credit w ids q x p.meets.place (no_deposit name) name o p.meets.meets.0 o' p.meets.met g go some l out named p.meets.within p.meets.named p.meets.meets.1 p.meets.meets.2 met))
        (λ (n : MeetsNone q name o (with_node q (x - 1) (with_out (node_at q (x - 1)) o')) q' o').
        subst (λ r. StandBetween credit.initial w ids r None) (sym (n.parties ∙ ap (λ z. with_node q (x - 1) (with_out (node_at q (x - 1)) z)) n.out ∙ same_out q (x - 1) o out))
        (met_gone credit w ids q x o name g go some l out named (record { member = λ place _ h. n.member place h; deposits = n.deposits }) met))
        b)
        m

-- ---- the meetings after an event

-- a name that is there has what each that is there has
pub of_name : (P : LinkName → Type 0) (name : Option LinkName) (n : LinkName) → name ≡ Some n → IfSome name P → P n
of_name P None n e h = cc
of_name P (Some m) n e h = (let same : m ≡ n = cc in subst P same h)

-- who sends on the link from which a member takes is the ring's
sender_is : (initial : ℕ) (w : World) (ids : List ℕ) (q : Parties) (i : ℕ) → i + 1 < size w → StandBetween initial w ids q None → sender_to (i + 1) w ≡ sender_in (in_name_of (node_at q i).held 0)
sender_is initial w ids q i l st = by_current (member_at w (i + 1)).current ∙ sym (ap (λ h. sender_in (in_name_of h 0)) (stands_at initial w q st.places i st.stand l).held)
  where
    by_current : (c : Option ℕ) → at_some c [] (λ s. (link_at w s).sender ∷ []) ≡ sender_in (option_map (λ (l : Incoming). ring_link l.from (i + 1) l.opened) (option_map (incoming_in w) c))
    by_current None = refl
    by_current (Some s) = refl

module _ (credit : CreditSpec) (names : List (List ℕ)) (events : List Event) where
  abbrev w : World
  w = state credit names events

  pub next_may : (i : ℕ) (ids : List ℕ) (q : Parties) → i < length q.nodes → BetweenAfter credit names events ids q None → MayMeetOut q i
  next_may i ids q l b =
      let is : i + 1 - 1 ≡ i = omega arith in
      subst (MayMeetOut q) is (may_meet credit w ids q (i + 1) (lawful_after credit names events b.journal) (go_after credit names events b.journal) (omega arith) (omega (arith, l, b.stand.stand.count)) b.stand)

  next_met : (i : ℕ) (ids : List ℕ) (q q' : Parties) → i < length q.nodes → MeetsOut i q q' → BetweenAfter credit names events ((i + 1) ∷ ids) q None → BetweenAfter credit names events ids q' None
  next_met i ids q q' l how b =
      let is : i ≡ i + 1 - 1 = omega arith in
      record {
        journal = b.journal;
        stand = meets_more credit w ids q q' (i + 1) (lawful_after credit names events b.journal) (go_after credit names events b.journal) (omega arith) (omega (arith, l, b.stand.stand.count)) (subst (λ k. MeetsOut k q q') is how) b.stand;
        goes = λ name o e. cc;
      }

  all_met : (q : Parties) → BetweenAfter credit names events [] q None → StandAfter credit names events q
  all_met q b = record { journal = b.journal; stand = met_all credit.initial w q b.stand }

  -- the member that acted has met: then only who sends to it has still to meet
  pub first_met : (i : ℕ) (q q' : Parties) (name : Option LinkName) → i < length q.nodes → in_name_of (node_at q i).held 0 ≡ name → MeetsOut i q q' → MovedAfter credit names events i q → BetweenAfter credit names events (sender_in name) q' None
  first_met i q q' name l e how b =
      let is : sender_to (i + 1) w ≡ sender_in name = sender_is credit.initial w (moved_by (i + 1) w) q i (omega (arith, l, b.stand.stand.count)) b.stand ∙ ap sender_in e in
      subst (λ ids. BetweenAfter credit names events ids q' None) is (next_met i (sender_to (i + 1) w) q q' l how b)

  -- and that is a member
  pub comes_from : (i : ℕ) (q q' : Parties) (name : Option LinkName) → i < length q.nodes → in_name_of (node_at q i).held 0 ≡ name → MeetsOut i q q' → MovedAfter credit names events i q → IfSome name (λ n. IsMember n.from.0 q')
  comes_from i q q' None l e how b = tt
  comes_from i q q' (Some n) l e how b = by_current (member_at w (i + 1)).current refl
    where
      later : BetweenAfter credit names events (n.from.0 ∷ []) q' None
      later = first_met i q q' (Some n) l e how b

      is : sender_to (i + 1) w ≡ n.from.0 ∷ []
      is = sender_is credit.initial w (moved_by (i + 1) w) q i (omega (arith, l, b.stand.stand.count)) b.stand ∙ ap sender_in e

      by_current : (c : Option ℕ) → (member_at w (i + 1)).current ≡ c → IsMember n.from.0 q'
      by_current None k = (let both : [] ≡ n.from.0 ∷ [] = sym (ap (λ o. at_some o [] (λ s. (link_at w s).sender ∷ [])) k) ∙ is in cc)
      by_current (Some s) k =
          let both : (link_at w s).sender ∷ [] ≡ n.from.0 ∷ [] = sym (ap (λ o. at_some o [] (λ s. (link_at w s).sender ∷ [])) k) ∙ is in
          let same : (link_at w s).sender ≡ n.from.0 = cc in
          let goes = (go_after credit names events b.journal).sender s ((lawful_after credit names events b.journal).fit.own_ends.current (i + 1) s k).0 in
          (omega (arith, same, goes.0), omega (arith, same, goes.0, goes.1, later.stand.stand.count))

  -- where nobody sends to it, all have met
  pub nobody_left : (q : Parties) (name : Option LinkName) → name ≡ None → BetweenAfter credit names events (sender_in name) q None → StandAfter credit names events q
  nobody_left q name e b = all_met q (subst (λ o. BetweenAfter credit names events (sender_in o) q None) e b)

  -- and else who does may meet
  pub sender_may : (q : Parties) (name : Option LinkName) (n : LinkName) → name ≡ Some n → IfSome name (λ m. IsMember m.from.0 q) → BetweenAfter credit names events (sender_in name) q None → MayMeetOut q (n.from.0 - 1)
  sender_may q name n e from b = next_may (n.from.0 - 1) (sender_in name) q (of_name (λ m. IsMember m.from.0 q) name n e from).1 b

  -- and where it has, all have
  pub second_met : (q q' : Parties) (name : Option LinkName) (n : LinkName) → name ≡ Some n → IfSome name (λ m. IsMember m.from.0 q) → MeetsOut (n.from.0 - 1) q q' → BetweenAfter credit names events (sender_in name) q None → StandAfter credit names events q'
  second_met q q' name n e from how b =
      let there : IsMember n.from.0 q = of_name (λ m. IsMember m.from.0 q) name n e from in
      let is : n.from.0 ≡ n.from.0 - 1 + 1 = omega (arith, there.0) in
      let only : BetweenAfter credit names events (n.from.0 ∷ []) q None = subst (λ o. BetweenAfter credit names events (sender_in o) q None) e b in
      all_met q' (next_met (n.from.0 - 1) [] q q' there.1 how (subst (λ k. BetweenAfter credit names events (k ∷ []) q None) is only))
