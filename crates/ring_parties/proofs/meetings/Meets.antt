-- What the meeting of an out end with the in end of its link shows.
use Rattle.std.proofs.Common.{◌≡◌, ℕ, zero, suc, ◌+◌, ◌-◌, ◌<◌, ◌≤◌, Bool, true, false, nat_eq, List, [], ◌∷◌, ◌++◌, map, length, get_or, set, Option, Some, None, refl, sym, ap, subst, ◌∙◌, ⊎_elim, inl, inr, arith}
use Rattle.std.specs.Prelude.{◌⊎◌, option_map, if◌then◌else◌}
use Rattle.std.specs.List.{slice_get}
use Rattle.std.proofs.Math.ListN.{get_or-map as get_or_map-same}
use Rattle.std.proofs.lemmas.Bool.{cases_lt}
use Rattle.std.proofs.lemmas.List.{map-set, set-set, length-map, length-append, get_or-map, get_or-append-add, get_or_append_left, set-append_left, set-append_right}
use Rattle.std.proofs.lemmas.Option.{slice_get-get_or, slice_get-map, get_or_from_slice_get, slice_get_within, none-some, same_Some}
use Rattle.group_view.specs.declared.link.LinkName.{LinkName}
use Rattle.group_view.specs.View.{Group}
use Rattle.ordered_link.specs.declared.ring.RingOut.{RingOut}
use Rattle.ordered_link.specs.declared.ring.RingIn.{RingIn}
use Rattle.ring_rules.proofs.rings.Maps.{mapped_rewrite}
use Rattle.registrar.specs.declared.waiting_link.WaitingLink.{WaitingLink}
use Rattle.registrar.specs.Registry.{Registry}
use Rattle.registrar.specs.Named.{with_end_at, HasNone as NoneWaits, IsFirst as IsFirstDeposit, LendsNamed as LendsDeposit, GivesNamed as GivesDeposit}
use Rattle.activity.specs.declared.packet.Load.{Load}
use Rattle.gm_member.specs.Shown.{Ends, held_of, ends_of, in_end, with_in as with_end_in}
use Rattle.gm_member.specs.Calls.{LendsIn}
use Rattle.gm_member.specs.Named.{IsFirst, IsLentNamed, GivesNamed}
use Rattle.ring_parties.specs.Ends.{OutSeen, Fits, Meets}
use Rattle.ring_parties.specs.declared.party.Party.{Party}
use Rattle.ring_parties.specs.Parties.{in_seen, ends_seen, with_in, Shown, no_shown, Deposit, deposit_shown, no_deposit, Parties, parties, shown_in, ANode, shown_of}
use Rattle.ring_parties.specs.Meeting.{IsToMeet, HasNone, NodeMeets, DepositsMayMeet, DepositMeets, NoneIsDeposited, MayMeet, MeetsIn}
use Rattle.ring_parties.proofs.lists.Lists.{mapped_new}
use Rattle.ring_parties.proofs.standing.Shown.{shown_same}

-- an end that is lent by its name is that of a link which has it
pub lent_some : {A B C I : Type 0} (i : I) → (A × (Some i ≡ None) × B) ⊎ C → C
lent_some i (inl a) = absurd (none-some i (sym a.1))
lent_some i (inr c) = c

-- ---- the end of a link to a member

-- the ends with another one, of a link at the door or of the one from which the member takes
abbrev with_by : {O I : Type 0} → Bool → Ends O I → ℕ → Option I → Ends O I
with_by b e i x = if b then record e { link = x } else record e { door = set e.door i x }

seen_by : (b : Bool) (e : Ends (RingOut Load) (RingIn Load)) (i : ℕ) → (if b then (ends_seen e).link else get_or (ends_seen e).door i None) ≡ option_map in_seen (if b then e.link else get_or e.door i None)
seen_by true e i = refl
seen_by false e i = get_or_map-same (option_map in_seen) e.door i None

given_by : (b : Bool) (e : Ends (RingOut Load) (RingIn Load)) (i : ℕ) (x : RingIn Load) → ends_seen (with_by b (with_by b e i None) i (Some x)) ≡ with_by b (ends_seen e) i (Some (in_seen x))
given_by true e i x = refl
given_by false e i x = ap (λ d. record (ends_seen e) { door = d }) (ap (map (option_map in_seen)) (set-set e.door i None (Some x)) ∙ map-set (option_map in_seen) e.door i (Some x))

set_none : {X : Type 0} (xs : List (Option X)) (i : ℕ) → get_or (set xs i None) i None ≡ None
set_none [] zero = refl
set_none [] (suc i) = refl
set_none (x ∷ xs) zero = refl
set_none (x ∷ xs) (suc i) = set_none xs i

lent_by : {O I : Type 0} (b : Bool) (e : Ends O I) (i : ℕ) → (if b then (with_by b e i None).link else get_or (with_by b e i None).door i None) ≡ None
lent_by true e i = refl
lent_by false e i = set_none e.door i

-- one that was lent by its name can be given back
pub node_lent : (m a : ANode) (name : LinkName) (i : RingIn Load) → (place : ℕ) × IsFirst (held_of m) name place × LendsIn place m a (Some i) → IsLentNamed name a
node_lent m a name i (place, first, lent) =
    (place, subst (λ h. IsFirst h name place) (sym lent.held) first, ap (λ e. in_end e place) lent.ends ∙ lent_by (nat_eq place 0) (ends_of m) (place - 1))

-- one that was lent by its name has met the out end, and was given back
pub node_met : (m a n : ANode) (name : LinkName) (o o' : OutSeen) (i j : RingIn Load) → (place : ℕ) × IsFirst (held_of m) name place × LendsIn place m a (Some i) → GivesNamed name j a n → Meets o (in_seen i) o' (in_seen j) → NodeMeets (shown_of m) name o (shown_of m) (shown_of n) o'
node_met m a n name o o' i j (place, first, lent) given meets =
    let back = given place (subst (λ h. IsFirst h name place) (sym lent.held) first) in
    record {
      place = place;
      named = first.named;
      met = in_seen j;
      meets = (in_seen i, seen_by (nat_eq place 0) (ends_of m) (place - 1) ∙ ap (option_map in_seen) (sym lent.lent), meets);
      shows = shown_same (with_in (shown_of m) place (in_seen j)) (shown_of n) (back.held ∙ lent.held)
          (ap ends_seen (back.ends ∙ ap (λ e. with_end_in e place (Some j)) lent.ends) ∙ given_by (nat_eq place 0) (ends_of m) (place - 1) j);
    }

-- ---- links that wait at the registrar

-- one as it is shown
shown_deposits : (links : List (WaitingLink (RingIn Load))) (place : ℕ) (s : WaitingLink (RingIn Load)) (d : Deposit) → slice_get links place ≡ Some s → get_or (map deposit_shown links) place d ≡ deposit_shown s
shown_deposits links place s d is = get_or_from_slice_get (map deposit_shown links) place (deposit_shown s) d (slice_get-map deposit_shown links place ∙ ap (option_map deposit_shown) is)

-- none of those that wait has the name
none_waits : (r : Registry (RingIn Load)) (name : LinkName) → NoneWaits r name → NoneIsDeposited (map deposit_shown r.links) name
none_waits r name none = λ place d within e.
    let s : WaitingLink (RingIn Load) = get_or r.links place (record { name = name; link = None }) in
    let is : slice_get r.links place ≡ Some s = slice_get-get_or r.links place (record { name = name; link = None }) (omega (arith, length-map r.links deposit_shown)) in
    none place (ap (option_map (λ (x : WaitingLink (RingIn Load)). x.name)) is ∙ ap Some (sym (ap (λ (x : Deposit). x.name) (shown_deposits r.links place s d is)) ∙ e))

-- the end of one that may meet an out end may meet it
may_meet_waiting : (links : List (WaitingLink (RingIn Load))) (name : LinkName) (o : OutSeen) (place : ℕ) (s : WaitingLink (RingIn Load)) → DepositsMayMeet (map deposit_shown links) name o → slice_get links place ≡ Some s → s.name ≡ name → IsToMeet o (option_map in_seen s.link)
may_meet_waiting links name o place s may is named =
    let at : get_or (map deposit_shown links) place (no_deposit name) ≡ deposit_shown s = shown_deposits links place s (no_deposit name) is in
    subst (λ (d : Deposit). IsToMeet o d.end) at (may place (omega (arith, length-map links deposit_shown, slice_get_within links place s is)) (ap (λ (x : Deposit). x.name) at ∙ named))

-- where nothing is lent no link has the name
pub deposit_none : (r a : Registry (RingIn Load)) (name : LinkName) (o : OutSeen) → DepositsMayMeet (map deposit_shown r.links) name o → LendsDeposit name r None a → NoneIsDeposited (map deposit_shown r.links) name × (a ≡ r)
deposit_none r a name o may (inl none) = (none_waits r name none.0, none.2)
deposit_none r a name o may (inr (place, s, first, lent, is, again)) =
    let k : IsToMeet o (option_map in_seen s.link) = may_meet_waiting r.links name o place s may first.there first.named in
    absurd (none-some k.0 (ap (option_map in_seen) lent ∙ k.1))

module _ (r a : Registry (RingIn Load)) (name : LinkName) (i : RingIn Load) where
  abbrev IsLentDeposit : Type 0
  IsLentDeposit = (place : ℕ) × (s : WaitingLink (RingIn Load)) × IsFirstDeposit r name place s × (Some i ≡ s.link) × (a ≡ with_end_at r place s None) × IsFirstDeposit a name place (record s { link = None })

  -- an end that was lent by its name may meet the out end
  pub deposit_may : (o : OutSeen) → DepositsMayMeet (map deposit_shown r.links) name o → IsLentDeposit → Fits o (in_seen i)
  deposit_may o may (place, s, first, lent, is, again) =
      let k : IsToMeet o (option_map in_seen s.link) = may_meet_waiting r.links name o place s may first.there first.named in
      subst (Fits o) (same_Some k.0 (in_seen i) (sym k.1 ∙ ap (option_map in_seen) (sym lent))) k.2

  -- it was given back, and nothing else changed
  given_back : (n : Registry (RingIn Load)) (j : RingIn Load) (place : ℕ) (s : WaitingLink (RingIn Load)) → a ≡ with_end_at r place s None → IsFirstDeposit a name place (record s { link = None }) → GivesDeposit name a j n → n ≡ with_end_at r place s (Some j)
  given_back n j place s is again given =
      given place (record s { link = None }) again ∙ ap (λ x. with_end_at x place s (Some j)) is
      ∙ ap (λ ls. record r { links = ls }) (set-set r.links place (record s { link = None }) (record s { link = Some j }))

  pub deposit_rest : (n : Registry (RingIn Load)) (j : RingIn Load) → IsLentDeposit → GivesDeposit name a j n → (n.views ≡ r.views) × (n.stopped ≡ r.stopped)
  deposit_rest n j (place, s, first, lent, is, again) given =
      let back : n ≡ with_end_at r place s (Some j) = given_back n j place s is again given in
      (ap (λ (x : Registry (RingIn Load)). x.views) back, ap (λ (x : Registry (RingIn Load)). x.stopped) back)

  -- and had met the out end
  pub deposit_met : (n : Registry (RingIn Load)) (o o' : OutSeen) (j : RingIn Load) → IsLentDeposit → GivesDeposit name a j n → Meets o (in_seen i) o' (in_seen j) → DepositMeets (map deposit_shown r.links) name o (map deposit_shown n.links) o'
  deposit_met n o o' j (place, s, first, lent, is, again) given meets =
      let at : get_or (map deposit_shown r.links) place (no_deposit name) ≡ deposit_shown s = shown_deposits r.links place s (no_deposit name) first.there in
      record {
        place = place;
        within = omega (arith, length-map r.links deposit_shown, slice_get_within r.links place s first.there);
        named = ap (λ (x : Deposit). x.name) at ∙ first.named;
        met = in_seen j;
        meets = (in_seen i, ap (λ (x : Deposit). x.end) at ∙ ap (option_map in_seen) (sym lent), meets);
        shows = ap (λ (x : Registry (RingIn Load)). map deposit_shown x.links) (given_back n j place s is again given)
            ∙ map-set deposit_shown r.links place (record s { link = Some j })
            ∙ ap (λ x. set (map deposit_shown r.links) place (record { name = x; end = Some (in_seen j) })) first.named;
      }

-- ---- one list of links that wait behind another

-- what stands in the second
at_back : (front back : List Deposit) (place : ℕ) (d : Deposit) → length front ≤ place → get_or (front ++ back) place d ≡ get_or back (place - length front) d
at_back front back place d l =
    let more : length front + (place - length front) ≡ place = omega arith in
    ap (λ k. get_or (front ++ back) k d) (sym more) ∙ get_or-append-add front back (place - length front) d

-- none of either
pub none_of_both : (front back : List Deposit) (name : LinkName) → NoneIsDeposited front name → NoneIsDeposited back name → NoneIsDeposited (front ++ back) name
none_of_both front back name f b = λ place d within e. ⊎_elim
    (λ (l : place < length front). f place d l (sym (ap (λ (x : Deposit). x.name) (get_or_append_left front back d place l)) ∙ e))
    (λ (l : length front ≤ place).
    let at : get_or (front ++ back) place d ≡ get_or back (place - length front) d = at_back front back place d l in
    b (place - length front) d (omega (arith, length-append front back)) (sym (ap (λ (x : Deposit). x.name) at) ∙ e))
    (cases_lt place (length front))

pub front_meets : (front back front' : List Deposit) (name : LinkName) (o o' : OutSeen) → DepositMeets front name o front' o' → DepositMeets (front ++ back) name o (front' ++ back) o'
front_meets front back front' name o o' m =
    let at : get_or (front ++ back) m.place (no_deposit name) ≡ get_or front m.place (no_deposit name) = get_or_append_left front back (no_deposit name) m.place m.within in
    record {
      place = m.place;
      within = omega (arith, length-append front back, m.within);
      named = ap (λ (x : Deposit). x.name) at ∙ m.named;
      met = m.met;
      meets = (m.meets.0, ap (λ (x : Deposit). x.end) at ∙ m.meets.1, m.meets.2);
      shows = ap (λ ps. ps ++ back) m.shows ∙ sym (set-append_left front back m.place (record { name = name; end = Some m.met }) m.within);
    }

pub back_meets : (front back back' : List Deposit) (name : LinkName) (o o' : OutSeen) → DepositMeets back name o back' o' → DepositMeets (front ++ back) name o (front ++ back') o'
back_meets front back back' name o o' m =
    let at : get_or (front ++ back) (length front + m.place) (no_deposit name) ≡ get_or back m.place (no_deposit name) = get_or-append-add front back m.place (no_deposit name) in
    let less : length front + m.place - length front ≡ m.place = omega arith in
    record {
      place = length front + m.place;
      within = omega (arith, length-append front back, m.within);
      named = ap (λ (x : Deposit). x.name) at ∙ m.named;
      met = m.met;
      meets = (m.meets.0, ap (λ (x : Deposit). x.end) at ∙ m.meets.1, m.meets.2);
      shows = ap (λ ps. front ++ ps) m.shows
          ∙ ap (λ k. front ++ set back k (record { name = name; end = Some m.met })) (sym less)
          ∙ sym (set-append_right front back (length front) (length front + m.place) (record { name = name; end = Some m.met }) refl (omega arith));
    }

pub back_may : (front back : List Deposit) (name : LinkName) (o : OutSeen) → DepositsMayMeet (front ++ back) name o → DepositsMayMeet back name o
back_may front back name o may = λ place within e.
    let at : get_or (front ++ back) (length front + place) (no_deposit name) ≡ get_or back place (no_deposit name) = get_or-append-add front back place (no_deposit name) in
    subst (IsToMeet o) (ap (λ (x : Deposit). x.end) at) (may (length front + place) (omega (arith, length-append front back, within)) (ap (λ (x : Deposit). x.name) at ∙ e))

-- ---- all parties

-- a link to the member at a place has met the out end
pub member_met : (xs : List Party) (i : ℕ) (x y : Party) (name : LinkName) (o o' : OutSeen) → i < length xs → NodeMeets (shown_in (get_or xs i x)) name o (shown_in (get_or xs i x)) (shown_in y) o' → NodeMeets (get_or (map shown_in xs) i no_shown) name o (get_or (map shown_in xs) i no_shown) (get_or (map shown_in (set xs i y)) i no_shown) o'
member_met xs i x y name o o' l m =
    subst (λ a. NodeMeets a name o a (get_or (map shown_in (set xs i y)) i no_shown) o') (sym (get_or-map shown_in xs i x no_shown l))
    (subst (λ b. NodeMeets (shown_in (get_or xs i x)) name o (shown_in (get_or xs i x)) b o') (sym (mapped_new shown_in xs i y no_shown l)) m)

pub member_stays : (xs : List Party) (i : ℕ) (x y : Party) → i < length xs → x ≡ get_or xs i x → shown_in y ≡ shown_in (get_or xs i x) → map shown_in (set xs i y) ≡ map shown_in xs
member_stays xs i x y l is e = mapped_rewrite shown_in xs i x y l is (e ∙ ap shown_in (sym is))

-- parties by their parts
abbrev of_parts : List Shown → List Group → List ℕ → List Deposit → Parties
of_parts nodes views stopped deposits = record { nodes = nodes; views = views; stopped = stopped; deposits = deposits }

parties_same : (a b : List Shown) (r r' : Registry (RingIn Load)) (deposits post' : List Deposit) → b ≡ a → r'.views ≡ r.views → r'.stopped ≡ r.stopped → post' ≡ deposits → of_parts b r'.views r'.stopped post' ≡ of_parts a r.views r.stopped deposits
parties_same a b r r' deposits post' e1 e2 e3 e4 =
    ap (λ x. of_parts x r'.views r'.stopped post') e1
    ∙ ap (λ x. of_parts a x r'.stopped post') e2
    ∙ ap (λ x. of_parts a r.views x post') e3
    ∙ ap (of_parts a r.views r.stopped) e4

-- the link waited at the registrar
pub registrar_met : (nodes nodes' : List Party) (r r' : Registry (RingIn Load)) (back : List Deposit) (name : LinkName) (o o1 o' : OutSeen) → map shown_in nodes' ≡ map shown_in nodes → o1 ≡ o → (r'.views ≡ r.views) × (r'.stopped ≡ r.stopped) → DepositMeets (map deposit_shown r.links) name o1 (map deposit_shown r'.links) o' → MeetsIn (parties nodes r back) name o (parties nodes r back) (parties nodes' r' back) o'
registrar_met nodes nodes' r r' back name o o1 o' same is others m = inr (inl (record {
  deposits = map deposit_shown r'.links ++ back;
  meets = front_meets (map deposit_shown r.links) back (map deposit_shown r'.links) name o o' (subst (λ x. DepositMeets (map deposit_shown r.links) name x (map deposit_shown r'.links) o') is m);
  parties = parties_same (map shown_in nodes) (map shown_in nodes') r r' (map deposit_shown r'.links ++ back) (map deposit_shown r'.links ++ back) same others.0 others.1 refl;
}))

pub pending_may : (nodes : List Party) (r : Registry (RingIn Load)) (back : List Deposit) (name : LinkName) (o o1 o2 : OutSeen) → MayMeet (parties nodes r back) name o → o1 ≡ o → o2 ≡ o1 → DepositsMayMeet back name o2
pending_may nodes r back name o o1 o2 may e1 e2 = subst (DepositsMayMeet back name) (sym (e2 ∙ e1)) (back_may (map deposit_shown r.links) back name o may.deposits)

-- it waited behind that, or nowhere
pub pending_met : (b : Bool) (nodes nodes' : List Party) (r r' : Registry (RingIn Load)) (back back' : List Deposit) (name : LinkName) (o o1 o2 o' : OutSeen) → map shown_in nodes' ≡ map shown_in nodes → r' ≡ r → o1 ≡ o → o2 ≡ o1
    → HasNone (get_or (map shown_in nodes) (name.to.0 - 1) no_shown).held name → NoneIsDeposited (map deposit_shown r.links) name
    → (b ≡ true → DepositMeets back name o2 back' o') → (b ≡ false → NoneIsDeposited back name) → (b ≡ false → back' ≡ back) → (b ≡ false → o' ≡ o2)
    → MeetsIn (parties nodes r back) name o (parties nodes r back) (parties nodes' r' back') o'
pending_met true nodes nodes' r r' back back' name o o1 o2 o' same still e1 e2 none front met non rest out = inr (inl (record {
  deposits = map deposit_shown r.links ++ back';
  meets = back_meets (map deposit_shown r.links) back back' name o o' (subst (λ x. DepositMeets back name x back' o') (e2 ∙ e1) (met refl));
  parties = parties_same (map shown_in nodes) (map shown_in nodes') r r' (map deposit_shown r.links ++ back') (map deposit_shown r'.links ++ back') same (ap (λ x. x.views) still) (ap (λ x. x.stopped) still) (ap (λ x. map deposit_shown x.links ++ back') still);
}))
pending_met false nodes nodes' r r' back back' name o o1 o2 o' same still e1 e2 none front met non rest out = inr (inr (record {
  member = none;
  deposits = none_of_both (map deposit_shown r.links) back name front (non refl);
  parties = parties_same (map shown_in nodes) (map shown_in nodes') r r' (map deposit_shown r.links ++ back) (map deposit_shown r'.links ++ back') same (ap (λ x. x.views) still) (ap (λ x. x.stopped) still)
      (ap (λ x. map deposit_shown x.links ++ back') still ∙ ap (λ x. map deposit_shown r.links ++ x) (rest refl));
  out = out refl ∙ e2 ∙ e1;
}))
