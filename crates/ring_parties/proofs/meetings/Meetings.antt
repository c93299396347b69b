-- The ends of a link meet: where its in end is found, what they carry then, and where the parties stand.
use Rattle.std.proofs.Common.{◌≡◌, ℕ, ◌+◌, ◌-◌, ◌<◌, ◌≤◌, Bool, true, false, cond, nat_eq, List, ◌++◌, length, get_or, map, Some, refl, sym, ap, subst, ◌∙◌, arith, ⊎_elim, inl, inr}
use Rattle.std.specs.Prelude.{option_map, slice_index_or}
use Rattle.std.specs.List.{filter}
use Rattle.std.proofs.lemmas.Bool.{and_parts, false_from_ne_true}
use Rattle.std.proofs.lemmas.List.{length-map, length-append}
use Rattle.std.proofs.lemmas.Option.{slice_get-map, get_or_from_slice_get, slice_get-get_or}
use Rattle.ring_names.specs.declared.numbers.CreditSpec.{CreditSpec}
use Rattle.group_view.specs.Ring.{is_in}
use Rattle.group_view.proofs.Rings.{is_in-append}
use Rattle.ring_rules.specs.Machine.{World, Link, member_at, link_at}
use Rattle.ring_rules.specs.Step.{size}
use Rattle.ring_rules.proofs.rings.Rounds.{nat_eq-is}
use Rattle.ring_rules.proofs.invariants.Happens.{IsGood}
use Rattle.gm_member.specs.Held.{Held}
use Rattle.gm_member.specs.Shown.{in_name_of, in_end}
use Rattle.gm_member.specs.Stands.{incoming_in, waits_for}
use Rattle.gm_member.proofs.DoorLists.{in_places}
use Rattle.ring_parties.specs.Ends.{OutSeen, InSeen, items_in, Carries, HaveMet, HasRested, Meets}
use Rattle.ordered_link.specs.Names.{PairName}
use Rattle.ring_parties.specs.Parties.{Shown, Deposit, Parties, no_deposit, node_at}
use Rattle.ring_parties.specs.Standing.{Places, MemberStands, StandIn, name_of, is_to, has_in}
use Rattle.ring_parties.proofs.work.Lawful.{IsLawfulAt}
use Rattle.ring_parties.proofs.standing.Writing.{in_filter, at_in, in_at}
use Rattle.ring_parties.proofs.standing.Placing.{GoBetween, StandsAt, name_is_unique, at_receives, at_end, has_parts, waits_has, deposit_is, name_stands, stands_named}
use Rattle.group_view.specs.declared.link.LinkName.{LinkName}

-- ---- two ends

-- ends that carry a link carry it when they have met
pub meets_carry : (w : World) (initial : ℕ) (l : Link) (o : OutSeen) (n : InSeen) (o' : OutSeen) (n' : InSeen) → Meets o n o' n' → Carries w initial l o n → Carries w initial l o' n'
meets_carry w initial l o n o' n' m c = record {
  items = ap (λ xs. xs ++ items_in w l) m.taken ∙ c.items ∙ sym m.put;
  grants = ap (λ gs. gs ++ l.flow.grants) m.gained ∙ c.grants ∙ sym (m.given c.late).1;
  late = (m.given c.late).0;
  ended = m.ended ∙ c.ended;
  initial = m.out_initial ∙ c.initial;
  fits = record {
    initial = m.in_initial ∙ c.fits.initial ∙ sym m.out_initial;
    ring = m.in_ring ∙ c.fits.ring ∙ sym m.out_ring;
    slots = ap (λ (r : PairName). r.slots) m.out_ring ∙ c.fits.slots ∙ ap (λ i. i + 1) (sym m.out_initial);
  };
}

-- of ends that have met, the out end may be dropped
pub met_rests : (o : OutSeen) (n : InSeen) → HaveMet o n → HasRested o n
met_rests o n m = record { items = m.items; room = omega (arith, m.room, ap length m.grants, length-append o.gained o.back) }

-- ---- where the in end is found

-- what is found at a member is the end of its link
pub found_at : (credit : CreditSpec) (w : World) (q : Parties) (p : Places) (y place s : ℕ) → IsLawfulAt credit w → StandIn credit.initial w q p → 1 ≤ y → y < size w → s < length w.links → in_name_of (node_at q (y - 1)).held place ≡ Some (name_of w s)
    → ((link_at w s).receiver ≡ y) × (has_in w s ≡ true) × (in_end (node_at q (y - 1)).ends place ≡ Some (p.ins s))
found_at credit w q p y place s g st a l sl e =
    let m : Shown = node_at q (y - 1) in
    let h : MemberStands w p y m = st.each y a l in
    let at : StandsAt w y h.door place s = name_stands w p y place s m h g.fit.good g.fit.own_ends sl e in
    let k = at_receives w p y place s m h g.fit.own_ends at in
    (k.1, k.2, at_end w p y place s m h at)

-- what is made of each, at a place
made_at : {B : Type 0} (f : ℕ → B) (xs : List ℕ) (j : ℕ) (d : B) → j < length xs → get_or (map f xs) j d ≡ f (get_or xs j 0)
made_at f xs j d l = get_or_from_slice_get (map f xs) j (f (get_or xs j 0)) d (slice_get-map f xs j ∙ ap (option_map f) (slice_get-get_or xs j 0 l))

-- a link that waits, as it is shown
abbrev pub waiting_at : World → Places → ℕ → Deposit
waiting_at w p s = record { name = name_of w s; end = Some (p.ins s) }

pub deposits_many : (initial : ℕ) (w : World) (q : Parties) (p : Places) → StandIn initial w q p → length q.deposits ≡ length p.deposits
deposits_many initial w q p st = ap length st.deposits ∙ length-map p.deposits (waiting_at w p)

-- where a link waits
pub deposit_at : (initial : ℕ) (w : World) (q : Parties) (p : Places) (j : ℕ) (d : Deposit) → StandIn initial w q p → j < length q.deposits → (j < length p.deposits) × (get_or q.deposits j d ≡ waiting_at w p (get_or p.deposits j 0))
deposit_at initial w q p j d st l =
    let jl : j < length p.deposits = omega (arith, deposits_many initial w q p st) in
    (jl, ap (λ xs. get_or xs j d) st.deposits ∙ made_at (waiting_at w p) p.deposits j d jl)

-- it is the one whose name it has
pub deposit_place : (w : World) (initial : ℕ) (q : Parties) (p : Places) (j s : ℕ) (d : Deposit) → IsGood w → StandIn initial w q p → j < length q.deposits → s < length w.links → (get_or q.deposits j d).name ≡ name_of w s → (j < length p.deposits) × (get_or p.deposits j 0 ≡ s) × (is_in s p.deposits ≡ true)
deposit_place w initial q p j s d g st l sl e =
    let k = deposit_at initial w q p j d st l in
    let is : is_in (get_or p.deposits j 0) p.deposits ≡ true = at_in p.deposits j k.0 in
    let same : get_or p.deposits j 0 ≡ s = name_is_unique w (get_or p.deposits j 0) s g (st.within (get_or p.deposits j 0) is) sl (sym (ap (λ (x : Deposit). x.name) k.1) ∙ e) in
    (k.0, same, subst (λ t. is_in t p.deposits ≡ true) same is)

-- what is found in the deposits is the end of its link
pub found_deposit : (credit : CreditSpec) (w : World) (q : Parties) (p : Places) (j s : ℕ) (d : Deposit) → IsLawfulAt credit w → GoBetween w → StandIn credit.initial w q p → j < length q.deposits → s < length w.links → (get_or q.deposits j d).name ≡ name_of w s
    → (has_in w s ≡ true) × ((get_or q.deposits j d).end ≡ Some (p.ins s))
found_deposit credit w q p j s d g go st l sl e =
    let f = deposit_place w credit.initial q p j s d g.fit.good st l sl e in
    let k = deposit_at credit.initial w q p j d st l in
    let y = (link_at w s).receiver in
    let r = go.receiver s sl in
    let i = deposit_is w p y s (node_at q (y - 1)) (st.each y r.0 r.1) refl f.2 in
    (waits_has w y s refl i.1, ap (λ (x : Deposit). x.end) k.1 ∙ ap (λ t. Some (p.ins t)) f.1)

-- no link of that name stands at its receiver, or waits for it
pub record IsNowhere (q : Parties) (name : LinkName) : Type 0 where
  pub member : (place : ℕ) → place ≤ length (node_at q (name.to.0 - 1)).held.door → in_name_of (node_at q (name.to.0 - 1)).held place ≡ Some name → ⊥
  pub deposits : (j : ℕ) (d : Deposit) → j < length q.deposits → (slice_index_or q.deposits j d).name ≡ name → ⊥

-- a link that is found nowhere may not be taken from
pub found_nowhere : (credit : CreditSpec) (w : World) (q : Parties) (p : Places) (s : ℕ) → IsLawfulAt credit w → GoBetween w → StandIn credit.initial w q p → s < length w.links → IsNowhere q (name_of w s) → has_in w s ≡ false
found_nowhere credit w q p s g go st sl none = false_from_ne_true (has_in w s) (λ h. ⊎_elim
    (λ (c : (member_at w y).current ≡ Some s). none.member 0 (omega arith) (stands_named w p y 0 s m mine g.fit.own_ends (inl (refl, c))))
    (λ (t : waits_for w y s ≡ true). by_door (is_in s mine.door) refl (sym (ap (is_in s) mine.comes) ∙ in_places (waits_for w y) 0 (length w.links) s (omega arith) (omega arith) ∙ t))
    (has_parts w s h))
  where
    y : ℕ
    y = (link_at w s).receiver

    m : Shown
    m = node_at q (y - 1)

    mine : MemberStands w p y m
    mine = st.each y (go.receiver s sl).0 (go.receiver s sl).1

    many : length m.held.door ≡ length mine.door
    many = ap (λ (h : Held). length h.door) mine.held ∙ length-map mine.door (incoming_in w)

    at_door : (i : ℕ) × (i < length mine.door) × (get_or mine.door i 0 ≡ s) → ⊥
    at_door f =
        let back : f.0 + 1 - 1 ≡ f.0 = omega arith in
        let not_first : nat_eq (f.0 + 1) 0 ≡ false = false_from_ne_true (nat_eq (f.0 + 1) 0) (λ k. (let is : f.0 + 1 ≡ 0 = nat_eq-is (f.0 + 1) 0 k in omega arith)) in
        let l : f.0 < length mine.door = f.1 in
        none.member (f.0 + 1) (omega (arith, many, l)) (stands_named w p y (f.0 + 1) s m mine g.fit.own_ends (inr (not_first, omega (arith, back, l), ap (λ i. get_or mine.door i 0) back ∙ f.2)))

    in_deposits : (j : ℕ) × (j < length p.deposits) × (get_or p.deposits j 0 ≡ s) → ⊥
    in_deposits f =
        let l : f.0 < length p.deposits = f.1 in
        let jl : f.0 < length q.deposits = omega (arith, deposits_many credit.initial w q p st, l) in
        none.deposits f.0 (no_deposit (name_of w s)) jl (ap (λ (x : Deposit). x.name) (deposit_at credit.initial w q p f.0 (no_deposit (name_of w s)) st jl).1 ∙ ap (name_of w) f.2)

    by_door : (b : Bool) → is_in s mine.door ≡ b → is_in s (mine.door ++ filter (is_to w y) p.deposits) ≡ true → ⊥
    by_door true e h = at_door (in_at s mine.door e)
    by_door false e h =
        let k : is_in s (filter (is_to w y) p.deposits) ≡ true = sym (is_in-append s mine.door (filter (is_to w y) p.deposits) ∙ ap (λ b. cond b true (is_in s (filter (is_to w y) p.deposits))) e) ∙ h in
        in_deposits (in_at s p.deposits (and_parts (is_to w y s) (is_in s p.deposits) (sym (in_filter (is_to w y) s p.deposits) ∙ k)).1)
