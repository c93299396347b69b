-- Where the link of a place stands among the parties: at which member and where there, or in the deposits.
use Rattle.std.proofs.Common.{◌≡◌, ℕ, ◌-◌, ◌<◌, ◌≤◌, Bool, true, false, cond, not, nat_eq, if◌then◌else◌, List, length, get_or, map, Option, Some, None, refl, sym, ap, subst, ◌∙◌, arith, ⊎_elim, inl, inr}
use Rattle.std.specs.Prelude.{◌&&◌, ◌||◌, option_map, ◌⊎◌}
use Rattle.std.specs.List.{filter, range_with_len, slice_get}
use Rattle.std.proofs.lemmas.Bool.{false≢true, and_parts, cases_lt, or_right}
use Rattle.std.proofs.lemmas.Option.{slice_get-map, slice_get_within, get_or_from_slice_get, slice_get-get_or}
use Rattle.group_view.specs.declared.link.LinkName.{LinkName}
use Rattle.group_view.specs.Ring.{is_in, AreDistinct}
use Rattle.group_view.proofs.Rings.{distinct_parts, distinct_second, is_in-append, nat_eq-same}
use Rattle.ring_rules.specs.View.{ids}
use Rattle.ring_rules.specs.Machine.{World, member_at, link_at, view_in, newest, ring, left}
use Rattle.ring_rules.specs.OpenLinks.{is_place, is_current, is_door_link, passes}
use Rattle.ring_rules.specs.Step.{size}
use Rattle.ring_rules.proofs.rings.Rounds.{nat_eq-is}
use Rattle.ring_rules.proofs.invariants.Good.{kept_true}
use Rattle.ring_rules.proofs.invariants.FromLeft.{sender_known}
use Rattle.ring_rules.proofs.invariants.Standing.{distinct_first}
use Rattle.ring_rules.proofs.invariants.Opening.{distinct_range, range_in}
use Rattle.ring_rules.proofs.invariants.Happens.{IsGood}
use Rattle.ring_rules.proofs.walks.OpenWalk.{place_is}
use Rattle.group_view.proofs.Truth.{later_true}
use Rattle.gm_member.specs.Held.{Incoming}
use Rattle.gm_member.specs.View.{ring_link}
use Rattle.gm_member.specs.Shown.{in_name_of}
use Rattle.gm_member.specs.Stands.{incoming_in, waits_for, door_links}
use Rattle.ring_rules.proofs.work.OwnEnds.{OwnEnds}
use Rattle.ring_parties.specs.Parties.{Shown}
use Rattle.ring_parties.specs.Standing.{Places, MemberStands, name_of, is_to, has_in}
use Rattle.ring_rules.proofs.work.Nobody.{NobodyAtZero, ring_members}
use Rattle.ring_parties.proofs.standing.Writing.{in_filter, at_in, distinct_filter}

-- ---- names

-- no two links have the same name
pub name_is_unique : (w : World) (s t : ℕ) → IsGood w → s < length w.links → t < length w.links → name_of w s ≡ name_of w t → s ≡ t
name_is_unique w s t h sl tl e = ⊎_elim
    (λ (lt : s < t). absurd (apart s t lt sl tl e))
    (λ (ge : t ≤ s). ⊎_elim
    (λ (lt : t < s). absurd (apart t s lt tl sl (sym e)))
    (λ (le : s ≤ t). omega arith)
    (cases_lt t s))
    (cases_lt s t)
  where
    apart : (i j : ℕ) → i < j → i < length w.links → j < length w.links → name_of w i ≡ name_of w j → ⊥
    apart i j lt il jl k =
        let opened : (link_at w i).opened ≡ (link_at w j).opened = ap (λ (n : LinkName). n.view) k in
        let from : left w (link_at w i).opened (link_at w i).receiver ≡ (link_at w i).sender = h.inv.linked.from_left i il in
        false≢true (sym (h.inv.linked.period i j lt jl (ap (λ (n : LinkName). n.to.0) k))
        ∙ kept_true w (link_at w i) (link_at w j).opened (λ u a b. (let is : u ≡ (link_at w i).opened = omega arith in ap (λ v. left w v (link_at w i).receiver) is ∙ from)))

-- ---- ids

-- each link goes from a member to a member
pub record GoBetween (w : World) : Type 0 where
  pub sender : (s : ℕ) → s < length w.links → (1 ≤ (link_at w s).sender) × ((link_at w s).sender < size w)
  pub receiver : (s : ℕ) → s < length w.links → (1 ≤ (link_at w s).receiver) × ((link_at w s).receiver < size w)

pub go_between : (w : World) → IsGood w → NobodyAtZero w → GoBetween w
go_between w h none = record {
  sender = λ s l. known s l (link_at w s).sender
      (sender_known w s h l);
  receiver = λ s l. known s l (link_at w s).receiver (h.inv.history.known s l);
}
  where
    known : (s : ℕ) → s < length w.links → (q : ℕ) → is_in q (ids (view_in w (link_at w s).opened)) ≡ true → (1 ≤ q) × (q < size w)
    known s l q i =
        let now : is_in q (ring w) ≡ true = h.inv.history.grows q (link_at w s).opened (newest w) i (h.inv.linked.opened s l) (omega arith) in
        ring_members w h none q now

-- ---- at a door

-- a link at a door is there, waits, and goes to the member
pub in_door_is : (w : World) (x s : ℕ) → is_in s (door_links w x) ≡ true → (s < length w.links) × (waits_for w x s ≡ true) × ((link_at w s).receiver ≡ x)
in_door_is w x s e =
    let both = and_parts (waits_for w x s) (is_in s (range_with_len 0 (length w.links))) (sym (in_filter (waits_for w x) s (range_with_len 0 (length w.links))) ∙ e) in
    let one = and_parts (is_door_link w x s) (passes w x (link_at w s)) both.0 in
    let two = and_parts (nat_eq (link_at w s).receiver x) (not (is_current w x s) && not (link_at w s).over) one.0 in
    let lt = (range_in 0 (length w.links) s both.1).1 in
    (omega (arith, lt), both.0, nat_eq-is (link_at w s).receiver x two.0)

-- none stands there twice
pub door_distinct : (w : World) (x : ℕ) → AreDistinct (door_links w x)
door_distinct w x = distinct_filter (waits_for w x) (range_with_len 0 (length w.links)) (distinct_range 0 (length w.links))

-- it may be taken from
pub waits_has : (w : World) (x s : ℕ) → (link_at w s).receiver ≡ x → waits_for w x s ≡ true → has_in w s ≡ true
waits_has w x s to e = or_right (is_current w (link_at w s).receiver s) (waits_for w (link_at w s).receiver s) (ap (λ y. waits_for w y s) to ∙ e)

pub current_has : (w : World) (x s : ℕ) → OwnEnds w → (member_at w x).current ≡ Some s → has_in w s ≡ true
current_has w x s o e =
    let to : (link_at w s).receiver ≡ x = (o.current x s e).1 in
    let is : is_current w (link_at w s).receiver s ≡ true = ap (λ y. is_current w y s) to ∙ ap (λ c. is_place c s) e ∙ nat_eq-same s in
    ap (λ b. b || waits_for w (link_at w s).receiver s) is

-- and only so
pub has_parts : (w : World) (s : ℕ) → has_in w s ≡ true → ((member_at w (link_at w s).receiver).current ≡ Some s) ⊎ (waits_for w (link_at w s).receiver s ≡ true)
has_parts w s e = by_case (is_current w (link_at w s).receiver s) refl e
  where
    y : ℕ
    y = (link_at w s).receiver

    by_case : (b : Bool) → is_current w y s ≡ b → (b || waits_for w y s) ≡ true → ((member_at w y).current ≡ Some s) ⊎ (waits_for w y s ≡ true)
    by_case true k h = inl (place_is (member_at w y).current s k)
    by_case false k h = inr h

-- ---- of a member that stands

-- what it has at its door is there, waits, and goes to it
pub stood_is : (w : World) (p : Places) (x s : ℕ) (m : Shown) (h : MemberStands w p x m) → is_in s h.door ≡ true → (s < length w.links) × (waits_for w x s ≡ true) × ((link_at w s).receiver ≡ x)
stood_is w p x s m h e =
    in_door_is w x s (ap (is_in s) h.comes ∙ is_in-append s h.door (filter (is_to w x) p.deposits) ∙ ap (λ b. cond b true (is_in s (filter (is_to w x) p.deposits))) e)

-- and so is what waits for it
pub deposit_is : (w : World) (p : Places) (x s : ℕ) (m : Shown) → MemberStands w p x m → (link_at w s).receiver ≡ x → is_in s p.deposits ≡ true → (s < length w.links) × (waits_for w x s ≡ true) × ((link_at w s).receiver ≡ x)
deposit_is w p x s m h to e =
    in_door_is w x s (ap (is_in s) h.comes ∙ is_in-append s h.door (filter (is_to w x) p.deposits) ∙ later_true (is_in s h.door) (in_filter (is_to w x) s p.deposits ∙ ap (λ b. b && is_in s p.deposits) (ap (λ y. nat_eq y x) to ∙ nat_eq-same x) ∙ e))

-- it has none twice
pub stood_once : (w : World) (p : Places) (x : ℕ) (m : Shown) (h : MemberStands w p x m) → AreDistinct h.door
stood_once w p x m h = distinct_first h.door (filter (is_to w x) p.deposits) (subst AreDistinct h.comes (door_distinct w x))

-- nor does one wait for it twice
pub deposited_once : (w : World) (p : Places) (x : ℕ) (m : Shown) → MemberStands w p x m → AreDistinct (filter (is_to w x) p.deposits)
deposited_once w p x m h = distinct_second h.door (filter (is_to w x) p.deposits) (subst AreDistinct h.comes (door_distinct w x))

-- what it has doesn't wait any more
pub stood_not_deposited : (w : World) (p : Places) (x s : ℕ) (m : Shown) (h : MemberStands w p x m) → is_in s h.door ≡ true → is_in s p.deposits ≡ false
stood_not_deposited w p x s m h e =
    let to : (link_at w s).receiver ≡ x = (stood_is w p x s m h e).2 in
    sym (ap (λ b. b && is_in s p.deposits) (ap (λ y. nat_eq y x) to ∙ nat_eq-same x))
    ∙ sym (in_filter (is_to w x) s p.deposits)
    ∙ distinct_parts s h.door (filter (is_to w x) p.deposits) (subst AreDistinct h.comes (door_distinct w x)) e

-- ---- a place of a member

-- the link at a place of x is that of place s
abbrev pub StandsAt : World → ℕ → List ℕ → ℕ → ℕ → Type 0
StandsAt w x door place s =
    ((nat_eq place 0 ≡ true) × ((member_at w x).current ≡ Some s))
    ⊎ ((nat_eq place 0 ≡ false) × (place - 1 < length door) × (get_or door (place - 1) 0 ≡ s))

-- it goes to x, and may be taken from
pub at_receives : (w : World) (p : Places) (x place s : ℕ) (m : Shown) (h : MemberStands w p x m) → OwnEnds w → StandsAt w x h.door place s → (s < length w.links) × ((link_at w s).receiver ≡ x) × (has_in w s ≡ true)
at_receives w p x place s m h o a = ⊎_elim
    (λ (c : (nat_eq place 0 ≡ true) × ((member_at w x).current ≡ Some s)). let k = o.current x s c.1 in (k.0, k.1, current_has w x s o c.1))
    (λ (d : (nat_eq place 0 ≡ false) × (place - 1 < length h.door) × (get_or h.door (place - 1) 0 ≡ s)).
    let k = stood_is w p x s m h (subst (λ t. is_in t h.door ≡ true) d.2 (at_in h.door (place - 1) d.1)) in (k.0, k.2, waits_has w x s k.2 k.1))
    a

-- the end there
pub at_end : (w : World) (p : Places) (x place s : ℕ) (m : Shown) (h : MemberStands w p x m) → StandsAt w x h.door place s → (if nat_eq place 0 then m.ends.link else get_or m.ends.door (place - 1) None) ≡ Some (p.ins s)
at_end w p x place s m h a = ⊎_elim
    (λ (c : (nat_eq place 0 ≡ true) × ((member_at w x).current ≡ Some s)).
    ap (λ b. if b then m.ends.link else get_or m.ends.door (place - 1) None) c.0 ∙ h.link ∙ ap (option_map p.ins) c.1)
    (λ (d : (nat_eq place 0 ≡ false) × (place - 1 < length h.door) × (get_or h.door (place - 1) 0 ≡ s)).
    ap (λ b. if b then m.ends.link else get_or m.ends.door (place - 1) None) d.0
    ∙ ap (λ es. get_or es (place - 1) None) h.ends
    ∙ made h.door (place - 1) d.1
    ∙ ap (λ t. Some (p.ins t)) d.2)
    a
  where
    made : (xs : List ℕ) (i : ℕ) → i < length xs → get_or (map (λ t. Some (p.ins t)) xs) i None ≡ Some (p.ins (get_or xs i 0))
    made xs i l = get_or_from_slice_get (map (λ t. Some (p.ins t)) xs) i (Some (p.ins (get_or xs i 0))) None (slice_get-map (λ t. Some (p.ins t)) xs i ∙ ap (option_map (λ t. Some (p.ins t))) (slice_get-get_or xs i 0 l))

-- ---- by its name

-- the name at a place is that of a link there
pub name_stands : (w : World) (p : Places) (x place s : ℕ) (m : Shown) (h : MemberStands w p x m) → IsGood w → OwnEnds w → s < length w.links → in_name_of m.held place ≡ Some (name_of w s) → StandsAt w x h.door place s
name_stands w p x place s m h g o sl e = by_place (nat_eq place 0) refl (sym (ap (λ k. in_name_of k place) h.held) ∙ e)
  where
    named : Incoming → LinkName
    named l = ring_link l.from x l.opened

    unmade : (c : Option ℕ) → option_map (λ (l : Incoming). ring_link l.from x l.opened) (option_map (incoming_in w) c) ≡ Some (name_of w s) → (t : ℕ) × (c ≡ Some t) × (ring_link (link_at w t).sender x (link_at w t).opened ≡ name_of w s)
    unmade None k = cc
    unmade (Some t) k = (t, refl, cc)

    same : (t : ℕ) → t < length w.links → (link_at w t).receiver ≡ x → ring_link (link_at w t).sender x (link_at w t).opened ≡ name_of w s → t ≡ s
    same t tl to k = name_is_unique w t s g tl sl (ap (λ y. ring_link (link_at w t).sender y (link_at w t).opened) to ∙ k)

    at_current : (t : ℕ) × ((member_at w x).current ≡ Some t) × (ring_link (link_at w t).sender x (link_at w t).opened ≡ name_of w s) → (member_at w x).current ≡ Some s
    at_current f = let k = o.current x f.0 f.1 in f.1 ∙ ap Some (same f.0 k.0 k.1 f.2)

    at_door : (t : ℕ) × (slice_get h.door (place - 1) ≡ Some t) × (ring_link (link_at w t).sender x (link_at w t).opened ≡ name_of w s) → (place - 1 < length h.door) × (get_or h.door (place - 1) 0 ≡ s)
    at_door f =
        let l : place - 1 < length h.door = slice_get_within h.door (place - 1) f.0 f.1 in
        let is : get_or h.door (place - 1) 0 ≡ f.0 = get_or_from_slice_get h.door (place - 1) f.0 0 f.1 in
        let k = stood_is w p x f.0 m h (subst (λ t. is_in t h.door ≡ true) is (at_in h.door (place - 1) l)) in
        (l, is ∙ same f.0 k.0 k.2 f.2)

    by_place : (b : Bool) → nat_eq place 0 ≡ b → option_map (λ (l : Incoming). ring_link l.from x l.opened) (if b then option_map (incoming_in w) (member_at w x).current else slice_get (map (incoming_in w) h.door) (place - 1)) ≡ Some (name_of w s) → ((b ≡ true) × ((member_at w x).current ≡ Some s)) ⊎ ((b ≡ false) × (place - 1 < length h.door) × (get_or h.door (place - 1) 0 ≡ s))
    by_place true b k = inl (refl, at_current (unmade (member_at w x).current k))
    by_place false b k =
        let f = at_door (unmade (slice_get h.door (place - 1)) (ap (option_map (λ (l : Incoming). ring_link l.from x l.opened)) (sym (slice_get-map (incoming_in w) h.door (place - 1))) ∙ k)) in
        inr (refl, f.0, f.1)

-- a name at a place is that of some link
pub name_found : (w : World) (p : Places) (x place : ℕ) (name : LinkName) (m : Shown) (h : MemberStands w p x m) → OwnEnds w → in_name_of m.held place ≡ Some name → (s : ℕ) × (s < length w.links) × (name_of w s ≡ name)
name_found w p x place name m h o e = by_place (nat_eq place 0) (sym (ap (λ k. in_name_of k place) h.held) ∙ e)
  where
    unmade : (c : Option ℕ) → option_map (λ (l : Incoming). ring_link l.from x l.opened) (option_map (incoming_in w) c) ≡ Some name → (t : ℕ) × (c ≡ Some t) × (ring_link (link_at w t).sender x (link_at w t).opened ≡ name)
    unmade None k = cc
    unmade (Some t) k = (t, refl, cc)

    at_current : (t : ℕ) × ((member_at w x).current ≡ Some t) × (ring_link (link_at w t).sender x (link_at w t).opened ≡ name) → (s : ℕ) × (s < length w.links) × (name_of w s ≡ name)
    at_current f = let k = o.current x f.0 f.1 in (f.0, k.0, ap (λ y. ring_link (link_at w f.0).sender y (link_at w f.0).opened) k.1 ∙ f.2)

    at_door : (t : ℕ) × (slice_get h.door (place - 1) ≡ Some t) × (ring_link (link_at w t).sender x (link_at w t).opened ≡ name) → (s : ℕ) × (s < length w.links) × (name_of w s ≡ name)
    at_door f =
        let l : place - 1 < length h.door = slice_get_within h.door (place - 1) f.0 f.1 in
        let is : get_or h.door (place - 1) 0 ≡ f.0 = get_or_from_slice_get h.door (place - 1) f.0 0 f.1 in
        let k = stood_is w p x f.0 m h (subst (λ t. is_in t h.door ≡ true) is (at_in h.door (place - 1) l)) in
        (f.0, k.0, ap (λ y. ring_link (link_at w f.0).sender y (link_at w f.0).opened) k.2 ∙ f.2)

    by_place : (b : Bool) → option_map (λ (l : Incoming). ring_link l.from x l.opened) (if b then option_map (incoming_in w) (member_at w x).current else slice_get (map (incoming_in w) h.door) (place - 1)) ≡ Some name → (s : ℕ) × (s < length w.links) × (name_of w s ≡ name)
    by_place true k = at_current (unmade (member_at w x).current k)
    by_place false k = at_door (unmade (slice_get h.door (place - 1)) (ap (option_map (λ (l : Incoming). ring_link l.from x l.opened)) (sym (slice_get-map (incoming_in w) h.door (place - 1))) ∙ k))

-- and the link at a place has its name there
pub stands_named : (w : World) (p : Places) (x place s : ℕ) (m : Shown) (h : MemberStands w p x m) → OwnEnds w → StandsAt w x h.door place s → in_name_of m.held place ≡ Some (name_of w s)
stands_named w p x place s m h o a =
    let to : (link_at w s).receiver ≡ x = (at_receives w p x place s m h o a).1 in
    ap (λ k. in_name_of k place) h.held
    ∙ ⊎_elim
    (λ (c : (nat_eq place 0 ≡ true) × ((member_at w x).current ≡ Some s)).
    ap (λ b. option_map (λ (l : Incoming). ring_link l.from x l.opened) (if b then option_map (incoming_in w) (member_at w x).current else slice_get (map (incoming_in w) h.door) (place - 1))) c.0
    ∙ ap (λ k. option_map (λ (l : Incoming). ring_link l.from x l.opened) (option_map (incoming_in w) k)) c.1)
    (λ (d : (nat_eq place 0 ≡ false) × (place - 1 < length h.door) × (get_or h.door (place - 1) 0 ≡ s)).
    ap (λ b. option_map (λ (l : Incoming). ring_link l.from x l.opened) (if b then option_map (incoming_in w) (member_at w x).current else slice_get (map (incoming_in w) h.door) (place - 1))) d.0
    ∙ ap (option_map (λ (l : Incoming). ring_link l.from x l.opened)) (slice_get-map (incoming_in w) h.door (place - 1) ∙ ap (option_map (incoming_in w)) (slice_get-get_or h.door (place - 1) 0 d.1 ∙ ap Some d.2)))
    a
    ∙ ap (λ y. Some (ring_link (link_at w s).sender y (link_at w s).opened)) (sym to)
