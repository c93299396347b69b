-- What passed the ends of a link between two meetings, by their rings.
use Rattle.std.proofs.Common.{◌≡◌, ℕ, List, [], ◌∷◌, ◌++◌, map, length, Option, None, refl, sym, ap, ◌∙◌, ⊎_elim, arith}
use Rattle.std.specs.Prelude.{◌⊎◌}
use Rattle.std.proofs.lemmas.List.{map-append, append_cancel_left}
use Rattle.rtrb.specs.Ring.{sent, received as got, known_items}
use Rattle.ordered_link.specs.declared.grant.Grant.{Grant}
use Rattle.ordered_link.specs.declared.item.Item.{Item}
use Rattle.ordered_link.specs.declared.ring.RingOut.{RingOut}
use Rattle.ordered_link.specs.declared.ring.RingIn.{RingIn}
use Rattle.ordered_link.specs.Names.{out_pair, in_pair}
use Rattle.ordered_link.specs.RingSteps.{RingsHaveMet, OutStays, InStays}
use Rattle.activity.specs.declared.packet.Load.{Load}
use Rattle.ring_parties.specs.Ends.{PacketShown, OutSeen, InSeen, HaveMet}
use Rattle.ring_parties.specs.Parties.{content, amounts, amount_of, out_seen, in_seen}
use Rattle.ring_parties.specs.RoundActs.{Stamped, things}
use Rattle.ring_parties.specs.Turn.{timed_item, timed_items, timed_grant, timed_grants, OutPasses, InPasses}
use Rattle.ring_parties.proofs.lists.Grants.{nothing_sent}
use Rattle.ring_parties.proofs.standing.Rings.{pair_out, pair_in, met_seen}
use Rattle.ring_parties.proofs.rounds.Seated.{balance}

-- ---- without times it is what ends show

pub things_items : (round : ℕ) (xs : List (Item Load)) → things (timed_items round xs) ≡ map content xs
things_items round [] = refl
things_items round (x ∷ xs) = ap (λ ys. content x ∷ ys) (things_items round xs)

pub things_grants : (round : ℕ) (gs : List Grant) → things (timed_grants round gs) ≡ amounts gs
things_grants round [] = refl
things_grants round (g ∷ gs) = ap (λ ys. g.amount ∷ ys) (things_grants round gs)

-- ---- ends that may have met

-- An out end has put, gained and ended no more, and is of its rings.
pub record OutKept (o o' : RingOut Load) : Type 0 where
  pub items : sent o'.items ≡ sent o.items
  pub grants : got o'.back ≡ got o.back
  pub ended : o'.ended ≡ o.ended
  pub initial : o'.initial ≡ o.initial
  pub ring : out_pair o' ≡ out_pair o

pub out_kept : (o o' : RingOut Load) → (o' ≡ o) ⊎ OutStays o o' → OutKept o o'
out_kept o o' h = ⊎_elim
    (λ (e : o' ≡ o). record { items = ap (λ (x : RingOut Load). sent x.items) e; grants = ap (λ (x : RingOut Load). got x.back) e; ended = ap (λ (x : RingOut Load). x.ended) e; initial = ap (λ (x : RingOut Load). x.initial) e; ring = ap out_pair e })
    (λ (s : OutStays o o'). record { items = s.2; grants = s.3; ended = s.4; initial = s.5; ring = pair_out o o' s.0 s.1 })
    h

-- An in end in which no grant waits has taken and given no more, and is of its rings.
pub record InKept (n n' : RingIn Load) : Type 0 where
  pub items : got n'.items ≡ got n.items
  pub grants : sent n'.back ≡ sent n.back
  pub late : n'.late ≡ None
  pub initial : n'.initial ≡ n.initial
  pub ring : in_pair n' ≡ in_pair n

pub in_kept : (n n' : RingIn Load) → n.late ≡ None → (n' ≡ n) ⊎ InStays n n' → InKept n n'
in_kept n n' none h = ⊎_elim
    (λ (e : n' ≡ n). record { items = ap (λ (x : RingIn Load). got x.items) e; grants = ap (λ (x : RingIn Load). sent x.back) e; late = ap (λ (x : RingIn Load). x.late) e ∙ none; initial = ap (λ (x : RingIn Load). x.initial) e; ring = ap in_pair e })
    (λ (s : InStays n n').
    let g = nothing_sent (sent n.back) (sent n'.back) n.late n'.late none s.3 in
    record { items = s.1; grants = g.0; late = g.1; initial = s.4; ring = pair_in n n' s.0 s.2 })
    h

-- ---- the same ends meet again

-- where they had met, and have done nothing since, they show what they showed
pub met_again : (o o' : RingOut Load) (n n' : RingIn Load) → HaveMet (out_seen o) (in_seen n) → n.late ≡ None → RingsHaveMet o' n' → OutKept o o' → InKept n n' → (out_seen o' ≡ out_seen o) × (in_seen n' ≡ in_seen n)
met_again o o' n n' before none met ko kn =
    let after : HaveMet (out_seen o') (in_seen n') = met_seen o' n' met in
    let put : (out_seen o').put ≡ (out_seen o).put = ap (map content) ko.items in
    let gained : (out_seen o').gained ≡ (out_seen o).gained = ap amounts ko.grants in
    let taken : (in_seen n').taken ≡ (in_seen n).taken = ap (map content) kn.items in
    let given : (in_seen n').given ≡ (in_seen n).given = ap amounts kn.grants in
    let items : (in_seen n').items ≡ (in_seen n).items = append_cancel_left (in_seen n).taken (in_seen n').items (in_seen n).items (ap (λ xs. xs ++ (in_seen n').items) (sym taken) ∙ after.items ∙ put ∙ sym before.items) in
    let back : (out_seen o').back ≡ (out_seen o).back = append_cancel_left (out_seen o).gained (out_seen o').back (out_seen o).back (ap (λ xs. xs ++ (out_seen o').back) (sym gained) ∙ after.grants ∙ given ∙ sym before.grants) in
    let many : length (in_seen n').items ≡ length (in_seen n).items = ap length items in
    let few : length (out_seen o').back ≡ length (out_seen o).back = ap length back in
    let free : (out_seen o').free ≡ (out_seen o).free = omega (arith, before.free, after.free, many, ko.initial) in
    let room : (in_seen n').free ≡ (in_seen n).free = omega (arith, before.room, after.room, few, kn.initial) in
    let late : (in_seen n').late ≡ (in_seen n).late = ap amount_of (kn.late ∙ sym none) in
    let ended : (out_seen o').ended ≡ (out_seen o).ended = ko.ended in
    let width : (out_seen o').initial ≡ (out_seen o).initial = ko.initial in
    let ring : (out_seen o').ring ≡ (out_seen o).ring = ko.ring in
    let size : (in_seen n').initial ≡ (in_seen n).initial = kn.initial in
    let rings : (in_seen n').ring ≡ (in_seen n).ring = kn.ring in
    (out_same (out_seen o) (out_seen o') put gained back width free ended ring, in_same (in_seen n) (in_seen n') taken items given late size room rings)
  where
    out_same : (a b : OutSeen) → b.put ≡ a.put → b.gained ≡ a.gained → b.back ≡ a.back → b.initial ≡ a.initial → b.free ≡ a.free → b.ended ≡ a.ended → b.ring ≡ a.ring → b ≡ a
    out_same a b e1 e2 e3 e4 e5 e6 e7 =
        ap (λ x. record b { put = x }) e1
        ∙ ap (λ x. record b { put = a.put; gained = x }) e2
        ∙ ap (λ x. record b { put = a.put; gained = a.gained; back = x }) e3
        ∙ ap (λ x. record b { put = a.put; gained = a.gained; back = a.back; initial = x }) e4
        ∙ ap (λ x. record a { free = x; ended = b.ended; ring = b.ring }) e5
        ∙ ap (λ x. record a { ended = x; ring = b.ring }) e6
        ∙ ap (λ x. record a { ring = x }) e7

    in_same : (a b : InSeen) → b.taken ≡ a.taken → b.items ≡ a.items → b.given ≡ a.given → b.late ≡ a.late → b.initial ≡ a.initial → b.free ≡ a.free → b.ring ≡ a.ring → b ≡ a
    in_same a b e1 e2 e3 e4 e5 e6 e7 =
        ap (λ x. record b { taken = x }) e1
        ∙ ap (λ x. record b { taken = a.taken; items = x }) e2
        ∙ ap (λ x. record b { taken = a.taken; items = a.items; given = x }) e3
        ∙ ap (λ x. record b { taken = a.taken; items = a.items; given = a.given; late = x }) e4
        ∙ ap (λ x. record a { initial = x; free = b.free; ring = b.ring }) e5
        ∙ ap (λ x. record a { free = x; ring = b.ring }) e6
        ∙ ap (λ x. record a { ring = x }) e7

-- ---- a round between two meetings

module _ (round : ℕ) (put taken : List (Stamped (Option PacketShown))) (gained given : List (Stamped ℕ)) (o2 o3 o4 : RingOut Load) (n2 n3 n4 : RingIn Load)
    (first : RingsHaveMet o2 n2) (last : RingsHaveMet o4 n4) (out : OutPasses round put gained o2 o3) (link : InPasses round taken given n2 n3) (ko : OutKept o3 o4) (kn : InKept n3 n4) where
  -- what stood on the link and was put is what was taken and stands there
  pub items_pass : timed_items round (known_items n2.items) ++ put ≡ taken ++ timed_items round (known_items n4.items)
  items_pass = balance (timed_items round (sent o2.items)) (timed_items round (got n2.items)) (timed_items round (known_items n2.items)) (timed_items round (sent o4.items)) (timed_items round (got n4.items)) (timed_items round (known_items n4.items)) put taken
      (sym (map-append (timed_item round) (got n2.items) (known_items n2.items)) ∙ ap (timed_items round) first.items)
      (sym (map-append (timed_item round) (got n4.items) (known_items n4.items)) ∙ ap (timed_items round) last.items)
      (ap (timed_items round) ko.items ∙ out.items)
      (ap (timed_items round) kn.items ∙ link.items)

  -- and so of the grants on its way back
  pub grants_pass : timed_grants round (known_items o2.back) ++ given ≡ gained ++ timed_grants round (known_items o4.back)
  grants_pass = balance (timed_grants round (sent n2.back)) (timed_grants round (got o2.back)) (timed_grants round (known_items o2.back)) (timed_grants round (sent n4.back)) (timed_grants round (got o4.back)) (timed_grants round (known_items o4.back)) given gained
      (sym (map-append (timed_grant round) (got o2.back) (known_items o2.back)) ∙ ap (timed_grants round) first.grants)
      (sym (map-append (timed_grant round) (got o4.back) (known_items o4.back)) ∙ ap (timed_grants round) last.grants)
      (ap (timed_grants round) kn.grants ∙ link.grants)
      (ap (timed_grants round) ko.grants ∙ out.grants)

-- nothing passed an end that stays
pub nothing_passed : {X : Type 0} (xs ys : List X) → xs ≡ xs ++ ys → ys ≡ []
nothing_passed xs ys e = sym (append_cancel_left xs [] ys (append_empty xs ∙ e))
  where
    append_empty : {X : Type 0} (xs : List X) → xs ++ [] ≡ xs
    append_empty [] = refl
    append_empty (x ∷ xs) = ap (λ ys. x ∷ ys) (append_empty xs)
