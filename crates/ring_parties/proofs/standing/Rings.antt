-- Which rings an end belongs to stays with it, and two ends of one link may meet.
use Rattle.std.proofs.Common.{◌≡◌, ℕ, false, ◌+◌, [], ◌++◌, map, length, Option, Some, None, refl, sym, ap, ◌∙◌, arith}
use Rattle.std.proofs.lemmas.List.{map-append, length-map}
use Rattle.rtrb.specs.Ring.{sent, received as got, known_items, known_free, producer_capacity, SameProducer, SameConsumer}
use Rattle.ordered_link.specs.declared.grant.Grant.{Grant}
use Rattle.ordered_link.specs.declared.ring.RingOut.{RingOut}
use Rattle.ordered_link.specs.declared.ring.RingIn.{RingIn}
use Rattle.ordered_link.specs.RingSteps.{AreRingEnds, RingsHaveMet, RingMeets, IsFreshRingPair}
use Rattle.ordered_link.specs.Names.{out_pair, in_pair}
use Rattle.ordered_link.proofs.Rings.{named_ends, ends_named}
use Rattle.activity.specs.declared.packet.Load.{Load}
use Rattle.ring_parties.specs.Ends.{Fits, HaveMet, Meets, fresh_out, fresh_in}
use Rattle.ring_parties.specs.Parties.{content, amounts, amount_of, out_seen, in_seen}
use Rattle.ring_parties.proofs.lists.Grants.{nothing_sent}

-- ---- an end keeps its rings

pub pair_out : (o p : RingOut Load) → SameProducer o.items p.items → SameConsumer o.back p.back → out_pair p ≡ out_pair o
pair_out o p ((w, s, n, h), c) ((w1, s1, n1, h1), c1) =
    let slots : producer_capacity p.items ≡ producer_capacity o.items = c in
    cc

pub pair_in : (i j : RingIn Load) → SameConsumer i.items j.items → SameProducer i.back j.back → in_pair j ≡ in_pair i
pair_in i j ((w, s, n, h), c) ((w1, s1, n1, h1), c1) =
    let slots : producer_capacity j.back + 1 ≡ producer_capacity i.back + 1 = ap (λ k. k + 1) c1 in
    cc

-- where one of the two is as it was
pub out_items_same : (o p : RingOut Load) → p.items ≡ o.items → SameProducer o.items p.items
out_items_same o p e = ((ap (λ x. x.end.words) e, ap (λ x. x.end.slots) e, ap (λ x. x.end.names) e, ap (λ x. x.end.heap) e), ap (λ x. x.capacity) e)

pub out_back_same : (o p : RingOut Load) → p.back ≡ o.back → SameConsumer o.back p.back
out_back_same o p e = ((ap (λ x. x.end.words) e, ap (λ x. x.end.slots) e, ap (λ x. x.end.names) e, ap (λ x. x.end.heap) e), ap (λ x. x.capacity) e)

pub in_items_same : (i j : RingIn Load) → j.items ≡ i.items → SameConsumer i.items j.items
in_items_same i j e = ((ap (λ x. x.end.words) e, ap (λ x. x.end.slots) e, ap (λ x. x.end.names) e, ap (λ x. x.end.heap) e), ap (λ x. x.capacity) e)

-- ---- grants

-- none waits where none is seen to
pub none_waiting : (g : Option Grant) → amount_of g ≡ None → g ≡ None
none_waiting None e = refl
none_waiting (Some g) e = cc

-- ---- two ends meet

pub fits_ends : (o : RingOut Load) (i : RingIn Load) → Fits (out_seen o) (in_seen i) → AreRingEnds o i
fits_ends o i f = named_ends o i f.ring f.initial f.slots

-- what ends show that have met
pub met_seen : (o : RingOut Load) (i : RingIn Load) → RingsHaveMet o i → HaveMet (out_seen o) (in_seen i)
met_seen o i met = record {
  items = sym (map-append content (got i.items) (known_items i.items)) ∙ ap (map content) met.items;
  grants = sym (map-append (λ (g : Grant). g.amount) (got o.back) (known_items o.back)) ∙ ap amounts met.grants;
  free = (let many : length (map content (known_items i.items)) ≡ length (known_items i.items) = length-map (known_items i.items) content in omega (arith, many, met.free));
  room = (let many : length (amounts (known_items o.back)) ≡ length (known_items o.back) = length-map (known_items o.back) (λ (g : Grant). g.amount) in omega (arith, many, met.room));
}

pub meets_seen : (o o' : RingOut Load) (i i' : RingIn Load) → RingMeets o i o' i' → Meets (out_seen o) (in_seen i) (out_seen o') (in_seen i')
meets_seen o o' i i' m = record {
  met = met_seen o' i' m.met;
  put = ap (map content) m.out.2;
  gained = ap amounts m.out.3;
  taken = ap (map content) m.link.1;
  given = λ none. (let s = nothing_sent (sent i.back) (sent i'.back) i.late i'.late (none_waiting i.late none) m.link.3 in (ap amount_of s.1, ap amounts s.0));
  ended = m.out.4;
  out_initial = m.out.5;
  in_initial = m.link.4;
  out_ring = pair_out o o' m.out.0 m.out.1;
  in_ring = pair_in i i' m.link.0 m.link.2;
}

-- ---- a fresh pair

-- nothing is known
pub fresh_known : (initial : ℕ) (o : RingOut Load) (n : RingIn Load) → IsFreshRingPair initial o n → (known_items n.items ≡ []) × (known_items o.back ≡ [])
fresh_known initial o n f = (
  ap (λ xs. xs ++ known_items n.items) (sym f.items.1) ∙ f.met.items ∙ f.items.0,
  ap (λ xs. xs ++ known_items o.back) (sym f.grants.1) ∙ f.met.grants ∙ f.grants.0,
)

-- how many slots they have
pub fresh_wide : (initial : ℕ) (o : RingOut Load) (n : RingIn Load) → IsFreshRingPair initial o n → (out_pair o).slots ≡ initial + 1
fresh_wide initial o n f = f.ends.slots ∙ ap (λ i. i + 1) f.initial

-- what its in end shows
pub fresh_seen : (initial : ℕ) (o : RingOut Load) (n : RingIn Load) → IsFreshRingPair initial o n → in_seen n ≡ fresh_in (out_pair o) initial
fresh_seen initial o n f =
    let k : (known_items n.items ≡ []) × (known_items o.back ≡ []) = fresh_known initial o n f in
    let taken : map content (got n.items) ≡ [] = ap (map content) f.items.1 in
    let items : map content (known_items n.items) ≡ [] = ap (map content) k.0 in
    let given : amounts (sent n.back) ≡ [] = ap amounts f.grants.0 in
    let late : amount_of n.late ≡ None = ap amount_of f.grants.2 in
    let size : n.initial ≡ initial = f.ends.initial ∙ f.initial in
    let many : length (known_items o.back) ≡ 0 = ap length k.1 in
    let free : known_free n.back ≡ initial = omega (arith, f.met.room, many, size) in
    let ring : in_pair n ≡ out_pair o = ends_named o n f.ends in
    cc

-- and its out end
pub fresh_out_seen : (initial : ℕ) (o : RingOut Load) (n : RingIn Load) → IsFreshRingPair initial o n → out_seen o ≡ fresh_out (out_pair o) initial
fresh_out_seen initial o n f =
    let k : (known_items n.items ≡ []) × (known_items o.back ≡ []) = fresh_known initial o n f in
    let put : map content (sent o.items) ≡ [] = ap (map content) f.items.0 in
    let gained : amounts (got o.back) ≡ [] = ap amounts f.grants.1 in
    let back : amounts (known_items o.back) ≡ [] = ap amounts k.1 in
    let size : o.initial ≡ initial = f.initial in
    let many : length (known_items n.items) ≡ 0 = ap length k.0 in
    let free : known_free o.items ≡ initial + 1 = omega (arith, f.met.free, many, size) in
    let open_out : o.ended ≡ false = f.open_out in
    cc
