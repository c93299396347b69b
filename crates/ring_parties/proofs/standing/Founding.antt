-- The members of an opening, made one after another: each sends on a pair of rings of its own, and takes from the pair that was made before.
use Rattle.std.proofs.Common.{◌≡◌, ◌≢◌, ℕ, ◌+◌, ◌<◌, Bool, true, false, cond, nat_eq, List, [], ◌∷◌, ◌++◌, map, sym, ap, ◌∙◌, arith}
use Rattle.std.specs.Prelude.{slice_index_or}
use Rattle.std.specs.List.{range_with_len}
use Rattle.ring_names.specs.declared.numbers.CreditSpec.{CreditSpec}
use Rattle.group_view.specs.Change.{opening as opening_group}
use Rattle.ring_rules.proofs.invariants.Opening.{range_in}
use Rattle.ring_rules.proofs.rings.Rounds.{nat_eq-same, nat_eq-not}
use Rattle.ordered_link.specs.declared.ring.RingOut.{RingOut}
use Rattle.ordered_link.specs.declared.ring.RingIn.{RingIn}
use Rattle.ordered_link.specs.RingSteps.{IsFreshRingPair}
use Rattle.ordered_link.specs.Names.{PairName, out_pair}
use Rattle.activity.specs.declared.packet.Load.{Load}
use Rattle.gm_member.specs.Held.{founded}
use Rattle.ring_parties.specs.declared.party.Party.{Party}
use Rattle.ring_parties.specs.Ends.{OutSeen, InSeen, fresh_out, fresh_in}
use Rattle.ring_parties.specs.Parties.{shown_in, out_seen, in_seen}
use Rattle.ring_parties.specs.Opened.{two_ends, opened_ends, opened_at, AreRings}
use Rattle.ring_parties.proofs.lists.Lists.{grown}
use Rattle.ring_parties.proofs.standing.Writing.{map_agree}
use Rattle.ring_parties.proofs.standing.Rings.{fresh_seen, fresh_out_seen, fresh_wide}

-- ---- pairs of rings by places

-- with this one at a place
abbrev placed : (ℕ → PairName) → ℕ → PairName → ℕ → PairName
placed rings k ring j = cond (nat_eq j k) ring (rings j)

placed_there : (rings : ℕ → PairName) (k : ℕ) (ring : PairName) → placed rings k ring k ≡ ring
placed_there rings k ring = ap (λ b. cond b ring (rings k)) (nat_eq-same k)

placed_else : (rings : ℕ → PairName) (k j : ℕ) (ring : PairName) → j ≢ k → placed rings k ring j ≡ rings j
placed_else rings k j ring ne = ap (λ b. cond b ring (rings j)) (nat_eq-not j k ne)

placed_wide : (rings : ℕ → PairName) (k : ℕ) (ring : PairName) (n : ℕ) → ((j : ℕ) → (rings j).slots ≡ n) → ring.slots ≡ n → (j : ℕ) → (placed rings k ring j).slots ≡ n
placed_wide rings k ring n wide is j = by_test (nat_eq j k)
  where
    by_test : (b : Bool) → (cond b ring (rings j)).slots ≡ n
    by_test true = is
    by_test false = wide j

-- ---- the members

module _ (rings : ℕ → PairName) (credit : CreditSpec) (names : List (List ℕ)) (k : ℕ) where
  -- So many members were made, which show what they are to, and of which the next takes from this end; the last one sends on the first pair.
  pub record AreMade (members : List Party) (last : OutSeen) (link : InSeen) : Type 0 where
    pub wide : (j : ℕ) → (rings j).slots ≡ credit.initial + 1
    pub last_is : last ≡ fresh_out (rings 0) credit.initial
    pub link_is : link ≡ fresh_in (rings k) credit.initial
    pub shown : map shown_in members ≡ map (opened_at rings credit names) (range_with_len 0 k)

  -- the next member, with these ends
  abbrev pub IsNext : Party → OutSeen → InSeen → Type 0
  IsNext party out link = shown_in party ≡ record { held = founded credit (slice_index_or names k []) (k + 1) (opening_group names); ends = two_ends out link }

  module _ (ring : PairName) where
    abbrev then : ℕ → PairName
    then = placed rings (k + 1) ring

    kept : (j : ℕ) → j < k + 1 → then j ≡ rings j
    kept j l = placed_else rings (k + 1) j ring (λ e. omega (arith, e))

    same_at : (j : ℕ) → j < k → opened_at rings credit names j ≡ opened_at then credit names j
    same_at j l =
        ap (λ r. record { held = founded credit (slice_index_or names j []) (j + 1) (opening_group names); ends = opened_ends r (rings j) credit }) (sym (kept (j + 1) (omega arith)))
        ∙ ap (λ r. record { held = founded credit (slice_index_or names j []) (j + 1) (opening_group names); ends = opened_ends (then (j + 1)) r credit }) (sym (kept j (omega arith)))

    is_opened : (party : Party) (out : OutSeen) (link : InSeen) → IsNext party out link → out ≡ fresh_out ring credit.initial → link ≡ fresh_in (rings k) credit.initial → shown_in party ≡ opened_at then credit names k
    is_opened party out link shown out_is link_is =
        shown
        ∙ ap (λ o. record { held = founded credit (slice_index_or names k []) (k + 1) (opening_group names); ends = two_ends o link }) out_is
        ∙ ap (λ n. record { held = founded credit (slice_index_or names k []) (k + 1) (opening_group names); ends = two_ends (fresh_out ring credit.initial) n }) link_is
        ∙ ap (λ r. record { held = founded credit (slice_index_or names k []) (k + 1) (opening_group names); ends = opened_ends r (rings k) credit }) (sym (placed_there rings (k + 1) ring))
        ∙ ap (λ r. record { held = founded credit (slice_index_or names k []) (k + 1) (opening_group names); ends = opened_ends (then (k + 1)) r credit }) (sym (kept k (omega arith)))

    more_shown : (members members' : List Party) (party : Party) (last out : OutSeen) (link : InSeen) → AreMade members last link → members' ≡ members ++ party ∷ [] → IsNext party out link → out ≡ fresh_out ring credit.initial
        → map shown_in members' ≡ map (opened_at then credit names) (range_with_len 0 (k + 1))
    more_shown members members' party last out link m e shown out_is =
        grown shown_in (opened_at then credit names) members members' party k e
        (m.shown ∙ map_agree (opened_at rings credit names) (opened_at then credit names) (range_with_len 0 k) (λ j i. (let r = range_in 0 k j i in let l = r.1 in same_at j (omega (arith, l)))))
        (is_opened party out link shown out_is m.link_is)

-- one more was made
pub made_more : (rings : ℕ → PairName) (credit : CreditSpec) (names : List (List ℕ)) (k : ℕ) (members members' : List Party) (party : Party) (last : OutSeen) (link : InSeen) (out : RingOut Load) (next : RingIn Load)
    → AreMade rings credit names k members last link → IsFreshRingPair credit.initial out next → members' ≡ members ++ party ∷ [] → IsNext rings credit names k party (out_seen out) link
    → (rings' : ℕ → PairName) × AreMade rings' credit names (k + 1) members' last (in_seen next)
made_more rings credit names k members members' party last link out next m f e shown = (
  placed rings (k + 1) (out_pair out),
  record {
    wide = placed_wide rings (k + 1) (out_pair out) (credit.initial + 1) m.wide (fresh_wide credit.initial out next f);
    last_is = m.last_is ∙ ap (λ r. fresh_out r credit.initial) (sym (kept rings credit names k (out_pair out) 0 (omega arith)));
    link_is = fresh_seen credit.initial out next f ∙ ap (λ r. fresh_in r credit.initial) (sym (placed_there rings (k + 1) (out_pair out)));
    shown = more_shown rings credit names k (out_pair out) members members' party last (out_seen out) link m e shown (fresh_out_seen credit.initial out next f);
  },
)

-- and the last one, which sends on the first pair
pub all_made : (rings : ℕ → PairName) (credit : CreditSpec) (names : List (List ℕ)) (k : ℕ) (members members' : List Party) (party : Party) (last : OutSeen) (link : InSeen) (n : ℕ)
    → AreMade rings credit names k members last link → n ≡ k + 1 → members' ≡ members ++ party ∷ [] → IsNext rings credit names k party last link
    → (rings' : ℕ → PairName) × AreRings rings' credit.initial n × (map shown_in members' ≡ map (opened_at rings' credit names) (range_with_len 0 n))
all_made rings credit names k members members' party last link n m is e shown = (
  placed rings (k + 1) (rings 0),
  record {
    wide = placed_wide rings (k + 1) (rings 0) (credit.initial + 1) m.wide (m.wide 0);
    closed = ap (placed rings (k + 1) (rings 0)) is ∙ placed_there rings (k + 1) (rings 0) ∙ sym (kept rings credit names k (rings 0) 0 (omega arith));
  },
  more_shown rings credit names k (rings 0) members members' party last last link m e shown m.last_is ∙ ap (λ c. map (opened_at (placed rings (k + 1) (rings 0)) credit names) (range_with_len 0 c)) (sym is),
)

-- none was made, with the pair that was made first
pub none_made : (credit : CreditSpec) (names : List (List ℕ)) (members : List Party) (last : RingOut Load) (link : RingIn Load) → members ≡ [] → IsFreshRingPair credit.initial last link → (rings : ℕ → PairName) × AreMade rings credit names 0 members (out_seen last) (in_seen link)
none_made credit names members last link none f = (
  (λ _. out_pair last),
  record {
    wide = λ _. fresh_wide credit.initial last link f;
    last_is = fresh_out_seen credit.initial last link f;
    link_is = fresh_seen credit.initial last link f;
    shown = ap (map shown_in) none;
  },
)
