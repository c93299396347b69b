-- A member over ring ends that has another view, by what it shows.
use Rattle.std.proofs.Common.{◌≡◌, ℕ, Bool, true, false, List, [], ◌∷◌, ◌++◌, ◌+◌, length, map, Option, Some, None, refl, sym, ap, subst, ◌∙◌, arith}
use Rattle.std.specs.Prelude.{option_map, not}
use Rattle.std.specs.List.{filter}
use Rattle.std.proofs.lemmas.List.{map-append}
use Rattle.ring_names.specs.declared.numbers.MemberId.{MemberId}
use Rattle.ring_names.specs.declared.numbers.Stamp.{Stamp}
use Rattle.group_view.specs.declared.link.LinkName.{LinkName}
use Rattle.group_view.specs.declared.link.LinkKind.TheVariants.{Ring}
use Rattle.group_view.specs.declared.request.Request.{Request}
use Rattle.group_view.specs.View.{Group, as_id}
use Rattle.ordered_link.specs.declared.item.EndReason.TheVariants.{Moved}
use Rattle.ordered_link.specs.declared.item.Item.TheVariants as item
use Rattle.ordered_link.specs.declared.ring.RingOut.{RingOut}
use Rattle.ordered_link.specs.declared.ring.RingIn.{RingIn}
use Rattle.ordered_link.specs.RingSteps.{RingPuts, IsFreshRingPair}
use Rattle.rtrb.specs.Ring.{sent, received as got, known_items, known_free}
use Rattle.std.proofs.lemmas.List.{append-nil}
use Rattle.ordered_link.specs.Names.{PairName, out_pair}
use Rattle.ring_parties.proofs.standing.Rings.{pair_out, out_back_same, fresh_known, fresh_wide, fresh_seen}
use Rattle.ring_rules.specs.View.{right_of}
use Rattle.activity.specs.declared.packet.Load.{Load}
use Rattle.gm_member.specs.declared.links.OutLink.{OutLink}
use Rattle.gm_member.specs.declared.links.InLink.{InLink}
use Rattle.activity.specs.Packets.{PacketSeen}
use Rattle.gm_member.specs.Packets.{packet_by_id}
use Rattle.gm_member.specs.Loads.{as_item}
use Rattle.gm_member.specs.View.{out_of, in_of, end_of, ring_link, kept_link, stays_at}
use Rattle.gm_member.specs.Held.{at_some, refreshed_held, sends_to, stays, is_for}
use Rattle.gm_member.specs.Ends.{Replaces}
use Rattle.gm_member.specs.Shown.{When, held_of, LooksBy, MovesTo, SendsOn, StaysOn}
use Rattle.ring_parties.specs.Ends.{OutSeen, opened_out, fresh_in}
use Rattle.ring_parties.specs.Parties.{ANode, content, amounts, out_seen, in_seen, named_out, Shown, shown_of}
use Rattle.ring_parties.specs.Acting.{IsReady, Looks, Replacing, looked_ends, kept_end, beside, first_sent, sent_of, ActsOut}
use Rattle.ring_parties.specs.Looking.{first_of, to_deposit, tidied}
use Rattle.ring_parties.proofs.lists.Lists.{some_injective}
use Rattle.ring_parties.proofs.standing.Shown.{ends_same, shown_same}

-- ---- the links to the member

-- the ends of those that stay at its door
door_more : (v : Group) (x : ℕ) (l : InLink (RingIn Load)) (ls : List (InLink (RingIn Load))) (b : Bool) → stays_at v x l ≡ b → map (option_map in_seen) (map end_of (filter (stays_at v x) ls)) ≡ beside (stays v x) (map in_of ls) (map (option_map in_seen) (map end_of ls))
    → map (option_map in_seen) (map end_of (filter (stays_at v x) (l ∷ ls))) ≡ beside (stays v x) (map in_of (l ∷ ls)) (map (option_map in_seen) (map end_of (l ∷ ls)))
door_more v x l ls true e h = rw (e, h) refl
door_more v x l ls false e h = rw (e, h) refl

door_beside : (v : Group) (x : ℕ) (ls : List (InLink (RingIn Load))) → map (option_map in_seen) (map end_of (filter (stays_at v x) ls)) ≡ beside (stays v x) (map in_of ls) (map (option_map in_seen) (map end_of ls))
door_beside v x [] = refl
door_beside v x (l ∷ ls) = door_more v x l ls (stays_at v x l) refl (door_beside v x ls)

-- the end of the one from which it takes
link_kept : (v : Group) (x : ℕ) (l : Option (InLink (RingIn Load))) → option_map in_seen (at_some (kept_link v x l) None (λ k. k.end)) ≡ kept_end v x (option_map in_of l) (option_map in_seen (at_some l None (λ k. k.end)))
link_kept v x None = refl
link_kept v x (Some l) = by_test (is_for v x (in_of l)) refl
  where
    by_test : (b : Bool) → is_for v x (in_of l) ≡ b → option_map in_seen (at_some (kept_link v x (Some l)) None (λ k. k.end)) ≡ kept_end v x (Some (in_of l)) (option_map in_seen l.end)
    by_test true e = rw e refl
    by_test false e = rw e refl

-- ---- the link on which it sends

-- the out end of a new link, with its first packet
opened_seen : (initial : ℕ) (k : PacketSeen) (o e : RingOut Load) (n : RingIn Load) → IsFreshRingPair initial o n → RingPuts o (as_item k) e → out_seen e ≡ opened_out (out_pair o) initial (sent_of (packet_by_id k))
opened_seen initial k o e n f p =
    let known : (known_items n.items ≡ []) × (known_items o.back ≡ []) = fresh_known initial o n f in
    let put : map content (sent e.items) ≡ Some (sent_of (packet_by_id k)) ∷ [] = ap (map content) p.1 ∙ ap (λ xs. map content (xs ++ as_item k ∷ [])) f.items.0 in
    let gained : amounts (got e.back) ≡ [] = ap (λ b. amounts (got b)) p.3 ∙ ap amounts f.grants.1 in
    let back : amounts (known_items e.back) ≡ [] = ap (λ b. amounts (known_items b)) p.3 ∙ ap amounts known.1 in
    let size : e.initial ≡ initial = p.4 ∙ f.initial in
    let many : length (known_items n.items) ≡ 0 = ap length known.0 in
    let free : known_free e.items ≡ initial = omega (arith, p.2, f.met.free, f.initial, many) in
    let open_out : e.ended ≡ false = p.5 in
    let ring : out_pair e ≡ out_pair o = pair_out o e p.0 (out_back_same o e p.3) in
    cc

-- the out end of the old one
ended_seen : (o p : RingOut Load) (stamp : Stamp) → RingPuts o (item.End Moved stamp) p → ActsOut (None ∷ []) [] true (out_seen o) (out_seen p)
ended_seen o p stamp g = record {
  put = ap (map content) g.1 ∙ map-append content (sent o.items) (item.End Moved stamp ∷ []);
  gained = ap (λ b. amounts (got b)) g.3 ∙ sym (append-nil (amounts (got o.back)));
  back = ap (λ b. amounts (known_items b)) g.3;
  initial = g.4;
  ring = pair_out o p g.0 (out_back_same o p g.3);
  ended = g.5;
}

-- one that is replaced
replacing_one : (x : ℕ) (l : OutLink (RingOut Load)) (old old' : List (LinkName × RingOut Load)) (o p q : RingOut Load) (stamp : Stamp) → map named_out old ≡ [] → l.end ≡ Some o → q ≡ p → RingPuts o (item.End Moved stamp) p → old' ≡ old ++ (ring_link x l.to.0 l.opened, q) ∷ []
    → Replacing x (Some (out_of l)) (option_map out_seen l.end) (first_of (map named_out old'))
replacing_one x l old old' o p q stamp none at new puts is =
    let first : map named_out old' ≡ (ring_link x l.to.0 l.opened, out_seen q) ∷ [] =
    ap (map named_out) is ∙ map-append named_out old ((ring_link x l.to.0 l.opened, q) ∷ []) ∙ ap (λ xs. xs ++ (ring_link x l.to.0 l.opened, out_seen q) ∷ []) none in
    subst (λ e. Replacing x (Some (out_of l)) (option_map out_seen e) (first_of (map named_out old'))) (sym at)
    (out_seen p, ended_seen o p stamp puts, ap first_of first ∙ ap (λ k. Some (ring_link x l.to.0 l.opened, out_seen k)) new)

replacing : (x : ℕ) (l : Option (OutLink (RingOut Load))) (old old' : List (LinkName × RingOut Load)) → map named_out old ≡ [] → Replaces RingPuts x l old old' → Replacing x (option_map out_of l) (option_map out_seen (at_some l None (λ k. k.end))) (first_of (map named_out old'))
replacing x None old old' none r = ap first_of (ap (map named_out) r ∙ none)
replacing x (Some l) old old' none (q, stamp, (o, p, at, is, puts), old_is) = replacing_one x l old old' o p q stamp none at (some_injective q p is) puts old_is

-- ---- the member

-- the ends that stay, and an out end
ends_looked : (m n : ANode) (v : Group) (out : Option OutSeen) → IsReady (shown_of m) → LooksBy v m n → (shown_of n).ends.out ≡ out → (shown_of n).ends.returned ≡ None → (tidied (shown_of n)).ends ≡ record (looked_ends v (shown_of m)) { out = out }
ends_looked m n v out ready by eo ek = ends_same (record (looked_ends v (shown_of m)) { out = out }) (tidied (shown_of n)).ends
    eo
    (ek ∙ sym ready.returned)
    (ap (λ l. option_map in_seen (at_some l None (λ k. k.end))) by.current ∙ link_kept v m.id.0 m.current)
    (ap (λ ls. map (option_map in_seen) (map end_of ls)) by.door ∙ door_beside v m.id.0 m.door.items)
    (sym ready.old_outs)
    (sym ready.old_ins)

-- a member whose question is open, or not
abbrev pub asking_as : Bool → ANode → Shown
asking_as asks m = record (shown_of m) { held = record (held_of m) { asks = asks } }

-- on a new link, of these rings
goes_on : (asks : Bool) (m n : ANode) (v : Group) (requests : List (Request (RingIn Load))) (ring : PairName) (to : MemberId) → to.0 ≡ right_of v m.id.0 → (s : SendsOn IsFreshRingPair (λ e. known_free e.items) (λ e. e.ended) RingPuts v.version to m n requests)
    → IsReady (shown_of m) → held_of n ≡ refreshed_held (asking_as asks m).held v → LooksBy v m n → out_seen s.opens.end ≡ opened_out ring m.credit.initial (first_sent (asking_as asks m) v) → in_seen s.spare.link ≡ fresh_in ring m.credit.initial
    → (tidied (shown_of n) ≡ record { held = refreshed_held (asking_as asks m).held v; ends = record (looked_ends v (asking_as asks m)) { out = Some (opened_out ring m.credit.initial (first_sent (asking_as asks m) v)) } })
    × (to_deposit requests ≡ Some (record { name = ring_link m.id.0 (right_of v m.id.0) v.version; end = Some (fresh_in ring m.credit.initial) }))
    × Replacing m.id.0 (held_of m).out (shown_of m).ends.out (first_of (shown_of n).ends.old_outs)
goes_on asks m n v requests ring to to_is s ready held by opened fresh =
    let out : (shown_of n).ends.out ≡ Some (opened_out ring m.credit.initial (first_sent (asking_as asks m) v)) =
    ap (λ l. option_map out_seen (at_some l None (λ k. k.end))) s.out ∙ ap (option_map out_seen) s.opens.there ∙ ap Some opened in
    let kept : (shown_of n).ends.returned ≡ None = ap (λ l. at_some l None (λ k. k.returned)) s.out ∙ s.opens.returned in (
      shown_same (record { held = refreshed_held (asking_as asks m).held v; ends = record (looked_ends v (asking_as asks m)) { out = Some (opened_out ring m.credit.initial (first_sent (asking_as asks m) v)) } }) (tidied (shown_of n)) held
          (ends_looked m n v (Some (opened_out ring m.credit.initial (first_sent (asking_as asks m) v))) ready by out kept),
      ap to_deposit s.opens.deposit ∙ ap (λ i. Some (record { name = record { from = m.id; to = i; view = v.version; kind = Ring }; end = Some (in_seen s.spare.link) })) (ap as_id to_is)
          ∙ ap (λ e. Some (record { name = ring_link m.id.0 (right_of v m.id.0) v.version; end = Some e })) fresh,
      replacing m.id.0 m.out m.old_outs.items n.old_outs.items ready.old_outs s.old_outs,
    )

-- what its out end shows
first_opened : (asks : Bool) (m n : ANode) (v : Group) (requests : List (Request (RingIn Load))) (to : MemberId) → (s : SendsOn IsFreshRingPair (λ e. known_free e.items) (λ e. e.ended) RingPuts v.version to m n requests)
    → out_seen s.opens.end ≡ opened_out (out_pair s.spare.out) m.credit.initial (first_sent (asking_as asks m) v)
first_opened asks m n v requests to s =
    opened_seen m.credit.initial s.opens.packet.0 s.spare.out s.opens.end s.spare.link s.ready.fresh s.opens.packet.2
    ∙ ap (λ k. opened_out (out_pair s.spare.out) m.credit.initial (sent_of k)) s.opens.packet.1

pub looks_asked : (asks : Bool) (m n : ANode) (v : Group) (requests : List (Request (RingIn Load))) → IsReady (shown_of m) → held_of n ≡ refreshed_held (asking_as asks m).held v → LooksBy v m n → MovesTo IsFreshRingPair (λ e. known_free e.items) (λ e. e.ended) RingPuts v m n requests
    → Looks v (asking_as asks m) (tidied (shown_of n)) (to_deposit requests) (first_of (shown_of n).ends.old_outs)
looks_asked asks m n v requests ready held by moves = (stay (sends_to (held_of m).out (right_of v m.id.0)) refl, go (sends_to (held_of m).out (right_of v m.id.0)) refl)
  where
    stay : (b : Bool) → sends_to (held_of m).out (right_of v m.id.0) ≡ b
        → When b ((tidied (shown_of n) ≡ record { held = refreshed_held (asking_as asks m).held v; ends = looked_ends v (asking_as asks m) }) × (to_deposit requests ≡ None) × (first_of (shown_of n).ends.old_outs ≡ None))
    stay false e = tt
    stay true e =
        let s : StaysOn m n requests = subst (λ b. When b (StaysOn m n requests)) e moves.0 in
        let out : (shown_of n).ends.out ≡ (shown_of m).ends.out = ap (λ l. option_map out_seen (at_some l None (λ k. k.end))) s.out in
        let kept : (shown_of n).ends.returned ≡ None = ap (λ l. at_some l None (λ k. k.returned)) s.out ∙ ready.returned in (
          shown_same (record { held = refreshed_held (asking_as asks m).held v; ends = looked_ends v (asking_as asks m) }) (tidied (shown_of n)) held (ends_looked m n v (shown_of m).ends.out ready by out kept),
          ap to_deposit s.requests_none,
          ap first_of (ap (λ old. map named_out old.items) s.old_outs ∙ ready.old_outs),
        )

    go : (b : Bool) → sends_to (held_of m).out (right_of v m.id.0) ≡ b
        → When (not b) ((ring : PairName) × (ring.slots ≡ m.credit.initial + 1) × (tidied (shown_of n) ≡ record { held = refreshed_held (asking_as asks m).held v; ends = record (looked_ends v (asking_as asks m)) { out = Some (opened_out ring m.credit.initial (first_sent (asking_as asks m) v)) } })
        × (to_deposit requests ≡ Some (record { name = ring_link m.id.0 (right_of v m.id.0) v.version; end = Some (fresh_in ring m.credit.initial) }))
        × Replacing m.id.0 (held_of m).out (shown_of m).ends.out (first_of (shown_of n).ends.old_outs))
    go true e = tt
    go false e =
        let moved : (to : MemberId) × (to.0 ≡ right_of v m.id.0) × SendsOn IsFreshRingPair (λ e. known_free e.items) (λ e. e.ended) RingPuts v.version to m n requests =
        subst (λ b. When (not b) ((to : MemberId) × (to.0 ≡ right_of v m.id.0) × SendsOn IsFreshRingPair (λ e. known_free e.items) (λ e. e.ended) RingPuts v.version to m n requests)) e moves.1 in
        let to : MemberId = moved.0 in
        let s : SendsOn IsFreshRingPair (λ e. known_free e.items) (λ e. e.ended) RingPuts v.version to m n requests = moved.2 in
        let g = goes_on asks m n v requests (out_pair s.spare.out) to moved.1 s ready held by (first_opened asks m n v requests to s) (fresh_seen m.credit.initial s.spare.out s.spare.link s.ready.fresh) in
        (out_pair s.spare.out, fresh_wide m.credit.initial s.spare.out s.spare.link s.ready.fresh, g.0, g.1, g.2)

-- of a member without a question
pub looks_shown : (m n : ANode) (v : Group) (requests : List (Request (RingIn Load))) → IsReady (shown_of m) → held_of n ≡ refreshed_held (held_of m) v → LooksBy v m n → MovesTo IsFreshRingPair (λ e. known_free e.items) (λ e. e.ended) RingPuts v m n requests
    → Looks v (shown_of m) (tidied (shown_of n)) (to_deposit requests) (first_of (shown_of n).ends.old_outs)
looks_shown m n v requests ready held by moves = looks_asked m.asked m n v requests ready held by moves
