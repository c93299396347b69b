-- What the calls of a member over ring ends show.
use Rattle.std.proofs.Common.{◌≡◌, ℕ, ◌<◌, ◌≤◌, Bool, true, false, List, [], ◌∷◌, map, length, get_or, Option, Some, None, refl, sym, ap, subst, ◌∙◌, ⊎_elim, arith}
use Rattle.std.specs.Prelude.{◌⊎◌, MatchOption, ⊤, option_map}
use Rattle.std.proofs.lemmas.List.{map-append, get_or-map, length-map, append-nil}
use Rattle.ring_names.specs.declared.numbers.Stamp.{Stamp}
use Rattle.ordered_link.specs.declared.grant.Grant.{Grant}
use Rattle.ring_names.specs.declared.reason.Reason.{Reason}
use Rattle.ring_names.specs.declared.reason.Reason.TheVariants.{Stopped, Waiting, AwaitingAnswer, NoOutLink, LinkFull, NoGrant}
use Rattle.ring_rules.specs.declared.phase.Phase.{Phase}
use Rattle.ring_rules.specs.declared.phase.Phase.TheVariants as phase
use Rattle.ring_rules.specs.Refusal.{or_else, refuse_if, is_empty}
use Rattle.ring_rules.specs.Event.{is_stopped}
use Rattle.gm_member.proofs.Calls.{may_send, up_later}
use Rattle.gm_member.proofs.DoorParts.{without_made}
use Rattle.ordered_link.specs.declared.ring.RingOut.{RingOut}
use Rattle.ordered_link.specs.declared.ring.RingIn.{RingIn}
use Rattle.ordered_link.specs.RingSteps.{RingPuts, RingGains}
use Rattle.rtrb.specs.Ring.{sent, received as got, known_items, known_free}
use Rattle.ring_parties.proofs.standing.Rings.{pair_out, out_items_same, out_back_same}
use Rattle.ring_rules.specs.Machine.{runs_phase, is_waiting}
use Rattle.activity.specs.declared.packet.Load.{Load}
use Rattle.gm_member.specs.declared.links.OutLink.{OutLink}
use Rattle.gm_member.specs.declared.links.InLink.{InLink}
use Rattle.activity.specs.Kept.{Kept}
use Rattle.activity.specs.Packets.{PacketSeen}
use Rattle.gm_member.specs.Packets.{packet_by_id}
use Rattle.gm_member.specs.Loads.{as_item}
use Rattle.gm_member.specs.Held.{Held, Outgoing, at_some, up_refused, on_some, put_refused, out_refused, put_held, gain_refused, gained_held, first_at_door, picked_held, without}
use Rattle.gm_member.specs.View.{out_of, end_of}
use Rattle.gm_member.specs.Ends.{EndLooks, IsPutFault}
use Rattle.gm_member.specs.declared.fault.MemberFault.{MemberFault}
use Rattle.gm_member.specs.declared.fault.MemberFault.TheVariants as faults
use Rattle.gm_member.specs.Shown.{held_of, ends_of, PutsOn, LooksOut, NoGrantBack, KeepsGrant, PicksOn}
use Rattle.ring_parties.specs.Ends.{OutSeen, InSeen}
use Rattle.ring_parties.specs.Parties.{ANode, content, amounts, out_seen, in_seen, named_out, named_in, ends_seen, EndsSeen, Shown, shown_of}
use Rattle.ring_parties.specs.Acting.{IsReady, PutsPacket, Gains, Picks, sent_of, grant_refused, back_of, ActsOut}

-- ---- what is seen of a member, part by part

pub ends_same : (a b : EndsSeen) → b.out ≡ a.out → b.returned ≡ a.returned → b.link ≡ a.link → b.door ≡ a.door → b.old_outs ≡ a.old_outs → b.old_ins ≡ a.old_ins → b ≡ a
ends_same a b e1 e2 e3 e4 e5 e6 =
    ap (λ x. record b { out = x }) e1
    ∙ ap (λ x. record b { out = a.out; returned = x }) e2
    ∙ ap (λ x. record b { out = a.out; returned = a.returned; link = x }) e3
    ∙ ap (λ x. record b { out = a.out; returned = a.returned; link = a.link; door = x }) e4
    ∙ ap (λ x. record a { old_outs = x; old_ins = b.old_ins }) e5
    ∙ ap (λ x. record a { old_ins = x }) e6

pub shown_same : (a b : Shown) → b.held ≡ a.held → b.ends ≡ a.ends → b ≡ a
shown_same a b e1 e2 = ap (λ x. record b { held = x }) e1 ∙ ap (λ x. record a { ends = x }) e2

-- the end of a link, and the grant that is kept of it
abbrev pub end_there : Option (OutLink (RingOut Load)) → Option (RingOut Load)
end_there l = at_some l None (λ x. x.end)

abbrev pub returned_there : Option (OutLink (RingOut Load)) → Option Grant
returned_there l = at_some l None (λ x. x.returned)

-- what the end of a link to a member shows
abbrev pub in_there : Option (InLink (RingIn Load)) → Option InSeen
in_there l = option_map in_seen (at_some l None (λ x. x.end))

-- ---- a put

shown_put : (o p : RingOut Load) (k : PacketSeen) → RingPuts o (as_item k) p → ActsOut (Some (sent_of (packet_by_id k)) ∷ []) [] false (out_seen o) (out_seen p)
shown_put o p k e = record {
  put = ap (map content) e.1 ∙ map-append content (sent o.items) (as_item k ∷ []);
  gained = ap (λ v. amounts (got v)) e.3 ∙ sym (append-nil (amounts (got o.back)));
  back = ap (λ v. amounts (known_items v)) e.3;
  initial = e.4;
  ring = pair_out o p e.0 (out_back_same o p e.3);
  ended = e.5;
}

pub puts_shown : (m n : ANode) (stamp : Stamp) → PutsOn RingPuts stamp m n → held_of n ≡ put_held (held_of m) → PutsPacket (shown_of m) (shown_of n)
puts_shown m n stamp (l, l', ml, nl', (k, said, (o, p, lo, lp, puts), stamped), kept, (current, door, old_outs, old_ins)) held = (
  out_of l,
  out_seen o,
  out_seen p,
  ap (option_map out_of) ml,
  ap (option_map out_seen) (ap end_there ml ∙ lo),
  subst (λ s. ActsOut (Some (sent_of s) ∷ []) [] false (out_seen o) (out_seen p)) said (shown_put o p k puts),
  shown_same (record { held = put_held (held_of m); ends = record (ends_seen (ends_of m)) { out = Some (out_seen p) } }) (shown_of n) held
      (ends_same (record (ends_seen (ends_of m)) { out = Some (out_seen p) }) (ends_seen (ends_of n))
      (ap (option_map out_seen) (ap end_there nl' ∙ lp))
      (ap returned_there nl' ∙ kept ∙ sym (ap returned_there ml))
      (ap in_there current) (ap (λ v. map (option_map in_seen) (map end_of v.items)) door) (ap (λ v. map named_out v.items) old_outs) (ap (λ v. map named_in v.items) old_ins)),
)

-- ---- a call that was refused

same_looks : (a b : Option (RingOut Load)) → EndLooks (λ x y. y ≡ x) a b → b ≡ a
same_looks a b looks = ⊎_elim
    (λ (e : b ≡ a). e)
    (λ (x : (o : RingOut Load) × (p : RingOut Load) × (a ≡ Some o) × (b ≡ Some p) × (p ≡ o)). x.3 ∙ ap Some x.4 ∙ sym x.2)
    looks

pub same_out : (m n : ANode) → LooksOut (λ a b. b ≡ a) m n → (end_there n.out ≡ end_there m.out) × (returned_there n.out ≡ returned_there m.out)
same_out m n looks = ⊎_elim
    (λ (e : n.out ≡ m.out). (ap end_there e, ap returned_there e))
    (λ (x : (l : OutLink (RingOut Load)) × (l' : OutLink (RingOut Load)) × (m.out ≡ Some l) × (n.out ≡ Some l') × EndLooks (λ a b. b ≡ a) l.end l'.end × (l'.returned ≡ l.returned)).
    (ap end_there x.3 ∙ same_looks _ _ x.4 ∙ sym (ap end_there x.2), ap returned_there x.3 ∙ x.5 ∙ sym (ap returned_there x.2)))
    looks.1

-- ---- a put that was refused

-- one that isn't refused is up
stopped_runs : (p : Phase) (later : Option Reason) → or_else (refuse_if (is_stopped p) Stopped) later ≡ None → runs_phase p ≡ true
stopped_runs phase.Waiting later e = refl
stopped_runs phase.Up later e = refl
stopped_runs phase.Stopped later e = cc

pub up_runs : (h : Held) (later : Option Reason) → up_refused h later ≡ None → runs_phase h.phase ≡ true
up_runs h later e = stopped_runs h.phase _ e

full_slot : (known : List Kept) (k : Outgoing) (e : Option OutSeen) → out_refused known k ≡ None → MatchOption e ⊥ (λ o. (o.ended ≡ false) × (0 < k.credit.credit → 1 < o.free)) → MatchOption e ⊥ (λ o. o.free ≤ 1) → ⊥
full_slot known k None enabled h full = h
full_slot known k (Some o) enabled h full =
    let some : 0 < k.credit.credit = may_send known k enabled in
    let slot : 1 < o.free = h.1 some in
    omega arith

full_out : (known : List Kept) (o : Option Outgoing) (e : Option OutSeen) → on_some o NoOutLink (out_refused known) ≡ None → MatchOption o ⊤ (λ k. MatchOption e ⊥ (λ o. (o.ended ≡ false) × (0 < k.credit.credit → 1 < o.free))) → MatchOption e ⊥ (λ o. o.free ≤ 1) → ⊥
full_out known None e enabled h full = cc
full_out known (Some k) e enabled h full = full_slot known k e enabled h full

seen_full : (e : Option (RingOut Load)) → MatchOption e ⊥ (λ o. known_free o.items ≤ 1) → MatchOption (option_map out_seen e) ⊥ (λ o. o.free ≤ 1)
seen_full None h = h
seen_full (Some o) h = h

never_full : (m : ANode) (e : Option (RingOut Load)) → IsReady (shown_of m) → e ≡ end_there m.out → put_refused (held_of m) ≡ None → MatchOption e ⊥ (λ o. known_free o.items ≤ 1) → ⊥
never_full m e ready is enabled full =
    full_out (held_of m).known (held_of m).out (option_map out_seen (end_there m.out)) (up_later (held_of m) _ enabled) (ready.out (up_runs (held_of m) _ enabled)) (subst (λ x. MatchOption (option_map out_seen x) ⊥ (λ o. o.free ≤ 1)) is (seen_full e full))

-- why nothing was put
abbrev pub PutFault : ANode → ANode → MemberFault → Type 0
PutFault m n fault =
    ((r : Reason) × (fault ≡ faults.Refused r) × (put_refused (held_of m) ≡ Some r))
    ⊎ ((put_refused (held_of m) ≡ None) × IsPutFault (λ e. known_free e.items) fault (ends_of n).out)

pub put_fault : (m n : ANode) (fault : MemberFault) (r : Reason) → fault ≡ faults.Refused r → IsReady (shown_of m) → LooksOut (λ a b. b ≡ a) m n → PutFault m n fault → put_refused (held_of m) ≡ Some r
put_fault m n fault r is ready looks why = ⊎_elim
    (λ (x : (q : Reason) × (fault ≡ faults.Refused q) × (put_refused (held_of m) ≡ Some q)). cc (x.1, x.2))
    (λ (x : (put_refused (held_of m) ≡ None) × IsPutFault (λ e. known_free e.items) fault (ends_of n).out). absurd (⊎_elim
    (λ (y : fault ≡ faults.OutOfMemory). cc y)
    (λ (y : (fault ≡ faults.Refused LinkFull) × MatchOption (ends_of n).out ⊥ (λ o. known_free o.items ≤ 1)). never_full m (ends_of n).out ready (same_out m n looks).0 x.0 y.1)
    x.1))
    why

-- ---- a grant

-- the grants that an end knows to have come back
abbrev grants : RingOut Load → List Grant
grants e = known_items e.back

grant_by : (b1 b2 b3 : Bool) (o : Option Outgoing) (later : Option Reason) (r : Reason) → or_else (refuse_if b1 Stopped) (or_else (refuse_if b2 Waiting) (or_else (refuse_if b3 AwaitingAnswer) (on_some o NoOutLink (λ _. None)))) ≡ Some r → or_else (refuse_if b1 Stopped) (or_else (refuse_if b2 Waiting) (or_else (refuse_if b3 AwaitingAnswer) (on_some o NoOutLink (λ _. later)))) ≡ Some r
grant_by true b2 b3 o later r e = e
grant_by false true b3 o later r e = e
grant_by false false true o later r e = e
grant_by false false false None later r e = e
grant_by false false false (Some l) later r e = cc

grant_later_by : (b1 b2 b3 : Bool) (o : Option Outgoing) (later : Option Reason) → or_else (refuse_if b1 Stopped) (or_else (refuse_if b2 Waiting) (or_else (refuse_if b3 AwaitingAnswer) (on_some o NoOutLink (λ _. None)))) ≡ None → or_else (refuse_if b1 Stopped) (or_else (refuse_if b2 Waiting) (or_else (refuse_if b3 AwaitingAnswer) (on_some o NoOutLink (λ _. later)))) ≡ later
grant_later_by true b2 b3 o later e = cc
grant_later_by false true b3 o later e = cc
grant_later_by false false true o later e = cc
grant_later_by false false false None later e = cc
grant_later_by false false false (Some l) later e = refl

first_grant : (m : ANode) (r : Reason) → gain_refused (held_of m) ≡ Some r → grant_refused (shown_of m) ≡ Some r
first_grant m r e = grant_by (is_stopped m.phase) (is_waiting m.phase) m.asked (held_of m).out _ r e

later_grant : (m : ANode) → gain_refused (held_of m) ≡ None → grant_refused (shown_of m) ≡ refuse_if (is_empty (back_of (option_map out_seen (end_there m.out)))) NoGrant
later_grant m e = grant_later_by (is_stopped m.phase) (is_waiting m.phase) m.asked (held_of m).out _ e

-- none has come back
none_back_end : (e : Option (RingOut Load)) → MatchOption e ⊤ (λ o. grants o ≡ []) → refuse_if (is_empty (back_of (option_map out_seen e))) NoGrant ≡ Some NoGrant
none_back_end None h = refl
none_back_end (Some o) h = ap (λ gs. refuse_if (is_empty (amounts gs)) NoGrant) h

none_back : (l : Option (OutLink (RingOut Load))) → MatchOption l ⊤ (λ x. (x.returned ≡ None) × MatchOption x.end ⊤ (λ o. grants o ≡ [])) → refuse_if (is_empty (back_of (option_map out_seen (end_there l)))) NoGrant ≡ Some NoGrant
none_back None h = refl
none_back (Some l) h = none_back_end l.end h.1

-- why no grant was gained
abbrev pub GainRefusal : ANode → ANode → Reason → Type 0
GainRefusal m n r = (gain_refused (held_of m) ≡ Some r) ⊎ ((r ≡ NoGrant) × (gain_refused (held_of m) ≡ None) × NoGrantBack grants n)

pub gain_refusal : (m n : ANode) (r : Reason) → LooksOut (λ a b. b ≡ a) m n → GainRefusal m n r → grant_refused (shown_of m) ≡ Some r
gain_refusal m n r looks why = ⊎_elim
    (λ (x : gain_refused (held_of m) ≡ Some r). first_grant m r x)
    (λ (x : (r ≡ NoGrant) × (gain_refused (held_of m) ≡ None) × NoGrantBack grants n).
    later_grant m x.1 ∙ ap (λ e. refuse_if (is_empty (back_of (option_map out_seen e))) NoGrant) (sym (same_out m n looks).0) ∙ none_back n.out x.2 ∙ ap Some (sym x.0))
    why

-- the grant is gone from the end
shown_gain : (o p : RingOut Load) (grant : Grant) → RingGains o grant p → ActsOut [] (grant.amount ∷ []) o.ended (out_seen o) (out_seen p)
shown_gain o p grant e = record {
  put = ap (λ v. map content (sent v)) e.0 ∙ sym (append-nil (map content (sent o.items)));
  gained = ap amounts e.2 ∙ map-append (λ (g : Grant). g.amount) (got o.back) (grant ∷ []);
  back = sym (ap amounts e.3);
  initial = e.4;
  ring = pair_out o p (out_items_same o p e.0) e.1;
  ended = e.5;
}

-- m looked and is n, which keeps the grant as p, which gained it as q
pub gain_shown : (m n p q : ANode) (grant : Grant) → IsReady (shown_of m) → LooksOut (λ a b. b ≡ a) m n → KeepsGrant RingGains grant n p → held_of n ≡ held_of m → held_of p ≡ held_of n → held_of q ≡ gained_held (held_of p) grant.amount → ends_of q ≡ record (ends_of p) { returned = None } → Gains (shown_of m) (shown_of q)
gain_shown m n p q grant ready looks ((current, door, old_outs, old_ins), l, l', nl, pl, kept, how) hn hp hq ends =
    let e : (end_there n.out ≡ end_there m.out) × (returned_there n.out ≡ returned_there m.out) = same_out m n looks in
    let none : l.returned ≡ None = sym (ap returned_there nl) ∙ e.1 ∙ ready.returned in
    ⊎_elim
    (λ (x : (l.returned ≡ Some grant) × (l'.end ≡ l.end)). absurd (cc (x.0, none)))
    (λ (x : (l.returned ≡ None) × (o : RingOut Load) × (r : RingOut Load) × (l.end ≡ Some o) × (l'.end ≡ Some r) × RingGains o grant r). (
      grant.amount,
      out_seen x.1,
      out_seen x.2,
      ap (option_map out_seen) (sym e.0 ∙ ap end_there nl ∙ x.3),
      shown_gain x.1 x.2 grant x.5,
      shown_same (record { held = gained_held (held_of m) grant.amount; ends = record (ends_seen (ends_of m)) { out = Some (out_seen x.2) } }) (shown_of q) (hq ∙ ap (λ h. gained_held h grant.amount) (hp ∙ hn))
          (ap ends_seen ends ∙ ends_same (record (ends_seen (ends_of m)) { out = Some (out_seen x.2) }) (ends_seen (record (ends_of p) { returned = None }))
          (ap (option_map out_seen) (ap end_there pl ∙ x.4)) (sym ready.returned)
          (ap in_there (current ∙ looks.0.0)) (ap (λ v. map (option_map in_seen) (map end_of v.items)) (door ∙ looks.0.1)) (ap (λ v. map named_out v.items) (old_outs ∙ looks.0.2)) (ap (λ v. map named_in v.items) (old_ins ∙ looks.0.3))),
    ))
    how

-- ---- a pick

-- what stands at a place of a list and of what is made of it
picked_end : (xs : List (InLink (RingIn Load))) (i : ℕ) (l : InLink (RingIn Load)) → i < length xs → l ≡ get_or xs i l → option_map in_seen l.end ≡ get_or (map (option_map in_seen) (map end_of xs)) i None
picked_end xs i l within is =
    let shorter : i < length (map end_of xs) = rw length-map within in
    sym (get_or-map (option_map in_seen) (map end_of xs) i None None shorter ∙ ap (option_map in_seen) (get_or-map end_of xs i l None within ∙ ap end_of (sym is)))

picked_current : (xs : List (InLink (RingIn Load))) (i : ℕ) (c : Option (InLink (RingIn Load))) → i < length xs → MatchOption c ⊥ (λ l. l ≡ get_or xs i l) → in_there c ≡ get_or (map (option_map in_seen) (map end_of xs)) i None
picked_current xs i None within is = absurd is
picked_current xs i (Some l) within is = picked_end xs i l within is

pub picks_shown : (m n : ANode) (i : ℕ) → first_at_door (held_of m) ≡ Some i → PicksOn i m n → held_of n ≡ picked_held (held_of m) → Picks (shown_of m) (shown_of n)
picks_shown m n i first (within, current, door, out, old_outs, old_ins) held =
    let doors : List (Option InSeen) = map (option_map in_seen) (map end_of m.door.items) in (
      i,
      first,
      shown_same (record { held = picked_held (held_of m); ends = record (ends_seen (ends_of m)) { link = get_or doors i None; door = without i doors } }) (shown_of n) held
          (ends_same (record (ends_seen (ends_of m)) { link = get_or doors i None; door = without i doors }) (ends_seen (ends_of n))
          (ap (λ l. option_map out_seen (end_there l)) out) (ap returned_there out)
          (picked_current m.door.items i n.current within current)
          (ap (λ xs. map (option_map in_seen) (map end_of xs)) door ∙ ap (map (option_map in_seen)) (sym (without_made end_of i m.door.items)) ∙ sym (without_made (option_map in_seen) i (map end_of m.door.items)))
          (ap (λ v. map named_out v.items) old_outs) (ap (λ v. map named_in v.items) old_ins)),
    )
