-- What the calls show by which a member over ring ends takes from a link.
use Rattle.std.proofs.Common.{◌≡◌, ℕ, ◌+◌, ◌<◌, ◌≤◌, Bool, true, false, List, [], ◌∷◌, map, length, Option, Some, None, refl, sym, ap, subst, ◌∙◌, ⊎_elim, arith}
use Rattle.std.specs.Prelude.{◌⊎◌, Result, Ok, Err, MatchOption, ⊤, option_map, nat_lt, nat_le, nat_eq, cond, not, ◌&&◌}
use Rattle.lamport_merge.specs.Recorder.{Recorded, is_late}
use Rattle.std.specs.Result.{IsErrAnd}
use Rattle.std.proofs.lemmas.Bool.Decides.{nat_tests}
use mathlib.Core.List.{IsPrefix}
use Rattle.ring_names.specs.declared.numbers.Stamp.{Stamp}
use Rattle.ordered_link.specs.declared.grant.Grant.{Grant}
use Rattle.ring_names.specs.declared.reason.Reason.{Reason}
use Rattle.ring_names.specs.declared.reason.Reason.TheVariants.{Stopped, AwaitingAnswer, NoCurrentLink, NothingToTake, EndNext, PacketNext, ViewTooOld}
use Rattle.credit_flow.specs.Credit.{grant_due}
use Rattle.credit_flow.specs.Link.{with_grant}
use Rattle.ordered_link.specs.declared.item.EndReason.{EndReason}
use Rattle.ordered_link.specs.declared.item.Item.{Item}
use Rattle.ordered_link.specs.declared.item.Item.TheVariants as item
use Rattle.ordered_link.specs.declared.ring.RingIn.{RingIn}
use Rattle.ordered_link.specs.RingSteps.{RingTakes, RingSends, RingWaited}
use Rattle.rtrb.specs.Ring.{sent, received as got, known_items, known_free, SameProducer}
use Rattle.std.specs.Prelude.{◌++◌}
use Rattle.std.proofs.lemmas.List.{map-append, length-map}
use Rattle.ordered_link.specs.Names.{in_pair}
use Rattle.ring_parties.proofs.standing.Rings.{pair_in, in_items_same, none_waiting}
use Rattle.ring_rules.specs.Refusal.{or_else, refuse_if}
use Rattle.ring_rules.specs.Event.{is_stopped, version_refusal}
use Rattle.gm_member.specs.declared.fault.MemberFault.{MemberFault}
use Rattle.gm_member.specs.declared.fault.MemberFault.TheVariants as faults
use Rattle.gm_member.specs.Faults.{refused_as}
use Rattle.activity.specs.declared.packet.Load.{Load}
use Rattle.gm_member.specs.declared.links.InLink.{InLink}
use Rattle.activity.specs.Packets.{PacketSeen}
use Rattle.gm_member.specs.declared.taken.Taken.{Taken}
use Rattle.gm_member.specs.News.{news_of}
use Rattle.gm_member.specs.Packets.{PacketById, packet_by_id}
use Rattle.gm_member.specs.Loads.{as_item, packet_seen, NoneIsDue, GrantsIf}
use Rattle.gm_member.specs.Held.{Held, Incoming, at_some, on_some, take_refused, took_held}
use Rattle.gm_member.specs.View.{in_of, end_of}
use Rattle.gm_member.specs.Ends.{EndLooks, NothingIsNext, EndIsNext, PacketIsNext, IsTakeRefusal, IsEndRefusal, IsTakeFault}
use Rattle.gm_member.specs.Shown.{held_of, ends_of, recorded_of, LooksIn, TookOn, SameOut}
use Rattle.ring_rules.proofs.rests.Asked.{no_version}
use Rattle.ring_parties.specs.Ends.{PacketShown, InSeen}
use Rattle.ring_parties.specs.Keeps.{own_known, round_first, round_next, ops_taken, ops_first, ops_next, messages_on}
use Rattle.ring_parties.proofs.keeping.Coming.{news_few}
use Rattle.ring_parties.specs.Parties.{ANode, Shown, content, amounts, amount_of, out_seen, in_seen, named_out, named_in, ends_seen, shown_of}
use Rattle.ring_parties.specs.Acting.{IsReady, TakesIn, TakesPacket, sent_of, due_of, items_refused, end_refused, first_item, packet_refused, link_end_refused}
use Rattle.ring_rules.specs.declared.refused.Refused.{Refused}
use Rattle.ring_rules.specs.declared.refused.Refused.TheVariants.{NotEnabled}
use Rattle.ring_parties.specs.Tried.{IsJudged, Tries}
use Rattle.ring_parties.proofs.lists.Grants.{nothing_sent, granted}
use Rattle.ring_parties.proofs.standing.Shown.{end_there, returned_there, in_there, ends_same, shown_same}

-- ---- a packet that was taken

shown_take : (due : Option ℕ) (stamp : Stamp) (k : PacketSeen) (i j a b : RingIn Load) → i.late ≡ None → ((q : PacketShown) (rest : List (Option PacketShown)) → (in_seen i).items ≡ Some q ∷ rest → 0 < known_free i.back) → RingWaited i j → RingTakes j (as_item k) a → GrantsIf due stamp RingSends a b → TakesIn due (in_seen i) (sent_of (packet_by_id k)) (in_seen b)
shown_take due stamp k i j a b late room looked takes grants =
    let first : (sent j.back ≡ sent i.back) × (j.late ≡ None) = nothing_sent (sent i.back) (sent j.back) i.late j.late late looked.1.1 in
    let second : (sent a.back ≡ sent j.back) × (a.late ≡ None) = nothing_sent (sent j.back) (sent a.back) j.late a.late first.1 takes.3.1 in
    let all : known_items i.items ≡ as_item k ∷ known_items a.items = sym (ap (λ v. known_items v) looked.0) ∙ takes.2 in
    let given : sent a.back ≡ sent i.back = second.0 ∙ first.0 in
    let slots : length (sent a.back) + known_free a.back ≡ length (sent i.back) + known_free i.back = takes.3.2 ∙ looked.1.2 in
    let free : 0 < known_free a.back =
    let l : 0 < known_free i.back = room (sent_of (packet_by_id k)) (map content (known_items a.items)) (ap (map content) all) in
    let n : length (sent a.back) ≡ length (sent i.back) = ap length given in
    omega arith in
    let last : (b.items ≡ a.items) × (amounts (sent b.back) ≡ with_grant (amounts (sent a.back)) due) × (b.late ≡ None) × (length (sent b.back) + known_free b.back ≡ length (sent a.back) + known_free a.back) × (b.initial ≡ a.initial) × SameProducer a.back b.back = granted due stamp a b free second.1 grants in
    let many : length (amounts (sent b.back)) ≡ length (sent b.back) = length-map (sent b.back) (λ (g : Grant). g.amount) in
    let before : length (amounts (sent i.back)) ≡ length (sent i.back) = length-map (sent i.back) (λ (g : Grant). g.amount) in
    record {
      taken =
          ap (λ v. map content (got v)) last.0 ∙ ap (map content) takes.1 ∙ map-append content (got j.items) (as_item k ∷ [])
          ∙ ap (λ v. map content (got v) ++ Some (sent_of (packet_by_id k)) ∷ []) looked.0;
      items = ap (map content) all ∙ ap (λ v. Some (sent_of (packet_by_id k)) ∷ map content (known_items v)) (sym last.0);
      given = last.1 ∙ ap (λ xs. with_grant (amounts xs) due) given;
      late = ap amount_of last.2;
      room = omega (arith, last.3, slots, many, before);
      initial = last.4 ∙ takes.3.3 ∙ looked.1.3;
      ring = pair_in a b (in_items_same a b last.0) last.5 ∙ pair_in j a takes.0 takes.3.0 ∙ pair_in i j (in_items_same i j looked.0) looked.1.0;
    }

-- what a member has that takes from this end
abbrev IsReadyIn : InSeen → Type 0
IsReadyIn n = (n.late ≡ None) × ((k : PacketShown) (rest : List (Option PacketShown)) → n.items ≡ Some k ∷ rest → 0 < n.free)

pub ready_in : (m : ANode) (l : InLink (RingIn Load)) (i : RingIn Load) → m.current ≡ Some l → l.end ≡ Some i → IsReady (shown_of m) → IsReadyIn (in_seen i)
ready_in m l i ml li ready =
    let f : (c : Option (InLink (RingIn Load))) → c ≡ Some l → MatchOption (option_map in_of c) ⊤ (λ _. MatchOption (in_there c) ⊥ IsReadyIn) → MatchOption (in_there (Some l)) ⊥ IsReadyIn = λ (c : Option (InLink (RingIn Load))) (e : c ≡ Some l) h. subst (λ x. MatchOption (option_map in_of x) ⊤ (λ _. MatchOption (in_there x) ⊥ IsReadyIn)) e h in
    subst (λ x. MatchOption (option_map in_seen x) ⊥ IsReadyIn) li (f m.current ml ready.link)

in_is : (m : ANode) (l : InLink (RingIn Load)) (i : RingIn Load) → m.current ≡ Some l → l.end ≡ Some i → in_there m.current ≡ Some (in_seen i)
in_is m l i ml li = ap in_there ml ∙ ap (option_map in_seen) li

-- the member with another end of the link from which it takes
with_link : (m n : ANode) (i : Option InSeen) → in_there n.current ≡ i → SameOut m n → ends_seen (ends_of n) ≡ record (ends_seen (ends_of m)) { link = i }
with_link m n i is (out, door, old_outs, old_ins) =
    ends_same (record (ends_seen (ends_of m)) { link = i }) (ends_seen (ends_of n)) (ap (λ x. option_map out_seen (end_there x)) out) (ap returned_there out) is
    (ap (λ v. map (option_map in_seen) (map end_of v.items)) door) (ap (λ v. map named_out v.items) old_outs) (ap (λ v. map named_in v.items) old_ins)

pub takes_shown : (m n : ANode) (stamp : Stamp) (k : PacketSeen) → IsReady (shown_of m) → TookOn (λ e. e.late) RingTakes RingWaited RingSends stamp k m n → held_of n ≡ took_held (held_of m) (packet_by_id k) → TakesPacket (shown_of m) (shown_of n)
takes_shown m n stamp k ready (l, l', ml, nl, (i, j, a, b, li, looked, takes, waits, grants, lb), same) held =
    let h : IsReadyIn (in_seen i) = ready_in m l i ml li ready in
    let due : due_of (held_of m) ≡ grant_due l.counted = ap (λ c. at_some (option_map in_of c) None (λ x. grant_due x.counted)) ml in (
      packet_by_id k,
      in_seen i,
      in_seen b,
      in_is m l i ml li,
      subst (λ d. TakesIn d (in_seen i) (sent_of (packet_by_id k)) (in_seen b)) (sym due) (shown_take (grant_due l.counted) stamp k i j a b (none_waiting i.late h.0) h.1 looked takes grants),
      shown_same (record { held = took_held (held_of m) (packet_by_id k); ends = record (ends_seen (ends_of m)) { link = Some (in_seen b) } }) (shown_of n) held (with_link m n (Some (in_seen b)) (in_is n l' b nl lb) same),
    )

-- the packet stood first on the link
pub take_first : (m n : ANode) (stamp : Stamp) (k : PacketSeen) → IsReady (shown_of m) → TookOn (λ e. e.late) RingTakes RingWaited RingSends stamp k m n → (rest : List (Option PacketShown)) × (first_item (shown_of m).ends.link ≡ Some (sent_of (packet_by_id k)) ∷ rest)
take_first m n stamp k ready (l, l', ml, nl, (i, j, a, b, li, looked, takes, waits, grants, lb), same) =
    let h : IsReadyIn (in_seen i) = ready_in m l i ml li ready in
    ((in_seen b).items, ap first_item (in_is m l i ml li) ∙ (shown_take (grant_due l.counted) stamp k i j a b (none_waiting i.late h.0) h.1 looked takes grants).items)

-- the operations that it brings are those of what stands first there
pub take_ops : (m : ANode) (k : PacketById) (rest : List (Option PacketShown)) (taken : List Taken) → first_item (shown_of m).ends.link ≡ Some (sent_of k) ∷ rest → taken ≡ news_of (held_of m) k → ops_taken taken ≡ ops_next (shown_of m)
take_ops m k rest taken first is = ap ops_taken is ∙ sym (ap (ops_first (held_of m)) first)

-- so many of its own messages have come round to it then
pub take_round : (m n : ANode) (k : PacketById) (rest : List (Option PacketShown)) → first_item (shown_of m).ends.link ≡ Some (sent_of k) ∷ rest → held_of n ≡ took_held (held_of m) k → (own_known (held_of n)).forgot ≡ round_next (shown_of m)
take_round m n k rest first held = ap (λ h. (own_known h).forgot) held ∙ sym (ap (round_first (held_of m)) first)

-- and it brings no more messages than its lines have
pub take_few : (m : ANode) (k : PacketById) (rest : List (Option PacketShown)) (taken : List Taken) → first_item (shown_of m).ends.link ≡ Some (sent_of k) ∷ rest → taken ≡ news_of (held_of m) k
    → (j : PacketShown) (others : List (Option PacketShown)) → first_item (shown_of m).ends.link ≡ Some j ∷ others → length taken ≤ messages_on j.lines
take_few m k rest taken first is j others there =
    let both : Some (sent_of k) ∷ rest ≡ Some j ∷ others = sym first ∙ there in
    let same : sent_of k ≡ j = cc in
    subst (λ (p : PacketShown). length taken ≤ messages_on p.lines) same (subst (λ ts. length ts ≤ messages_on k.lines) (sym is) (news_few (held_of m) k))

-- ---- an end that was looked at

-- a look shows the same
same_seen : (i j : RingIn Load) → i.late ≡ None → RingWaited i j → in_seen j ≡ in_seen i
same_seen i j late looked =
    let nothing : (sent j.back ≡ sent i.back) × (j.late ≡ None) = nothing_sent (sent i.back) (sent j.back) i.late j.late late looked.1.1 in
    let taken : map content (got j.items) ≡ map content (got i.items) = ap (λ v. map content (got v)) looked.0 in
    let items : map content (known_items j.items) ≡ map content (known_items i.items) = ap (λ v. map content (known_items v)) looked.0 in
    let given : amounts (sent j.back) ≡ amounts (sent i.back) = ap amounts nothing.0 in
    let waits : amount_of j.late ≡ amount_of i.late = ap amount_of (nothing.1 ∙ sym late) in
    let size : j.initial ≡ i.initial = looked.1.3 in
    let many : length (sent j.back) ≡ length (sent i.back) = ap length nothing.0 in
    let free : known_free j.back ≡ known_free i.back = omega (arith, looked.1.2, many) in
    let ring : in_pair j ≡ in_pair i = pair_in i j (in_items_same i j looked.0) looked.1.0 in
    cc

same_end : (a b : Option (RingIn Load)) → MatchOption (option_map in_seen a) ⊤ (λ n. n.late ≡ None) → EndLooks RingWaited a b → option_map in_seen b ≡ option_map in_seen a
same_end a b late looks = ⊎_elim
    (λ (e : b ≡ a). ap (option_map in_seen) e)
    (λ (x : (i : RingIn Load) × (j : RingIn Load) × (a ≡ Some i) × (b ≡ Some j) × RingWaited i j).
    let h : x.0.late ≡ None = none_waiting x.0.late (subst (λ p. MatchOption (option_map in_seen p) ⊤ (λ n. n.late ≡ None)) x.2 late) in
    ap (option_map in_seen) x.3 ∙ ap Some (same_seen x.0 x.1 h x.4) ∙ sym (ap (option_map in_seen) x.2))
    looks

-- no grant waits in the end from which it takes
none_waits_end : (e : Option InSeen) → MatchOption e ⊥ IsReadyIn → MatchOption e ⊤ (λ n. n.late ≡ None)
none_waits_end None h = tt
none_waits_end (Some n) h = h.0

none_waits_in : (c : Option (InLink (RingIn Load))) → MatchOption (option_map in_of c) ⊤ (λ _. MatchOption (in_there c) ⊥ IsReadyIn) → MatchOption (in_there c) ⊤ (λ n. n.late ≡ None)
none_waits_in None h = tt
none_waits_in (Some l) h = none_waits_end (option_map in_seen l.end) h

none_waits : (m : ANode) → IsReady (shown_of m) → MatchOption (in_there m.current) ⊤ (λ n. n.late ≡ None)
none_waits m ready = none_waits_in m.current ready.link

same_in : (m n : ANode) → IsReady (shown_of m) → LooksIn RingWaited m n → in_there n.current ≡ in_there m.current
same_in m n ready looks = ⊎_elim
    (λ (e : n.current ≡ m.current). ap in_there e)
    (λ (x : (l : InLink (RingIn Load)) × (l' : InLink (RingIn Load)) × (m.current ≡ Some l) × (n.current ≡ Some l') × EndLooks RingWaited l.end l'.end).
    let h : MatchOption (in_there (Some x.0)) ⊤ (λ n. n.late ≡ None) = subst (λ c. MatchOption (in_there c) ⊤ (λ n. n.late ≡ None)) x.2 (none_waits m ready) in
    ap in_there x.3 ∙ same_end x.0.end x.1.end h x.4 ∙ sym (ap in_there x.2))
    looks.1

-- ---- why nothing was taken

-- the conditions before those on the link
first_by : (b1 b2 : Bool) (c : Option Incoming) (later : Option Reason) (r : Reason) → or_else (refuse_if b1 Stopped) (or_else (refuse_if b2 AwaitingAnswer) (on_some c NoCurrentLink (λ _. None))) ≡ Some r → or_else (refuse_if b1 Stopped) (or_else (refuse_if b2 AwaitingAnswer) (on_some c NoCurrentLink (λ _. later))) ≡ Some r
first_by true b2 c later r e = e
first_by false true c later r e = e
first_by false false None later r e = e
first_by false false (Some l) later r e = cc

later_by : (b1 b2 : Bool) (c : Option Incoming) (later : Option Reason) → or_else (refuse_if b1 Stopped) (or_else (refuse_if b2 AwaitingAnswer) (on_some c NoCurrentLink (λ _. None))) ≡ None → or_else (refuse_if b1 Stopped) (or_else (refuse_if b2 AwaitingAnswer) (on_some c NoCurrentLink (λ _. later))) ≡ later
later_by true b2 c later e = cc
later_by false true c later e = cc
later_by false false None later e = cc
later_by false false (Some l) later e = refl

first_take : (h : Held) (later : Option Reason) (r : Reason) → take_refused h None ≡ Some r → take_refused h later ≡ Some r
first_take h later r e = first_by (is_stopped h.phase) h.asks h.current later r e

later_take : (h : Held) (later : Option Reason) → take_refused h None ≡ None → take_refused h later ≡ later
later_take h later e = later_by (is_stopped h.phase) h.asks h.current later e

-- a packet is refused just where it is of a newer version
version_some : (need have : ℕ) → have < need → version_refusal need have ≡ Some (ViewTooOld need have)
version_some need have l = let t : nat_lt have need ≡ true = grind (arith, nat_tests) in rw t refl

-- what the first item shows
packet_first : (x : Load) (xs : List (Item Load)) (v : ℕ) → IsPrefix (item.Load x ∷ []) xs → items_refused v (map content xs) ≡ version_refusal (packet_seen x).view v
packet_first x xs v h = ap (λ ys. items_refused v (map content ys)) (sym h.1)

end_first : (reason : EndReason) (stamp : Stamp) (xs : List (Item Load)) (v : ℕ) → IsPrefix (item.End reason stamp ∷ []) xs → items_refused v (map content xs) ≡ Some EndNext
end_first reason stamp xs v h = ap (λ ys. items_refused v (map content ys)) (sym h.1)

packet_before_end : (x : Load) (xs : List (Item Load)) → IsPrefix (item.Load x ∷ []) xs → end_refused (map content xs) ≡ Some PacketNext
packet_before_end x xs h = ap (λ ys. end_refused (map content ys)) (sym h.1)

-- the items that an end knows, and the grant that waits in it
abbrev known : RingIn Load → List (Item Load)
known e = known_items e.items

abbrev waiting : RingIn Load → Option Grant
waiting e = e.late

-- of a member that is alone in its round nothing comes too late
abbrev pub never : Stamp → Bool
never stamp = false

none_due : (xs : List (Item Load)) → NoneIsDue never xs → xs ≡ []
none_due [] h = refl
none_due (x ∷ xs) h = cc

-- why a member with a view of this version may take no packet from an end
abbrev NewerNext : ℕ → Reason → Option (RingIn Load) → Type 0
NewerNext v r e = PacketIsNext known (λ k. (v < k.view) × (r ≡ ViewTooOld k.view v)) e

refusal_at : (v : ℕ) (r : Reason) (e : Option (RingIn Load)) → MatchOption (option_map in_seen e) ⊤ (λ n. n.late ≡ None) → IsTakeRefusal known waiting never v r e → items_refused v (first_item (option_map in_seen e)) ≡ Some r
refusal_at v r None late why = absurd (⊎_elim
    (λ (x : (r ≡ NothingToTake) × NothingIsNext known waiting never None). x.1)
    (λ (y : ((r ≡ EndNext) × EndIsNext known None) ⊎ NewerNext v r None). ⊎_elim (λ (x : (r ≡ EndNext) × EndIsNext known None). x.1) (λ (x : NewerNext v r None). x) y)
    why)
refusal_at v r (Some i) late why = ⊎_elim
    (λ (x : (r ≡ NothingToTake) × NothingIsNext known waiting never (Some i)). ap (λ ys. items_refused v (map content ys)) (none_due (known_items i.items) (x.1 (none_waiting i.late late))) ∙ ap Some (sym x.0))
    (λ (y : ((r ≡ EndNext) × EndIsNext known (Some i)) ⊎ NewerNext v r (Some i)). ⊎_elim
    (λ (x : (r ≡ EndNext) × EndIsNext known (Some i)). end_first x.1.0 x.1.1 (known_items i.items) v x.1.2 ∙ ap Some (sym x.0))
    (λ (x : NewerNext v r (Some i)). packet_first x.0 (known_items i.items) v x.1 ∙ version_some _ _ x.2.0 ∙ ap Some (sym x.2.1))
    y)
    why

-- to one that is alone nothing comes too late
late_alone : (P : (Stamp → Bool) → Type 0) (r : Recorded) → r.is_alone ≡ true → P (is_late r) → P never
late_alone P r alone h = subst (λ b. P (λ s. nat_le 4294967294 (cond (not b && nat_eq s.round r.round) s.time 0))) alone h

-- why no packet was taken
abbrev pub TakeFault : ANode → ANode → MemberFault → Type 0
TakeFault m n fault =
    ((r : Reason) × (fault ≡ faults.Refused r) × (take_refused (held_of m) None ≡ Some r))
    ⊎ ((take_refused (held_of m) None ≡ None) × MatchOption n.current ⊥ (λ l. IsTakeFault known waiting (is_late (recorded_of m)) (held_of m).view.version fault l.end))

-- what holds of the end from which a member takes
end_of_in : (c : Option (InLink (RingIn Load))) (P : Option (RingIn Load) → Type 0) (Q : Option InSeen → Type 0) → ((e : Option (RingIn Load)) → MatchOption (option_map in_seen e) ⊤ (λ n. n.late ≡ None) → P e → Q (option_map in_seen e)) → MatchOption (in_there c) ⊤ (λ n. n.late ≡ None) → MatchOption c ⊥ (λ l. P l.end) → Q (in_there c)
end_of_in None P Q f late h = absurd h
end_of_in (Some l) P Q f late h = f l.end late h

-- and what it showed before a look
shown_before : (m n : ANode) (P : Option (RingIn Load) → Type 0) (Q : Option InSeen → Type 0) → IsReady (shown_of m) → LooksIn RingWaited m n → ((e : Option (RingIn Load)) → MatchOption (option_map in_seen e) ⊤ (λ n. n.late ≡ None) → P e → Q (option_map in_seen e)) → MatchOption n.current ⊥ (λ l. P l.end) → Q (in_there m.current)
shown_before m n P Q ready looks f h =
    let e : in_there n.current ≡ in_there m.current = same_in m n ready looks in
    subst Q e (end_of_in n.current P Q f (subst (λ s. MatchOption s ⊤ (λ n. n.late ≡ None)) (sym e) (none_waits m ready)) h)

fault_at : (v : ℕ) (r : Reason) (fault : MemberFault) → fault ≡ faults.Refused r → (e : Option (RingIn Load)) → MatchOption (option_map in_seen e) ⊤ (λ n. n.late ≡ None) → IsTakeFault known waiting never v fault e → items_refused v (first_item (option_map in_seen e)) ≡ Some r
fault_at v r fault is e late why = ⊎_elim
    (λ (x : (q : Reason) × (fault ≡ faults.Refused q) × IsTakeRefusal known waiting never v q e). let same : x.0 ≡ r = cc (x.1) in refusal_at v x.0 e late x.2 ∙ ap Some same)
    (λ (x : (fault ≡ faults.OutOfMemory) × PacketIsNext known (λ k. k.view ≤ v) e). absurd (cc (x.0)))
    why

pub take_refusal : (m n : ANode) (fault : MemberFault) (r : Reason) → fault ≡ faults.Refused r → IsReady (shown_of m) → (recorded_of m).is_alone ≡ true → LooksIn RingWaited m n → TakeFault m n fault → packet_refused (shown_of m) ≡ Some r
take_refusal m n fault r is ready alone looks why = ⊎_elim
    (λ (x : (q : Reason) × (fault ≡ faults.Refused q) × (take_refused (held_of m) None ≡ Some q)). let same : x.0 ≡ r = cc (x.1) in first_take (held_of m) _ x.0 x.2 ∙ ap Some same)
    (λ (x : (take_refused (held_of m) None ≡ None) × MatchOption n.current ⊥ (λ l. IsTakeFault known waiting (is_late (recorded_of m)) (held_of m).view.version fault l.end)).
    later_take (held_of m) _ x.0 ∙ shown_before m n (λ e. IsTakeFault known waiting (is_late (recorded_of m)) (held_of m).view.version fault e) (λ s. items_refused (held_of m).view.version (first_item s) ≡ Some r) ready looks
    (λ e late h. fault_at (held_of m).view.version r fault is e late (late_alone (λ f. IsTakeFault known waiting f (held_of m).view.version fault e) (recorded_of m) alone h)) x.1)
    why

pub take_enabled : (m n : ANode) (stamp : Stamp) (k : PacketSeen) → TookOn (λ e. e.late) RingTakes RingWaited RingSends stamp k m n → k.view ≤ (held_of m).view.version → take_refused (held_of m) None ≡ None → packet_refused (shown_of m) ≡ None
take_enabled m n stamp k (l, l', ml, nl, (i, j, a, b, li, looked, takes, waits, grants, lb), same) older enabled =
    let all : known_items i.items ≡ as_item k ∷ known_items a.items = sym (ap (λ v. known_items v) looked.0) ∙ takes.2 in
    later_take (held_of m) _ enabled
    ∙ ap (λ s. items_refused (held_of m).view.version (first_item s)) (in_is m l i ml li)
    ∙ ap (λ xs. items_refused (held_of m).view.version (map content xs)) all
    ∙ no_version k.view (held_of m).view.version older

-- ---- the end of a link

end_refusal_at : (r : Reason) (e : Option (RingIn Load)) → MatchOption (option_map in_seen e) ⊤ (λ n. n.late ≡ None) → IsEndRefusal known waiting never r e → end_refused (first_item (option_map in_seen e)) ≡ Some r
end_refusal_at r None late why = absurd (⊎_elim
    (λ (x : (r ≡ NothingToTake) × NothingIsNext known waiting never None). x.1)
    (λ (x : (r ≡ PacketNext) × PacketIsNext known (λ _. ⊤) None). x.1)
    why)
end_refusal_at r (Some i) late why = ⊎_elim
    (λ (x : (r ≡ NothingToTake) × NothingIsNext known waiting never (Some i)). ap (λ ys. end_refused (map content ys)) (none_due (known_items i.items) (x.1 (none_waiting i.late late))) ∙ ap Some (sym x.0))
    (λ (x : (r ≡ PacketNext) × PacketIsNext known (λ _. ⊤) (Some i)). packet_before_end x.1.0 (known_items i.items) x.1.1 ∙ ap Some (sym x.0))
    why

-- why no end was taken
abbrev EndRefusal : ANode → ANode → Reason → Type 0
EndRefusal m n r =
    (take_refused (held_of m) None ≡ Some r)
    ⊎ ((take_refused (held_of m) None ≡ None) × MatchOption n.current ⊥ (λ l. IsEndRefusal known waiting (is_late (recorded_of m)) r l.end))

abbrev pub EndFault : ANode → ANode → MemberFault → Type 0
EndFault m n fault = (r : Reason) × (fault ≡ faults.Refused r) × EndRefusal m n r

end_refused_for : (m n : ANode) (r : Reason) → IsReady (shown_of m) → (recorded_of m).is_alone ≡ true → LooksIn RingWaited m n → EndRefusal m n r → link_end_refused (shown_of m) ≡ Some r
end_refused_for m n r ready alone looks why = ⊎_elim
    (λ (x : take_refused (held_of m) None ≡ Some r). first_take (held_of m) _ r x)
    (λ (x : (take_refused (held_of m) None ≡ None) × MatchOption n.current ⊥ (λ l. IsEndRefusal known waiting (is_late (recorded_of m)) r l.end)).
    later_take (held_of m) _ x.0 ∙ shown_before m n (λ e. IsEndRefusal known waiting (is_late (recorded_of m)) r e) (λ s. end_refused (first_item s) ≡ Some r) ready looks
    (λ e late h. end_refusal_at r e late (late_alone (λ f. IsEndRefusal known waiting f r e) (recorded_of m) alone h)) x.1)
    why

pub end_refusal : (m n : ANode) (fault : MemberFault) (r : Reason) → fault ≡ faults.Refused r → IsReady (shown_of m) → (recorded_of m).is_alone ≡ true → LooksIn RingWaited m n → EndFault m n fault → link_end_refused (shown_of m) ≡ Some r
end_refusal m n fault r is ready alone looks (q, why, refused) =
    let same : q ≡ r = cc (why, is) in
    end_refused_for m n q ready alone looks refused ∙ ap Some same

-- ---- a step that wasn't done

-- only a refused call tells why the event isn't enabled
refused_only : (fault : MemberFault) (r : Reason) → refused_as fault ≡ NotEnabled r → fault ≡ faults.Refused r
refused_only (faults.Refused q) r e = cc
refused_only faults.OutOfMemory r e = cc

-- its fault is a refusal where the first condition that fails is that
pub not_judged : {X : Type 0} (refusal : Option Reason) (fault : MemberFault) (result : Result X Refused) → IsErrAnd result (λ e. e ≡ refused_as fault) → ((r : Reason) → fault ≡ faults.Refused r → refusal ≡ Some r) → IsJudged refusal result
not_judged refusal fault (Ok a) is why = absurd is
not_judged refusal fault (Err e) is why = record { enabled = tt; reason = λ r x. why r (refused_only fault r (sym is ∙ x)) }

-- and the member shows what it showed
pub not_done : (refusal : Option Reason) (does : Shown → Shown → Type 0) (m n : Shown) (fault : MemberFault) (result : Result (Unit {0}) Refused) → IsErrAnd result (λ e. e ≡ refused_as fault) → ((r : Reason) → fault ≡ faults.Refused r → refusal ≡ Some r)
    → n ≡ m → Tries refusal does m n result
not_done refusal does m n fault (Ok a) is why same = absurd is
not_done refusal does m n fault (Err e) is why same = record { judged = not_judged refusal fault (Err e) is why; ok = tt; err = same }
