-- A member of a cluster whose ends have met is ready for its calls.
use Rattle.std.proofs.Common.{◌≡◌, ℕ, ◌+◌, ◌-◌, ◌<◌, ◌≤◌, Bool, true, false, List, [], ◌∷◌, ◌++◌, length, sum, Option, Some, None, is_some, refl, sym, ap, subst, ◌∙◌, arith, append-nil}
use Rattle.std.specs.Prelude.{option_map, MatchOption, ⊤}
use Rattle.std.proofs.lemmas.List.{length-append, append_cancel_left}
use Rattle.ring_names.specs.declared.numbers.CreditSpec.{CreditSpec}
use Rattle.ring_rules.specs.declared.phase.Ending.{Ending}
use Rattle.ring_rules.specs.Machine.{World, Packet, Sending, member_at, link_at, runs, runs_phase}
use Rattle.ring_rules.specs.Step.{size}
use Rattle.ring_rules.proofs.runs.LinkCredit.{LinkIsKept}
use Rattle.gm_member.specs.Held.{Held, Outgoing, Incoming}
use Rattle.gm_member.specs.Stands.{held_in, outgoing_in, incoming_in}
use Rattle.ring_parties.specs.Ends.{PacketShown, OutSeen, InSeen, packets_in, end_items, items_in, Carries, HaveMet}
use Rattle.ring_parties.specs.Parties.{Parties, node_at}
use Rattle.ring_parties.specs.Standing.{Places, MemberStands, StandIn, Stand, AllHaveMet, HaveDone, has_in, has_out}
use Rattle.ring_parties.specs.Acting.{IsReady}
use Rattle.ring_parties.proofs.standing.Frames.{packets_many}
use Rattle.ring_parties.proofs.work.Lawful.{IsLawfulAt}
use Rattle.ring_parties.proofs.meetings.NamedLinks.{out_unended, out_is_open, out_has, current_has}
use Rattle.ring_parties.proofs.events.OneEvent.{met_both, held_but_door}

-- ---- ends that have met, or rest

-- the in end knows all that was put, and all slots that are free on the way back
pub record Settled (o : OutSeen) (n : InSeen) : Type 0 where
  pub items : n.taken ++ n.items ≡ o.put
  pub room : n.free + length n.given ≡ n.initial + length o.gained

pub settled : (b : Bool) (o : OutSeen) (n : InSeen) → HaveDone b o n → Settled o n
settled true o n h = record { items = h.items; room = omega (arith, h.room, ap length h.grants, length-append o.gained o.back) }
settled false o n h = record { items = h.items; room = h.room }

-- of each open link
pub all_settled : (w : World) (p : Places) (s : ℕ) → AllHaveMet w p → s < length w.links → has_in w s ≡ true → Settled (p.outs s) (p.ins s)
all_settled w p s met sl has = settled (has_out w s) (p.outs s) (p.ins s) (met s sl has)

-- then the in end has all items of the link
pub settled_items : (initial : ℕ) (w : World) (s : ℕ) (o : OutSeen) (n : InSeen) → Settled o n → Carries w initial (link_at w s) o n → n.items ≡ items_in w (link_at w s)
settled_items initial w s o n k c = append_cancel_left n.taken n.items (items_in w (link_at w s)) (k.items ∙ sym c.items)

-- ---- the link on which it sends

-- a packet for which there is credit has a slot
out_room : (credit : CreditSpec) (w : World) (s : ℕ) (o : OutSeen) (n : InSeen) → LinkIsKept credit.initial credit.more (link_at w s) → (link_at w s).ending ≡ None → HaveMet o n → Carries w credit.initial (link_at w s) o n → 0 < (link_at w s).flow.sender.credit → 1 < o.free
out_room credit w s o n kept goes_on met c some =
    let items : n.items ≡ packets_in w (link_at w s).had (link_at w s).packets =
    settled_items credit.initial w s o n (settled true o n met) c ∙ ap (λ e. packets_in w (link_at w s).had (link_at w s).packets ++ end_items e) goes_on ∙ append-nil (packets_in w (link_at w s).had (link_at w s).packets) in
    let many : length n.items ≡ length (link_at w s).packets = ap length items ∙ packets_many w (link_at w s).had (link_at w s).packets in
    omega (arith, many, met.free, c.initial, kept.kept.kept, some)

-- ---- the link from which it takes

-- where a packet is first there is one
first_is_packet : (w : World) (before : Sending) (ks : List Packet) (e : Option Ending) (k : PacketShown) (rest : List (Option PacketShown)) → packets_in w before ks ++ end_items e ≡ Some k ∷ rest → 0 < length ks
first_is_packet w before [] None k rest h = cc
first_is_packet w before [] (Some why) k rest h = cc
first_is_packet w before (x ∷ ks) e k rest h = omega arith

-- the grant that it may bring has a slot
in_room : (credit : CreditSpec) (w : World) (s : ℕ) (o : OutSeen) (n : InSeen) → LinkIsKept credit.initial credit.more (link_at w s) → length (link_at w s).flow.grants ≤ sum (link_at w s).flow.grants → Settled o n → Carries w credit.initial (link_at w s) o n → (k : PacketShown) (rest : List (Option PacketShown)) → n.items ≡ Some k ∷ rest → 0 < n.free
in_room credit w s o n kept few k0 c k rest first =
    let some : 0 < length (link_at w s).packets = first_is_packet w (link_at w s).had (link_at w s).packets (link_at w s).ending k rest (sym (settled_items credit.initial w s o n k0 c) ∙ first) in
    let grants : length n.given ≡ length o.gained + length (link_at w s).flow.grants = ap length (sym c.grants) ∙ length-append o.gained (link_at w s).flow.grants in
    omega (arith, some, grants, kept.kept.kept, few, k0.room, c.fits.initial, c.initial)

-- ---- the member

abbrev OutReady : Option Outgoing → Option OutSeen → Type 0
OutReady a b = MatchOption a ⊤ (λ h. MatchOption b ⊥ (λ o. (o.ended ≡ false) × (0 < h.credit.credit → 1 < o.free)))

abbrev LinkReady : Option Incoming → Option InSeen → Type 0
LinkReady a b = MatchOption a ⊤ (λ _. MatchOption b ⊥ (λ n. (n.late ≡ None) × ((k : PacketShown) (rest : List (Option PacketShown)) → n.items ≡ Some k ∷ rest → 0 < n.free)))

out_ready : (credit : CreditSpec) (w : World) (q : Parties) (p : Places) (x : ℕ) (c : Option ℕ) → IsLawfulAt credit w → StandIn credit.initial w q p → AllHaveMet w p → runs w x ≡ true → (member_at w x).out ≡ c → OutReady (option_map (outgoing_in w) c) (option_map p.outs c)
out_ready credit w q p x None h st met run e = tt
out_ready credit w q p x (Some s) h st met run e =
    let sl : s < length w.links = (h.fit.own_ends.out x s e).0 in
    let has : has_in w s ≡ true = out_is_open credit w x s h run e in
    let c : Carries w credit.initial (link_at w s) (p.outs s) (p.ins s) = st.carry s sl has in
    let both : HaveMet (p.outs s) (p.ins s) = met_both (has_out w s) (p.outs s) (p.ins s) (out_has credit w x s h e) (met s sl has) in
    (c.ended ∙ ap is_some (out_unended credit w x s h run e), λ some. out_room credit w s (p.outs s) (p.ins s) (h.kept s sl) (out_unended credit w x s h run e) both c some)

link_ready : (credit : CreditSpec) (w : World) (q : Parties) (p : Places) (x : ℕ) (c : Option ℕ) → IsLawfulAt credit w → StandIn credit.initial w q p → AllHaveMet w p → (member_at w x).current ≡ c → LinkReady (option_map (incoming_in w) c) (option_map p.ins c)
link_ready credit w q p x None h st met e = tt
link_ready credit w q p x (Some s) h st met e =
    let sl : s < length w.links = (h.fit.own_ends.current x s e).0 in
    let has : has_in w s ≡ true = current_has credit w x s h e in
    let c : Carries w credit.initial (link_at w s) (p.outs s) (p.ins s) = st.carry s sl has in
    (c.late, λ k rest first. in_room credit w s (p.outs s) (p.ins s) (h.kept s sl) (h.few s sl) (all_settled w p s met sl has) c k rest first)

pub ready : (credit : CreditSpec) (w : World) (q : Parties) (x : ℕ) → IsLawfulAt credit w → Stand credit.initial w q → 1 ≤ x → x < size w → IsReady (node_at q (x - 1))
ready credit w q x h st some lt =
    let p : Places = st.places in
    let m : MemberStands w p x (node_at q (x - 1)) = st.stand.each x some lt in
    let same : (node_at q (x - 1)).held ≡ record (held_in w x) { door = (node_at q (x - 1)).held.door } = held_but_door w p x (node_at q (x - 1)) m in
    record {
      out = λ run.
          let run0 : runs w x ≡ true = sym (ap (λ (g : Held). runs_phase g.phase) same) ∙ run in
          subst (λ a. OutReady a (node_at q (x - 1)).ends.out) (sym (ap (λ (g : Held). g.out) same))
          (subst (OutReady (option_map (outgoing_in w) (member_at w x).out)) (sym m.out)
          (out_ready credit w q p x (member_at w x).out h st.stand st.met run0 refl));
      link =
          subst (λ a. LinkReady a (node_at q (x - 1)).ends.link) (sym (ap (λ (g : Held). g.current) same))
          (subst (LinkReady (option_map (incoming_in w) (member_at w x).current)) (sym m.link)
          (link_ready credit w q p x (member_at w x).current h st.stand st.met refl));
      returned = m.returned;
      old_outs = m.old_outs;
      old_ins = m.old_ins;
    }
