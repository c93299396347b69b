-- Where a member has put a packet, the parties stand in the state after the ring's put.
use Rattle.std.proofs.Common.{◌≡◌, ℕ, ◌+◌, ◌<◌, ◌≤◌, [], ◌∷◌, ◌++◌, Option, Some, None, is_some, refl, sym, ap, subst, ◌∙◌, arith, append-nil, false}
use Rattle.ring_names.specs.declared.numbers.CreditSpec.{CreditSpec}
use Rattle.group_view.specs.declared.link.LinkName.{LinkName}
use Rattle.ring_rules.specs.declared.kind.LinkStep.TheVariants as step
use Rattle.ring_rules.specs.Kind.{Steps}
use Rattle.ring_rules.specs.Machine.{World, Packet, Link, member_at, link_at}
use Rattle.ring_rules.specs.Compact.{before_next}
use Rattle.ring_rules.specs.declared.phase.Phase.TheVariants.{Up}
use Rattle.ring_rules.specs.Step.{size, pushed}
use Rattle.ring_rules.specs.Event.{put_refusal, refused_as, done_as}
use Rattle.gm_member.specs.Packets.{PacketById}
use Rattle.gm_member.specs.Held.{Held, Outgoing, put_held, packet_on}
use Rattle.gm_member.specs.Stands.{held_in, outgoing_in, StandsFor}
use Rattle.gm_member.proofs.Fit.{IsFit}
use Rattle.gm_member.proofs.PutStands.{leaving, put_stands, put_packet}
use Rattle.gm_member.proofs.Others.{put_others}
use Rattle.ring_parties.specs.Ends.{PacketShown, OutSeen, InSeen, packet_in, packets_in, end_items, items_in, Carries}
use Rattle.ring_parties.specs.Parties.{Shown, Parties, node_at, Keeps}
use Rattle.ring_parties.specs.Standing.{Places, MemberStands, Stand}
use Rattle.ring_parties.specs.Acting.{sent_of, Acts, ActsOut}
use Rattle.ring_parties.proofs.work.Lawful.{IsLawfulAt}
use Rattle.ring_parties.proofs.meetings.NamedLinks.{out_unended}
use Rattle.ring_parties.proofs.events.OneEvent.{made_of, stands_at, held_but_door}
use Rattle.ring_parties.proofs.events.Steps.{OnOut, on_out, goes_out}
use Rattle.ring_parties.proofs.standing.Frames.{StandMoved, acts_carries, packets_push}

-- ---- one link

-- one more packet stands on it
pub put_items : (w : World) (l : Link) (k : PacketShown) (packet : Packet) → l.ending ≡ None → before_next l.had l.packets ≡ l.sending → Some k ≡ packet_in w l.sending packet → items_in w l ++ Some k ∷ [] ≡ items_in w (pushed l packet)
put_items w l k packet goes_on behind e =
    ap (λ g. (packets_in w l.had l.packets ++ end_items g) ++ Some k ∷ []) goes_on
    ∙ ap (λ xs. xs ++ Some k ∷ []) (append-nil (packets_in w l.had l.packets))
    ∙ ap (λ x. packets_in w l.had l.packets ++ x ∷ []) e
    ∙ ap (λ b. packets_in w l.had l.packets ++ packet_in w b packet ∷ []) (sym behind)
    ∙ sym (packets_push w l.had l.packets packet)
    ∙ sym (append-nil (packets_in w l.had (l.packets ++ packet ∷ [])))
    ∙ ap (λ g. packets_in w l.had (l.packets ++ packet ∷ []) ++ end_items g) (sym goes_on)

-- and its ends carry it
pub put_carries : (initial : ℕ) (w : World) (l : Link) (o o' : OutSeen) (n : InSeen) (k : PacketShown) (packet : Packet) → l.ending ≡ None → before_next l.had l.packets ≡ l.sending → Some k ≡ packet_in w l.sending packet → ActsOut (Some k ∷ []) [] false o o' → Carries w initial l o n → Carries w initial (pushed l packet) o' n
put_carries initial w l o o' n k packet goes_on behind e t =
    acts_carries initial w l (pushed l packet) o o' n (Some k ∷ []) false t (put_items w l k packet goes_on behind e) refl (sym (ap is_some goes_on))

-- the packet that the member puts stands for that of the ring
pub put_sent : (w : World) (x s : ℕ) (g : Held) (out : Outgoing) → IsFit w → 1 ≤ x → x < size w → (member_at w x).phase ≡ Up → (member_at w x).out ≡ Some s → g ≡ record (held_in w x) { door = g.door } → outgoing_in w s ≡ out → Some (sent_of (packet_on g.view.version g.known out)) ≡ packet_in w (link_at w s).sending (leaving w x s)
put_sent w x s g out f some lt up sends e is =
    let k : PacketById = packet_on (held_in w x).view.version (held_in w x).known (outgoing_in w s) in
    let stands : StandsFor w (link_at w s).sending k (leaving w x s) = put_packet w x s f some lt up sends in
    ap (λ (a : Held). Some (sent_of (packet_on a.view.version a.known out))) e
    ∙ ap (λ a. Some (sent_of (packet_on (held_in w x).view.version (held_in w x).known a))) (sym is)
    ∙ ap (λ v. Some (record { view = v; lines = k.lines })) stands.view
    ∙ ap (λ ls. Some (record { view = (leaving w x s).version; lines = ls })) stands.lines

-- ---- the parties

pub put_goes : (credit : CreditSpec) (w : World) (keeps : Keeps) (i d : ℕ) (q q' : Parties) (replaced : Option (LinkName × OutSeen)) → IsLawfulAt credit w → refused_as w (i + 1) (Steps step.Put) ≡ None → i + 1 < size w → Stand credit.initial w q → Acts (Steps step.Put) keeps i d q q' replaced → StandMoved credit.initial (i + 1) (done_as w (i + 1) (Steps step.Put)) q' replaced
put_goes credit w keeps i d q q' replaced h enabled lt st (b, (out, o, o', held_out, ends_out, puts, eb), is, none) =
    let x : ℕ = i + 1 in
    let p : Places = st.places in
    let m : Shown = node_at q i in
    let on : OnOut w (done_as w x (Steps step.Put)) x (λ t. pushed (link_at w t) (leaving w x t)) = on_out credit w x (put_refusal w x) (λ t. pushed (link_at w t) (leaving w x t)) h enabled lt in
    let a : MemberStands w p x m = stands_at credit.initial w q p i st.stand on.is_member in
    let s : ℕ = on.link in
    let same_held : m.held ≡ record (held_in w x) { door = m.held.door } = held_but_door w p x m a in
    let same_outgoing : outgoing_in w s ≡ out = made_of (outgoing_in w) (member_at w x).out s out on.is (sym (ap (λ (g : Held). g.out) same_held) ∙ held_out) in
    let same_end : p.outs s ≡ o = made_of p.outs (member_at w x).out s o on.is (sym a.out ∙ ends_out) in
    let k : PacketShown = sent_of (packet_on m.held.view.version m.held.known out) in
    let its : Some k ≡ packet_in w (link_at w s).sending (leaving w x s) = put_sent w x s m.held out h.fit (omega arith) on.is_member on.up on.is same_held same_outgoing in
    goes_out credit w (done_as w x (Steps step.Put)) q q' i replaced (λ t. pushed (link_at w t) (leaving w x t)) o' b st h on refl is none (λ y ne. put_others w x s y h.fit on.is ne)
    (record {
      does = λ (g : Held). put_held g;
      but_door = λ g ds. refl;
      stands = put_stands w x s h.fit (omega arith) on.is_member on.is;
      is = eb;
    })
    (put_carries credit.initial w (link_at w s) (p.outs s) o' (p.ins s) k (leaving w x s) (out_unended credit w x s h on.run on.is) (h.fit.compact.before s) its (subst (λ e. ActsOut (Some k ∷ []) [] false e o') (sym same_end) puts))
