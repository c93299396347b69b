use Rattle.std.proofs.Common.{◌≡◌, ◌∷◌, ◌≤◌, List, Option, Some, [], length, sym, ap, subst, ◌∙◌, arith}
use Rattle.std.specs.Prelude.{MatchOption}
use Rattle.std.specs.List.{sum_by}
use Rattle.activity.specs.Packets.{LineSeen}
use Rattle.gm_member.specs.Packets.{packet_by_id}
use Rattle.gm_member.specs.Loads.{packet_seen}
use Rattle.ring_parties.specs.Ends.{PacketShown}
use Rattle.ring_parties.specs.Parties.{shown_of, content}
use Rattle.ring_parties.specs.Acting.{first_item}
use Rattle.ring_parties.specs.Keeps.{messages_on}
use Rattle.ring_parties.proofs.keeping.Coming.{lines_few}
use Rattle.ring_parties.proofs.queue.carried.Goals as goal

pub returns-in-Some-Load : goal.returns-in-Some-Load
returns-in-Some-Load c = λ k rest e.
    let first = first_item (shown_of c.args.node.now).ends.link in
    let there = subst (λ o. MatchOption o (first ≡ []) (λ item. (others : List (Option PacketShown)) × (first ≡ content item.now ∷ others))) c.in-Some-Load.is c.first_item.ensures in
    let load = c.in-Some-Load.load in
    let both : Some k ∷ rest ≡ Some (record { view = (packet_seen load).view; lines = (packet_by_id (packet_seen load)).lines }) ∷ there.0 = sym e ∙ there.1 ∙ ap (λ x. content x ∷ there.0) c.in-Some-Load.field-0-is in
    let same : k ≡ record { view = (packet_seen load).view; lines = (packet_by_id (packet_seen load)).lines } = cc in
    let few : messages_on k.lines ≤ sum_by (λ (l : LineSeen). length l.messages) (packet_seen load).lines =
    subst (λ ls. messages_on ls ≤ sum_by (λ (l : LineSeen). length l.messages) (packet_seen load).lines) (sym (ap (λ (p : PacketShown). p.lines) same)) (lines_few (packet_seen load).lines) in
    omega (arith, few, c.messages_on_load.ensures)
