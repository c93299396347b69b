use Rattle.std.proofs.Common.{ℕ, Bool, true, false, List, [], ◌∷◌, ◌++◌, Option, refl, ap, ◌∙◌}
use Rattle.credit_flow.specs.Credit.{Credit, sent}
use Rattle.group_view.specs.declared.link.LinkKind.TheVariants.{Ring}
use Rattle.group_view.specs.declared.request.Request.TheVariants.{Deposit}
use Rattle.activity.specs.LastSent.{LastSent}
use Rattle.activity.specs.Packets.{LineSeen, PacketSeen}
use Rattle.gm_member.specs.Packets.{PacketById, packet_by_id}
use Rattle.gm_member.specs.Held.{Outgoing, all_last_sent}
use Rattle.gm_member.proofs.spare.Spare.open.Goals as goal

-- what the spare link shows once it is open
abbrev opened_with : ℕ → ℕ → List LastSent → Credit → Outgoing
opened_with to version ts k = record { to = to; opened = version; fresh = false; last_sent = ts; credit = k }

-- its first packet
abbrev packet_with : ℕ → Bool → List (Option LineSeen) → PacketById
packet_with version first lines = record { view = version; first = first; lines = lines }

pub returns-clause-opens : goal.returns-clause-opens
returns-clause-opens g c = λ known s. record {
  held =
      ap (λ ts. opened_with c.args.to.0 c.args.version ts c.send.new.self) s.last_sent
      ∙ ap (opened_with c.args.to.0 c.args.version (all_last_sent known)) (c.send.ensures ∙ ap sent c.new-outgoing.ensures);
  returned = refl;
  end = c.put.new.self;
  there = refl;
  packet = (
    record { stamp = c.args.stamp; view = c.args.version; first = c.packet.inside.first; lines = c.packet.inside.lines },
    ap (λ (q : PacketSeen). packet_with c.args.version q.first (packet_by_id q).lines) c.packet.view_is
        ∙ ap (λ b. packet_with c.args.version b (packet_by_id c.args.self.packet).lines) s.first
        ∙ ap (packet_with c.args.version true) s.lines,
    c.in-Ok.ensures.ok,
  );
  deposit = c.in-Ok-push.ensures.items ∙ ap (λ xs. xs ++ Deposit c.args.by c.args.to c.args.version Ring c.args.self.link ∷ []) s.none;
}
