use Rattle.std.proofs.Common.{◌≡◌, false, refl, ap, ◌∙◌}
use Rattle.gm_member.specs.Held.{all_last_sent}
use Rattle.gm_member.specs.View.{all_kept, all_sent, out_of}
use Rattle.gm_member.proofs.Accepting.{room_below, room_unsent, room_all, all_noted_bare, all_sent_now, sent_is_there}
use Rattle.gm_member.proofs.Calls.{may_send, on_err}
use Rattle.gm_member.proofs.links.OutLink.put.Goals as goal

pub send-requires : goal.send-requires
send-requires g c = may_send (all_kept c.args.tables.now) (out_of c.args.self.now) c.requires.enabled

pub invariant_of-self : goal.invariant_of-self
invariant_of-self g c = record { unsent = room_unsent c.args.self.now.fresh c.args.self.now.sent c.make_room.new.self c.make_room.ensures.kept c.args.self.now.unsent }

pub returns-in_err-make_room-clause-err : goal.returns-in_err-make_room-clause-err
returns-in_err-make_room-clause-err g c =
    on_err c.from_residual-in_err-make_room.result (ap (λ t. record (out_of c.args.self.now) { last_sent = t }) (room_all c.args.self.now.sent c.make_room.new.self c.make_room.ensures.kept))

pub returns-in_err-make_room-clause-there : goal.returns-in_err-make_room-clause-there
returns-in_err-make_room-clause-there g c = room_below c.args.tables.now c.args.self.now.sent c.make_room.new.self c.make_room.ensures.kept c.requires.there

pub invariant_of-self-in-Err-1 : goal.invariant_of-self-in-Err-1
invariant_of-self-in-Err-1 g c = record { unsent = room_unsent c.args.self.now.fresh c.args.self.now.sent c.make_room.new.self c.make_room.ensures.kept c.args.self.now.unsent }

pub returns-in-Err-clause-there : goal.returns-in-Err-clause-there
returns-in-Err-clause-there g c = room_below c.args.tables.now c.args.self.now.sent c.make_room.new.self c.make_room.ensures.kept c.requires.there

pub returns-clause-packet : goal.returns-clause-packet
returns-clause-packet g c = (c.in_ok-packet.packet, c.in_ok-packet.ensures.said, (c.in-Some.end, c.put.new.self, c.in-Some.is, refl, c.in-Ok.ensures.ok), c.in_ok-packet.ensures.stamped)

pub returns-clause-ok : goal.returns-clause-ok
returns-clause-ok g c =
    let last_sent : all_sent c.note.new.self ≡ all_last_sent (all_kept c.args.tables.now) =
    all_sent_now c.args.tables.now c.note.new.self
    (all_noted_bare c.args.self.now.fresh c.args.tables.now c.args.self.now.sent c.make_room.new.self c.note.new.self c.in_ok-packet.packet.lines c.in_ok-numbers.numbers.lines c.requires.there c.args.self.now.unsent
    c.in_ok-packet.ensures.lines c.make_room.ensures.kept c.in_ok-numbers.ensures c.note.ensures.sent) in
    ap (λ t. record (out_of c.args.self.now) { fresh = false; last_sent = t; credit = c.send.new.self }) last_sent
    ∙ ap (λ k. record (out_of c.args.self.now) { fresh = false; last_sent = all_last_sent (all_kept c.args.tables.now); credit = k }) c.send.ensures

pub returns-clause-there : goal.returns-clause-there
returns-clause-there g c =
    sent_is_there c.args.tables.now c.note.new.self
    (all_noted_bare c.args.self.now.fresh c.args.tables.now c.args.self.now.sent c.make_room.new.self c.note.new.self c.in_ok-packet.packet.lines c.in_ok-numbers.numbers.lines c.requires.there c.args.self.now.unsent
    c.in_ok-packet.ensures.lines c.make_room.ensures.kept c.in_ok-numbers.ensures c.note.ensures.sent)
