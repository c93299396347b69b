use Rattle.gm_member.proofs.Accepting.{first_noted, all_sent_now}
use Rattle.gm_member.proofs.Putting.{first_lines}
use Rattle.gm_member.proofs.spare.first_packet.Goals as goal

pub returns-clause-last_sent : goal.returns-clause-last_sent
returns-clause-last_sent c =
    all_sent_now c.args.tables.now c.note.new.self
    (first_noted c.args.tables.now c.new-sent.result c.make_room.new.self c.note.new.self c.in_ok-packet.packet.lines c.new-sent.ensures c.in_ok-make_room.ensures.kept.sent
    c.in_ok-packet.ensures.lines c.note.ensures.sent)

pub returns-clause-lines : goal.returns-clause-lines
returns-clause-lines c = first_lines c.args.tables.now c.new-sent.result c.in_ok-packet.packet.lines c.new-sent.ensures c.in_ok-packet.ensures.lines
