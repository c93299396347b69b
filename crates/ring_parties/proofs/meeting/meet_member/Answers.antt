use Rattle.std.proofs.Common.{◌<◌, ◌-◌, length, get_or, sym, ap, arith}
use Rattle.ring_parties.specs.Parties.{out_seen, keeps_in}
use Rattle.ring_parties.proofs.meetings.Meets.{member_met, member_stays}
use Rattle.ring_parties.proofs.standing.Nodes.{written_shown, same_keeps}
use Rattle.ring_parties.proofs.meeting.meet_member.Goals as goal

pub returns-clause-met : goal.returns-clause-met
returns-clause-met c = λ b.
    let l : c.args.name.now.to.0 - 1 < length c.args.members.now = omega arith in
    member_met c.args.members.now (c.args.name.now.to.0 - 1) c.index-members-receiver.result (record (get_or c.args.members.now (c.args.name.now.to.0 - 1) c.index-members-receiver.result) { node = c.meet_node.new.node }) c.args.name.now (out_seen c.args.out.now) (out_seen c.meet_node.new.out) l (c.meet_node.ensures.met b)

pub returns-clause-others : goal.returns-clause-others
returns-clause-others c = λ b.
    let l : c.args.name.now.to.0 - 1 < length c.args.members.now = omega arith in
    written_shown c.args.members.now (c.args.name.now.to.0 - 1) (record (get_or c.args.members.now (c.args.name.now.to.0 - 1) c.index-members-receiver.result) { node = c.meet_node.new.node }) l

pub returns-clause-still : goal.returns-clause-still
returns-clause-still c = λ b.
    let l : c.args.name.now.to.0 - 1 < length c.args.members.now = omega arith in
    member_stays c.args.members.now (c.args.name.now.to.0 - 1) c.index-members-receiver.result (record (get_or c.args.members.now (c.args.name.now.to.0 - 1) c.index-members-receiver.result) { node = c.meet_node.new.node }) l c.index-members-receiver.is (c.meet_node.ensures.same b)

pub returns-clause-keeps : goal.returns-clause-keeps
returns-clause-keeps c =
    let l : c.args.name.now.to.0 - 1 < length c.args.members.now = omega arith in
    same_keeps c.args.members.now (c.args.name.now.to.0 - 1) c.index-members-receiver.result (record (get_or c.args.members.now (c.args.name.now.to.0 - 1) c.index-members-receiver.result) { node = c.meet_node.new.node }) l c.index-members-receiver.is (ap keeps_in (sym c.index-members-receiver.is))
