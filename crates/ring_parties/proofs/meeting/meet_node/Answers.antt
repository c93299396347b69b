use Rattle.ring_parties.specs.Parties.{out_seen}
use Rattle.ring_parties.proofs.meetings.Meets.{lent_some, node_lent, node_met}
use Rattle.ring_parties.proofs.meeting.meet_node.Goals as goal

pub returns-clause-met : goal.returns-clause-met
returns-clause-met c = λ _. node_met c.args.node.now c.lend.new.self c.give.new.self c.args.name.now (out_seen c.args.out.now) (out_seen c.meet_two.new.out) c.in-Some.link c.meet_two.new.link (lent_some c.in-Some.link c.in-Some.ensures) c.give.ensures c.meet_two.ensures

pub give-requires : goal.give-requires
give-requires c = node_lent c.args.node.now c.lend.new.self c.args.name.now c.in-Some.link (lent_some c.in-Some.link c.in-Some.ensures)
