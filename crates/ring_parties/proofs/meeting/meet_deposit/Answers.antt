use Rattle.ring_parties.specs.Parties.{out_seen}
use Rattle.ring_parties.proofs.meetings.Meets.{lent_some, deposit_may, deposit_met, deposit_rest, deposit_none}
use Rattle.ring_parties.proofs.meeting.meet_deposit.Goals as goal

pub returns-in_default-clause-none : goal.returns-in_default-clause-none
returns-in_default-clause-none c = λ _. (deposit_none c.args.registrar.now c.lend.new.self c.args.name.now (out_seen c.args.out.now) c.requires c.in_default.ensures).0

pub returns-in_default-clause-still : goal.returns-in_default-clause-still
returns-in_default-clause-still c = λ _. (deposit_none c.args.registrar.now c.lend.new.self c.args.name.now (out_seen c.args.out.now) c.requires c.in_default.ensures).1

pub meet_two-requires : goal.meet_two-requires
meet_two-requires c = deposit_may c.args.registrar.now c.lend.new.self c.args.name.now c.in-Some.link (out_seen c.args.out.now) c.requires (lent_some c.in-Some.link c.in-Some.ensures)

pub returns-clause-met : goal.returns-clause-met
returns-clause-met c = λ _. deposit_met c.args.registrar.now c.lend.new.self c.args.name.now c.in-Some.link c.give.new.self (out_seen c.args.out.now) (out_seen c.meet_two.new.out) c.meet_two.new.link (lent_some c.in-Some.link c.in-Some.ensures) c.give.ensures c.meet_two.ensures

pub returns-clause-same : goal.returns-clause-same
returns-clause-same c = deposit_rest c.args.registrar.now c.lend.new.self c.args.name.now c.in-Some.link c.give.new.self c.meet_two.new.link (lent_some c.in-Some.link c.in-Some.ensures) c.give.ensures
