use Rattle.activity.proofs.Marks.{marks_sent, accepted_passed, line_sent, part_taken}
use Rattle.activity.proofs.laws.a_packet_and_its_plan_give_the_numbers.Goals as goal

pub returns-clause-used : goal.returns-clause-used
returns-clause-used c = marks_sent

pub returns-clause-passed : goal.returns-clause-passed
returns-clause-passed c = accepted_passed

pub returns-clause-sent : goal.returns-clause-sent
returns-clause-sent c = line_sent

pub returns-clause-taken : goal.returns-clause-taken
returns-clause-taken c = part_taken
