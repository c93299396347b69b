use Rattle.std.proofs.Common.{arith}
use Rattle.std.proofs.lemmas.Grind.{common_steps}
use Rattle.gm_member.proofs.Within.{above_within}
use Rattle.gm_member.proofs.member.Member.prepare.Goals as goal

pub invariant_of-self-2-clause-spared : goal.invariant_of-self-2-clause-spared
invariant_of-self-2-clause-spared g c = above_within c.in_ok-spare.spare.sent c.args.self.now.tables c.in_ok-spare.ensures.there

pub returns-clause-ready : goal.returns-clause-ready
returns-clause-ready g c = record { spare = c.in_ok-spare.ensures.spare; room = grind (arith, common_steps) }
