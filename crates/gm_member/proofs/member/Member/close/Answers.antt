use Rattle.gm_member.proofs.Within.{none_within}
use Rattle.gm_member.proofs.member.Member.close.Goals as goal

pub invariant_of-self-clause-spared : goal.invariant_of-self-clause-spared
invariant_of-self-clause-spared g c = none_within c.args.self.now.tables
