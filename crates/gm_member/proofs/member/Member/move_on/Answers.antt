use Rattle.std.proofs.Common.{sym, subst}
use Rattle.gm_member.specs.View.{last_sent_on}
use Rattle.gm_member.specs.Within.{IsWithin}
use Rattle.gm_member.proofs.Within.{none_within}
use Rattle.gm_member.proofs.member.Member.move_on.Goals as goal

pub invariant_of-self-2-clause-sent : goal.invariant_of-self-2-clause-sent
invariant_of-self-2-clause-sent g c = subst (λ o. IsWithin (last_sent_on o) c.args.self.now.tables) (sym c.take.ensures.after) (none_within c.args.self.now.tables)
