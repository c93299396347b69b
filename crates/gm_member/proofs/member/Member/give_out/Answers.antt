use Rattle.gm_member.proofs.member.Member.give_out.Goals as goal

pub invariant_of-self-clause-unended : goal.invariant_of-self-clause-unended
invariant_of-self-clause-unended g c = c.requires.unended
