use Rattle.std.proofs.Common.{refl}
use Rattle.gm_member.proofs.Calls.{match_some}
use Rattle.gm_member.proofs.member.Member.end_out.Goals as goal

pub returns-clause-ends : goal.returns-clause-ends
returns-clause-ends g c = ((refl, refl, refl, refl), match_some _ _ c.args.self.now.out c.in-Some.link c.in-Some.is (c.finish.new.self, refl, c.finish.ensures.ends, c.finish.ensures.kept))
