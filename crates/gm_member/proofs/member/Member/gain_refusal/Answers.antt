use Rattle.std.proofs.Common.{refl, inr}
use Rattle.gm_member.proofs.member.Member.gain_refusal.Goals as goal

pub returns-then-has_grant-clause-looks : goal.returns-then-has_grant-clause-looks
returns-then-has_grant-clause-looks g c = ((refl, refl, refl, refl), inr (c.in-Some-out.link, c.has_grant.new.self, c.in-Some-out.is, refl, c.has_grant.ensures.looks, c.has_grant.ensures.kept))

pub returns-else-has_grant-clause-looks : goal.returns-else-has_grant-clause-looks
returns-else-has_grant-clause-looks g c = ((refl, refl, refl, refl), inr (c.in-Some-out.link, c.has_grant.new.self, c.in-Some-out.is, refl, c.has_grant.ensures.looks, c.has_grant.ensures.kept))
