use Rattle.std.proofs.Common.{refl, inr, sym, ◌∙◌}
use Rattle.std.proofs.lemmas.Option.{IfSome_then}
use Rattle.gm_member.proofs.Calls.{if_none_map}
use Rattle.gm_member.proofs.member.Member.granted.Goals as goal

pub returns-in-Some-clause-some : goal.returns-in-Some-clause-some
returns-in-Some-clause-some g c = IfSome_then c.granted.result c.granted.ensures.some (λ amount p. ((refl, refl, refl, refl), c.in-Some.link, c.granted.new.self, c.in-Some.is, refl, p.0, p.1))

pub returns-in-Some-clause-none : goal.returns-in-Some-clause-none
returns-in-Some-clause-none g c = if_none_map c.granted.result (λ p. (((refl, refl, refl, refl), inr (c.in-Some.link, c.granted.new.self, c.in-Some.is, refl, p.2, p.1 ∙ sym p.0)), (p.1, p.3))) c.granted.ensures.none
