use Rattle.std.proofs.Common.{sym, ap, ◌∙◌, rules}
use Rattle.std.specs.Prelude.{Err}
use Rattle.gm_member.specs.declared.fault.MemberFault.TheVariants as fault
use Rattle.gm_member.specs.Shown.{held_of}
use Rattle.gm_member.proofs.Calls.{first_refusal}
use Rattle.gm_member.proofs.Same.{same_facts}
use Rattle.gm_member.proofs.member.Member.regain.Goals as goal

pub returns-in-Some-clause-heeds : goal.returns-in-Some-clause-heeds
returns-in-Some-clause-heeds g c = record {
  enabled = tt;
  refused = λ r e. ap (λ x. Err (fault.Refused x)) (first_refusal (held_of c.args.self.now) _ c.in-Some.reason r (sym c.up_refusal.ensures ∙ c.in-Some.is) e);
}

pub returns-in-None-clause-acts : goal.returns-in-None-clause-acts
returns-in-None-clause-acts g c = record {
  ok = tt;
  ends = tt;
  recorded = tt;
  spare = tt;
  fault = search rules;
  err = same_facts c.args.self.now _ _ _ _ _ _ _ _ _ _;
}
