use Rattle.std.proofs.Common.{Err}
use Rattle.std.proofs.lemmas.Result.{IfOk-weaker}
use Rattle.gm_member.specs.declared.fault.MemberFault.TheVariants as fault
use Rattle.gm_member.specs.Shown.{held_of}
use Rattle.gm_member.proofs.Calls.{on_ok_both}
use Rattle.gm_member.proofs.Lifts.{publish_lifts, publish_refuses, number_lifts}
use Rattle.gm_member.proofs.member.Member.publish.Goals as goal

pub returns-clause-steps : goal.returns-clause-steps
returns-clause-steps g c = on_ok_both c.log.result (publish_lifts (held_of c.args.self.now) (held_of c.log.new.self) c.args.message) c.log.ensures.back.enabled c.log.ensures.publishes.ok

pub returns-clause-logged : goal.returns-clause-logged
returns-clause-logged g c = IfOk-weaker c.log.result _ _ (number_lifts (held_of c.args.self.now)) c.log.ensures.publishes.number

pub returns-clause-not_enabled : goal.returns-clause-not_enabled
returns-clause-not_enabled g c =
    let m = c.args.message in
    publish_refuses (held_of c.args.self.now) m c.log.result (λ q. Err (m, fault.Refused q)) c.log.ensures.back.refused
