use Rattle.std.proofs.Common.{◌≡◌, None, Err}
use Rattle.ring_rules.specs.declared.event.Event.TheVariants.{Stop}
use Rattle.gm_member.specs.declared.fault.MemberFault.TheVariants as fault
use Rattle.gm_member.specs.Held.{active_refused, stopped_held}
use Rattle.gm_member.specs.Shown.{held_of}
use Rattle.gm_member.proofs.Calls.{on_ok_both}
use Rattle.gm_member.proofs.Lifts.{stop_steps, steps_lift, refuses_too}
use Rattle.gm_member.proofs.Refusals.{stop_refusal_is}
use Rattle.gm_member.proofs.Ready.{is_ready}
use Rattle.gm_member.proofs.member.Member.stop.Goals as goal

pub stop_next-requires-clause-ready : goal.stop_next-requires-clause-ready
stop_next-requires-clause-ready g c = is_ready c.args.self.now c.requires.out

pub returns-clause-steps : goal.returns-clause-steps
returns-clause-steps g c = on_ok_both c.stop_next.result (steps_lift (λ k. active_refused k None ≡ None) Stop stopped_held stop_steps (held_of c.args.self.now) (held_of c.stop_next.new.self)) c.stop_next.ensures.heeds.enabled c.stop_next.ensures.acts.ok

pub returns-clause-not_enabled : goal.returns-clause-not_enabled
returns-clause-not_enabled g c = refuses_too (λ k. active_refused k None) Stop c.stop_next.result (λ q. Err (fault.Refused q)) stop_refusal_is (held_of c.args.self.now) c.stop_next.ensures.heeds.refused
