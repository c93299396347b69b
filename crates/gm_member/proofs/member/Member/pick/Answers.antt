use Rattle.std.proofs.Common.{◌≡◌, None, Err}
use Rattle.ring_rules.specs.declared.event.Event.TheVariants.{Pick}
use Rattle.gm_member.specs.declared.fault.MemberFault.TheVariants as fault
use Rattle.gm_member.specs.Held.{pick_refused, picked_held}
use Rattle.gm_member.specs.Shown.{held_of}
use Rattle.gm_member.proofs.Calls.{on_ok_both}
use Rattle.gm_member.proofs.Lifts.{pick_steps, steps_lift, refuses_too}
use Rattle.gm_member.proofs.Refusals.{pick_refusal_is}
use Rattle.gm_member.proofs.member.Member.pick.Goals as goal

pub returns-clause-steps : goal.returns-clause-steps
returns-clause-steps g c = on_ok_both c.pick_next.result (steps_lift (λ k. pick_refused k ≡ None) Pick picked_held pick_steps (held_of c.args.self.now) (held_of c.pick_next.new.self)) c.pick_next.ensures.heeds.enabled c.pick_next.ensures.acts.ok

pub returns-clause-not_enabled : goal.returns-clause-not_enabled
returns-clause-not_enabled g c = refuses_too pick_refused Pick c.pick_next.result (λ q. Err (fault.Refused q)) pick_refusal_is (held_of c.args.self.now) c.pick_next.ensures.heeds.refused
