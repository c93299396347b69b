use Rattle.std.proofs.Common.{◌≡◌, Some, None, Err, ℕ}
use Rattle.ring_rules.specs.declared.event.Event.TheVariants.{Gain}
use Rattle.gm_member.specs.declared.fault.MemberFault.TheVariants as fault
use Rattle.ring_rules.specs.Machine.{member_at}
use Rattle.ring_rules.specs.Event.{gain_refusal}
use Rattle.gm_member.specs.Held.{gain_refused, gained_held}
use Rattle.gm_member.specs.Stands.{IsNextGrant}
use Rattle.gm_member.specs.Shown.{held_of}
use Rattle.gm_member.proofs.Calls.{on_ok_both}
use Rattle.gm_member.proofs.Lifts.{gain_steps, steps_where, refuses_where}
use Rattle.gm_member.proofs.Refusals.{gain_refusal_is}
use Rattle.gm_member.proofs.member.Member.gain.Goals as goal

pub returns-clause-steps : goal.returns-clause-steps
returns-clause-steps g c =
    let amount = c.args.grant.amount in
    on_ok_both c.regain.result
    (steps_where (λ k. gain_refused k ≡ None) (λ w x. IsNextGrant w x amount) Gain (λ k. gained_held k amount) (λ w x f a b. gain_steps w x amount f a b) (held_of c.args.self.now) (held_of c.regain.new.self))
    c.regain.ensures.heeds.enabled c.regain.ensures.acts.ok

pub returns-clause-not_enabled : goal.returns-clause-not_enabled
returns-clause-not_enabled g c =
    refuses_where gain_refused (λ w x. (o : ℕ) → (member_at w x).out ≡ Some o → gain_refusal w o ≡ None) Gain c.regain.result (λ q. Err (fault.Refused q))
    (λ w x f a b. gain_refusal_is w x None f a b) (held_of c.args.self.now) c.regain.ensures.heeds.refused
