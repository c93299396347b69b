use Rattle.std.proofs.Common.{◌≡◌, Some, None, Err, ℕ}
use Rattle.ring_rules.specs.declared.event.Event.TheVariants.{TakeEnd}
use Rattle.gm_member.specs.declared.fault.MemberFault.TheVariants as fault
use Rattle.ring_rules.specs.Machine.{member_at}
use Rattle.ring_rules.specs.Event.{end_refusal}
use Rattle.gm_member.specs.Held.{take_refused, ended_held}
use Rattle.gm_member.specs.Stands.{IsNextEnd}
use Rattle.gm_member.specs.Shown.{held_of}
use Rattle.gm_member.proofs.Calls.{on_ok_both}
use Rattle.gm_member.proofs.Lifts.{end_steps, steps_where, refuses_where}
use Rattle.gm_member.proofs.Refusals.{end_refusal_is}
use Rattle.gm_member.proofs.member.Member.take_end.Goals as goal

pub returns-clause-steps : goal.returns-clause-steps
returns-clause-steps g c =
    on_ok_both c.take_end_next.result (steps_where (λ k. take_refused k None ≡ None) IsNextEnd TakeEnd ended_held end_steps (held_of c.args.self.now) (held_of c.take_end_next.new.self))
    c.take_end_next.ensures.heeds.enabled c.take_end_next.ensures.takes.ok

pub returns-clause-not_enabled : goal.returns-clause-not_enabled
returns-clause-not_enabled g c =
    refuses_where (λ k. take_refused k None) (λ w x. (s : ℕ) → (member_at w x).current ≡ Some s → end_refusal w s ≡ None) TakeEnd c.take_end_next.result (λ q. Err (fault.Refused q))
    (λ w x f a b. end_refusal_is w x None f a b) (held_of c.args.self.now) c.take_end_next.ensures.heeds.refused
