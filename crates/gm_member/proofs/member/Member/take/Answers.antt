use Rattle.std.proofs.Common.{◌≡◌, Some, None, Err, ℕ}
use Rattle.ring_rules.specs.declared.event.Event.TheVariants.{Take}
use Rattle.gm_member.specs.declared.fault.MemberFault.TheVariants as fault
use Rattle.ring_rules.specs.Machine.{member_at}
use Rattle.ring_rules.specs.Event.{take_refusal}
use Rattle.gm_member.specs.Held.{take_refused, took_held}
use Rattle.gm_member.specs.Packets.{packet_by_id}
use Rattle.gm_member.specs.Stands.{IsNextPacket}
use Rattle.gm_member.specs.Shown.{held_of}
use Rattle.gm_member.proofs.Calls.{if_ok_both}
use Rattle.gm_member.proofs.Lifts.{MayTakeIt, take_steps, steps_where, refuses_where, news_lift}
use Rattle.gm_member.proofs.Refusals.{take_refusal_is}
use Rattle.gm_member.proofs.member.Member.take.Goals as goal

pub returns-clause-steps : goal.returns-clause-steps
returns-clause-steps g c = if_ok_both c.take_next.result
    (λ taken enabled ok. (
      ok.0,
      ok.4,
      λ credit names events x are r l n s next. (
        steps_where (MayTakeIt (packet_by_id ok.0)) (λ w y. IsNextPacket w y (packet_by_id ok.0)) Take (λ h. took_held h (packet_by_id ok.0)) (λ w y f a b. take_steps w y (packet_by_id ok.0) f a b)
            (held_of c.args.self.now) (held_of c.take_next.new.self) (enabled, ok.1) ok.2 credit names events x are r l n s next,
        news_lift (held_of c.args.self.now) (packet_by_id ok.0) taken.items (enabled, ok.1) ok.3 credit names events x are r l n s next,
      ),
    ))
    c.take_next.ensures.heeds.enabled c.take_next.ensures.takes.ok

pub returns-clause-not_enabled : goal.returns-clause-not_enabled
returns-clause-not_enabled g c =
    refuses_where (λ k. take_refused k None) (λ w x. (s : ℕ) → (member_at w x).current ≡ Some s → take_refusal w x s ≡ None) Take c.take_next.result (λ q. Err (fault.Refused q))
    (λ w x f a b. take_refusal_is w x None f a b) (held_of c.args.self.now) c.take_next.ensures.heeds.refused
