use Rattle.std.proofs.Common.{◌≡◌, Option, Some, None, Err, refl}
use Rattle.std.proofs.lemmas.Result.{on_ok_weaker}
use Rattle.ring_names.specs.declared.reason.Reason.TheVariants.{NoOutLink}
use Rattle.ring_rules.specs.declared.event.Event.TheVariants.{Put}
use Rattle.gm_member.specs.declared.fault.MemberFault.TheVariants as fault
use Rattle.gm_member.specs.Held.{Held, Outgoing, put_refused, put_held, on_some, out_refused, packet_on}
use Rattle.gm_member.specs.Stands.{WhereItStands, IsPutPacket}
use Rattle.gm_member.specs.Shown.{held_of}
use Rattle.gm_member.proofs.Calls.{up_later, on_ok_both}
use Rattle.gm_member.proofs.Lifts.{put_steps, steps_lift, refuses_too, put_packet_lifts}
use Rattle.gm_member.proofs.Refusals.{put_refusal_is}
use Rattle.gm_member.proofs.Ready.{is_ready}
use Rattle.gm_member.proofs.member.Member.put.Goals as goal

pub put_next-requires-clause-ready : goal.put_next-requires-clause-ready
put_next-requires-clause-ready g c = is_ready c.args.self.now c.requires.out

-- who may put sends on a link, and the packet is the ring's
put_out_lifts : (h : Held) → put_refused h ≡ None → (o : Outgoing) × (h.out ≡ Some o) × WhereItStands h (λ w x. IsPutPacket w x (packet_on h.view.version h.known o))
put_out_lifts h e = by_out h.out refl (up_later h (on_some h.out NoOutLink (out_refused h.known)) e)
  where
    by_out : (a : Option Outgoing) → h.out ≡ a → on_some a NoOutLink (out_refused h.known) ≡ None → (o : Outgoing) × (h.out ≡ Some o) × WhereItStands h (λ w x. IsPutPacket w x (packet_on h.view.version h.known o))
    by_out None is k = cc
    by_out (Some o) is k = (o, is, put_packet_lifts h o e is)

pub returns-clause-steps : goal.returns-clause-steps
returns-clause-steps g c = on_ok_both c.put_next.result (steps_lift (λ k. put_refused k ≡ None) Put put_held put_steps (held_of c.args.self.now) (held_of c.put_next.new.self)) c.put_next.ensures.heeds.enabled c.put_next.ensures.puts.ok

pub returns-clause-put : goal.returns-clause-put
returns-clause-put g c = on_ok_weaker c.put_next.result (put_out_lifts (held_of c.args.self.now)) c.put_next.ensures.heeds.enabled

pub returns-clause-not_enabled : goal.returns-clause-not_enabled
returns-clause-not_enabled g c = refuses_too put_refused Put c.put_next.result (λ q. Err (fault.Refused q)) put_refusal_is (held_of c.args.self.now) c.put_next.ensures.heeds.refused
