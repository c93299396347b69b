-- What a member refuses, the ring refuses, in every state in which it stands.
use Rattle.std.proofs.Common.{◌≡◌, ℕ, ◌<◌, ◌≤◌, Option, Some, None, refl, sym, ap, ◌∙◌}
use Rattle.queue_core.specs.declared.message.Message.{Message}
use Rattle.ring_names.specs.declared.reason.Reason.{Reason}
use Rattle.ring_names.specs.declared.reason.Reason.TheVariants as reason
use Rattle.ring_rules.specs.declared.event.Event.{Event}
use Rattle.ring_rules.specs.declared.event.Event.TheVariants as event
use Rattle.ring_rules.specs.Machine.{World, member_at}
use Rattle.ring_rules.specs.Step.{size}
use Rattle.ring_rules.specs.Event.{id_of, on_link, running_refusal, up_refusal, take_refusal, end_refusal, gain_refusal, refusal}
use Rattle.gm_member.specs.Held.{active_refused, up_refused, put_refused, take_refused, pick_refused, on_some}
use Rattle.gm_member.specs.Stands.{held_in, outgoing_in, SaysIn}
use Rattle.gm_member.proofs.Fit.{IsFit}
use Rattle.gm_member.proofs.Facts.{refused_there}
use Rattle.gm_member.proofs.TakeStands.{take_refuses}
use Rattle.gm_member.proofs.PublishStands.{IsPublished, published_there}
use Rattle.gm_member.proofs.PutStands.{on_some_link, put_refuses}
use Rattle.gm_member.proofs.PickStands.{pick_refuses}

-- the conditions on a link that is there, by what they come to
on_link_is : (o : Option ℕ) (missing : Reason) (later : Option Reason) (then : ℕ → Option Reason) → ((k : ℕ) → o ≡ Some k → then k ≡ later) → on_link o missing (λ _. later) ≡ on_link o missing then
on_link_is None missing later then h = refl
on_link_is (Some k) missing later then h = sym (h k refl)

pub publish_refusal_is : (w : World) (x : ℕ) (m : Message) (e : Event) → IsFit w → 1 ≤ x → x < size w → SaysIn w x (member_at w x).name m e → up_refused (held_in w x) None ≡ refusal w e
publish_refusal_is w x m e f some lt says =
    let k : IsPublished w x m e = published_there w x (member_at w x).name m e says in
    sym k.refused ∙ sym (refused_there w x e (ap (id_of w) says.by ∙ f.named x some lt))

pub put_refusal_is : (w : World) (x : ℕ) → IsFit w → 1 ≤ x → x < size w → put_refused (held_in w x) ≡ refusal w (event.Put (member_at w x).name)
put_refusal_is w x f some lt = put_refuses w x f ∙ sym (refused_there w x (event.Put (member_at w x).name) (f.named x some lt))

pub stop_refusal_is : (w : World) (x : ℕ) → IsFit w → 1 ≤ x → x < size w → active_refused (held_in w x) None ≡ refusal w (event.Stop (member_at w x).name)
stop_refusal_is w x f some lt = sym (refused_there w x (event.Stop (member_at w x).name) (f.named x some lt))

pub take_refusal_is : (w : World) (x : ℕ) (later : Option Reason) → IsFit w → 1 ≤ x → x < size w → ((s : ℕ) → (member_at w x).current ≡ Some s → take_refusal w x s ≡ later) → take_refused (held_in w x) later ≡ refusal w (event.Take (member_at w x).name)
take_refusal_is w x later f some lt h =
    take_refuses w x later ∙ ap (running_refusal w x) (on_link_is (member_at w x).current reason.NoCurrentLink later (take_refusal w x) h)
    ∙ sym (refused_there w x (event.Take (member_at w x).name) (f.named x some lt))

pub end_refusal_is : (w : World) (x : ℕ) (later : Option Reason) → IsFit w → 1 ≤ x → x < size w → ((s : ℕ) → (member_at w x).current ≡ Some s → end_refusal w s ≡ later) → take_refused (held_in w x) later ≡ refusal w (event.TakeEnd (member_at w x).name)
end_refusal_is w x later f some lt h =
    take_refuses w x later ∙ ap (running_refusal w x) (on_link_is (member_at w x).current reason.NoCurrentLink later (end_refusal w) h)
    ∙ sym (refused_there w x (event.TakeEnd (member_at w x).name) (f.named x some lt))

-- a member that may gain has a link on which it sends: there the grants alone decide
pub gain_refusal_is : (w : World) (x : ℕ) (later : Option Reason) → IsFit w → 1 ≤ x → x < size w → ((o : ℕ) → (member_at w x).out ≡ Some o → gain_refusal w o ≡ later) → up_refused (held_in w x) (on_some (held_in w x).out reason.NoOutLink (λ _. later)) ≡ refusal w (event.Gain (member_at w x).name)
gain_refusal_is w x later f some lt h =
    ap (up_refusal w x) (on_some_link (outgoing_in w) (member_at w x).out reason.NoOutLink (λ _. later) (λ _. later) (λ _. refl) ∙ on_link_is (member_at w x).out reason.NoOutLink later (gain_refusal w) h)
    ∙ sym (refused_there w x (event.Gain (member_at w x).name) (f.named x some lt))

pub pick_refusal_is : (w : World) (x : ℕ) → IsFit w → 1 ≤ x → x < size w → pick_refused (held_in w x) ≡ refusal w (event.Pick (member_at w x).name)
pick_refusal_is w x f some lt = pick_refuses w x f.good ∙ sym (refused_there w x (event.Pick (member_at w x).name) (f.named x some lt))
