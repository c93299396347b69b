-- What a member says by what its party keeps is what it says by the ring.
use Rattle.std.proofs.Common.{◌≡◌, ℕ, refl, ap, ◌∙◌}
use Rattle.std.specs.Prelude.{Result, Ok, Err}
use Rattle.queue_core.specs.declared.message.Message.{Message}
use Rattle.queue_core.specs.declared.op.Op.{Op}
use Rattle.ring_names.specs.declared.reason.Reason.{Reason}
use Rattle.ring_rules.specs.Kind.{Own, OfQueue, Saying, QueueSaying}
use Rattle.ring_rules.specs.Machine.{World, member_at, view_in}
use Rattle.ring_rules.specs.Step.{publish_at}
use Rattle.ring_rules.specs.Event.{asked_op, op_as, op_done, op_refusal, queue_message, message_of, saying_refusal, said}
use Rattle.gm_member.specs.Held.{Held}
use Rattle.ring_parties.specs.Parties.{Keeps}
use Rattle.ring_parties.specs.Keeps.{keeps_of, said_by, saying_refused}

-- A member of this id, which has the view of its version, and whose party keeps what the state has.
pub record SpeaksThere (w : World) (x : ℕ) (h : Held) (k : Keeps) : Type 0 where
  pub view : h.view ≡ view_in w (member_at w x).version
  pub id : h.id ≡ x
  pub keeps : k ≡ keeps_of w x

module _ (w : World) (x : ℕ) (h : Held) (k : Keeps) (there : SpeaksThere w x h k) where
  -- its operation is the ring's
  op_same : (s : QueueSaying) → asked_op k.mirror h.view h.id k.started s ≡ op_as w x s
  op_same s =
      ap (λ (j : Keeps). asked_op j.mirror h.view h.id j.started s) there.keeps
      ∙ ap (λ g. asked_op (member_at w x).mirror g h.id (member_at w x).started s) there.view
      ∙ ap (λ y. asked_op (member_at w x).mirror (view_in w (member_at w x).version) y (member_at w x).started s) there.id

  -- and so its message
  pub said_same : (s : Saying) → said_by s h k ≡ message_of w x s
  said_same (Own body) = refl
  said_same (OfQueue s) = ap queue_message (op_same s)

  -- and why it says nothing
  pub refused_same : (s : Saying) → saying_refused s h k ≡ saying_refusal w x s
  refused_same (Own body) = refl
  refused_same (OfQueue s) = ap op_refusal (op_same s)

-- what is said is published
pub said_is : (w : World) (x : ℕ) (m : Message) (s : Saying) → message_of w x s ≡ Ok m → said w x s ≡ publish_at w x m
said_is w x m (Own body) e = cc
said_is w x m (OfQueue s) e = by_op (op_as w x s) e
  where
    by_op : (r : Result Op Reason) → queue_message r ≡ Ok m → op_done w x r ≡ publish_at w x m
    by_op (Ok o) e = cc
    by_op (Err r) e = cc
