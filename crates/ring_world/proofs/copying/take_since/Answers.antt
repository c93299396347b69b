use Rattle.std.proofs.Common.{◌≡◌, List, [], ◌∷◌, ◌++◌, take, sym, ap, ◌∙◌}
use Rattle.std.proofs.lemmas.List.{append-nil, append_assoc}
use Rattle.queue_core.specs.declared.op.Op.{Op}
use Rattle.queue_core.specs.declared.message.Message.{Message}
use Rattle.queue_laws.specs.Part.{ops}
use Rattle.queue_sync.specs.Seen.{Taking}
use Rattle.ring_world.proofs.code.OfCopies.{ops_more}
use Rattle.ring_world.proofs.copying.take_since.Goals as goal
use Rattle.ring_world.proofs.copying.take_since.Goals.{in-Queue+in_ok-since_mark, in_default}

pub loop-message-init : goal.loop-message-init
loop-message-init c = ap (λ (l : List Op). record c.args.taken.now { since = l }) (sym (append-nil c.args.taken.now.since))

pub loop-message-preserved : goal.loop-message-preserved
loop-message-preserved c =
    taken
    ∙ ap (λ (t : Taking). record t { since = t.since ++ ops (c.message-item.result ∷ []) }) c.loop-message.invariant
    ∙ ap (λ (l : List Op). record c.args.taken.now { since = l })
    (append_assoc c.args.taken.now.since (ops (take c.loop-message.message-index c.args.messages.now)) (ops (c.message-item.result ∷ []))
    ∙ ap (λ l. c.args.taken.now.since ++ l) (sym (ops_more c.args.messages.now c.loop-message.message-index c.message-item.result c.loop-message-test.true c.message-item.is)))
  where
    taken : c.match-message.taken ≡ record c.loop-message.taken { since = c.loop-message.taken.since ++ ops (c.message-item.result ∷ []) }
    taken = elim c.match-message.branch [ in-Queue+in_ok-since_mark w ↦ w.taken-is ∙ w.in_ok-since_mark.ensures.ok ∙ ap (λ m. record c.loop-message.taken { since = c.loop-message.taken.since ++ ops (m ∷ []) }) (sym w.in-Queue.is) | in_default w ↦ w.taken-is ∙ ap (λ (l : List Op). record c.loop-message.taken { since = l }) (sym (append-nil c.loop-message.taken.since)) ∙ ap (λ m. record c.loop-message.taken { since = c.loop-message.taken.since ++ ops (m ∷ []) }) (sym w.in_default.is) ]
