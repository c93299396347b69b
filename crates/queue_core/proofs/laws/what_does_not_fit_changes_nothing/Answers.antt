use Rattle.queue_core.proofs.Items.{publish_nothing, deliver_nothing, drop_nothing, ack_nothing, requeue_nothing}
use Rattle.queue_core.proofs.laws.what_does_not_fit_changes_nothing.Goals as goal

pub returns-clause-publish : goal.returns-clause-publish
returns-clause-publish c = publish_nothing

pub returns-clause-deliver : goal.returns-clause-deliver
returns-clause-deliver c = deliver_nothing

pub returns-clause-drop : goal.returns-clause-drop
returns-clause-drop c = drop_nothing

pub returns-clause-ack : goal.returns-clause-ack
returns-clause-ack c = ack_nothing

pub returns-clause-requeue : goal.returns-clause-requeue
returns-clause-requeue c = requeue_nothing
