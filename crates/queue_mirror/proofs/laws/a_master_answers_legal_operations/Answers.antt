use Rattle.queue_mirror.proofs.Masters.{answers_legal}
use Rattle.queue_mirror.proofs.laws.a_master_answers_legal_operations.Goals as goal

pub returns : goal.returns
returns c = answers_legal
