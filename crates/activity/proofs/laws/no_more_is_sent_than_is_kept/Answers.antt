use Rattle.activity.proofs.Above.{above_none, above_noted, above_joined, above_kept, above_same, above_applied}
use Rattle.activity.proofs.laws.no_more_is_sent_than_is_kept.Goals as goal

pub returns-clause-none : goal.returns-clause-none
returns-clause-none c = above_none

pub returns-clause-noted : goal.returns-clause-noted
returns-clause-noted c = above_noted

pub returns-clause-joined : goal.returns-clause-joined
returns-clause-joined c = above_joined

pub returns-clause-kept : goal.returns-clause-kept
returns-clause-kept c = above_kept

pub returns-clause-same : goal.returns-clause-same
returns-clause-same c = above_same

pub returns-clause-applied : goal.returns-clause-applied
returns-clause-applied c = above_applied
