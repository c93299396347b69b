use Rattle.ring_parties.proofs.turning.+fn-take_all_turns-join_mut+arg2+fn-take_all_turns-join_mut+arg3+take_all_turns.Given as goal

abbrev pub decreases-join_mut+arg2 : goal.decreases-join_mut+arg2
decreases-join_mut+arg2 g l = l.fewer

abbrev pub decreases-join_mut+arg3 : goal.decreases-join_mut+arg3
decreases-join_mut+arg3 g l = l.fewer

abbrev pub decreases-take_all_turns : goal.decreases-take_all_turns
decreases-take_all_turns g l = l.cuts
