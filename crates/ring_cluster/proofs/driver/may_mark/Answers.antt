use Rattle.std.proofs.Common.{ap, ◌∙◌}
use Rattle.ring_rules.specs.declared.event.Event.TheVariants.{Mark}
use Rattle.ring_rules.specs.Machine.{member_at}
use Rattle.ring_rules.specs.Event.{refusal}
use Rattle.ring_cluster.specs.Seen.{state_of}
use Rattle.ring_cluster.proofs.rounds.Asking.{runner_unmarked}
use Rattle.ring_cluster.proofs.rounds.Named.{going_fit}
use Rattle.ring_cluster.proofs.driver.may_mark.Goals as goal

pub returns-then-not-has_stopped-clause-may_not : goal.returns-then-not-has_stopped-clause-may_not
returns-then-not-has_stopped-clause-may_not c = λ _ none.
    let k = c.args.cluster.now in
    let w = state_of k in
    let x = c.args.id.0 in
    let d = c.right_of-right.result.0 in
    runner_unmarked w x d (going_fit k c.is_going.ensures)
    c.requires.within.0 c.requires.within.1
    c.right_of-right.ensures.within.0 c.right_of-right.ensures.within.1
    (c.has_stopped.ensures c.if-not-has_stopped.true)
    (ap (λ y. refusal w (Mark (member_at w x).name (member_at w y).name)) c.right_of-right.ensures.right ∙ none)
