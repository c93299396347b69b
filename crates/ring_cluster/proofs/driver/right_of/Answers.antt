use Rattle.std.proofs.Common.{◌≡◌, ap, arith, ◌∙◌}
use Rattle.group_view.specs.View.{right_of as right_of_entries}
use Rattle.ring_rules.specs.Machine.{newest, right}
use Rattle.ring_cluster.specs.Seen.{state_of}
use Rattle.ring_cluster.proofs.rounds.Named.{going_ring}
use Rattle.ring_cluster.proofs.rounds.Settling.{right_there, right_found}
use Rattle.ring_cluster.proofs.driver.right_of.Goals as goal

pub returns-clause-right : goal.returns-clause-right
returns-clause-right c =
    c.right_of.ensures ∙ ap (λ g. right_of_entries g.entries c.args.id.0) c.view.ensures
    ∙ right_found (state_of c.args.cluster.now) c.args.id.0

pub returns-clause-within : goal.returns-clause-within
returns-clause-within c =
    let is : c.right_of.result.0 ≡ right (state_of c.args.cluster.now) (newest (state_of c.args.cluster.now)) c.args.id.0 = returns-clause-right c in
    let k = right_there (state_of c.args.cluster.now) c.args.id.0 (going_ring c.args.cluster.now c.is_going.ensures) c.requires.runs in
    (omega (arith, is, k.0), omega (arith, is, k.1))
