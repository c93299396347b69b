use Rattle.std.proofs.Common.{◌+◌, Some, sym, ap, ◌∙◌, arith}
use Rattle.std.specs.Prelude.{option_map}
use Rattle.ring_rules.specs.Machine.{member_at}
use Rattle.ring_cluster.specs.Seen.{state_of}
use Rattle.ring_cluster.proofs.rounds.Heirs.{least_is, least_none}
use Rattle.ring_cluster.proofs.rounds.Members.{members_few}
use Rattle.ring_cluster.proofs.cluster.Cluster.heir.Goals as goal

pub overflow_cast-place : goal.overflow_cast-place
overflow_cast-place c = omega (arith, c.loop-place-test.true, c.loop-place.invariant.count, members_few c.args.self.now c.is_going.ensures)

pub overflow_add-place : goal.overflow_add-place
overflow_add-place c = omega (arith, c.loop-place-test.true, c.loop-place.invariant.count, members_few c.args.self.now c.is_going.ensures)

pub returns-then-runs : goal.returns-then-runs
returns-then-runs c =
    let w = state_of c.args.self.now in
    ap Some c.name_at.ensures
    ∙ sym (ap (option_map (λ i. (member_at w (i + 1)).name)) (least_is w c.loop-place.place (omega (arith, c.loop-place-test.true, c.loop-place.invariant.count)) (sym c.runs.ensures ∙ c.if-runs.true) c.loop-place.invariant.none))

pub returns : goal.returns
returns c =
    let w = state_of c.args.self.now in
    sym (ap (option_map (λ i. (member_at w (i + 1)).name)) (least_none w (λ k lt. c.loop-place.invariant.none k (omega (arith, lt, c.loop-place-test.false, c.loop-place.invariant.count)))))
