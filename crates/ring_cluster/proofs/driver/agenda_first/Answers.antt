use Rattle.std.proofs.Common.{◌+◌, ap, ◌∙◌}
use Rattle.ring_rules.specs.Machine.{member_at}
use Rattle.ring_cluster.specs.Seen.{state_of}
use Rattle.ring_cluster.proofs.rounds.Counting.{did_task, did_named, did_later}
use Rattle.ring_cluster.proofs.rounds.Turning.{performed_round, left_begun, round_trans, works_round, works_same}
use Rattle.ring_cluster.proofs.driver.agenda_first.Goals as goal

pub returns-then-branch-clause-round : goal.returns-then-branch-clause-round
returns-then-branch-clause-round c = performed_round c.args.place c.args.name.now c.args.cluster.now c.perform.new.self c.is_going.ensures c.requires (c.in_ok-perform.ensures.done c.if-branch.true)

pub returns-then-branch-clause-once : goal.returns-then-branch-clause-once
returns-then-branch-clause-once c =
    let p = c.in_ok-perform.ensures.done c.if-branch.true in
    did_task c.args.name.now c.args.cluster.now c.perform.new.self p.0 p.1 p.3 p.5

pub returns-in_err-did-clause-round : goal.returns-in_err-did-clause-round
returns-in_err-did-clause-round c = round_trans c.args.cluster.now c.perform.new.self c.work_turn.new.cluster
    (works_round c.args.cluster.now c.perform.new.self (works_same c.args.cluster.now c.perform.new.self (c.in_ok-perform.ensures.none c.if-branch.false).0))
    (works_round c.perform.new.self c.work_turn.new.cluster c.work_turn.ensures.does.works)

pub returns-clause-round : goal.returns-clause-round
returns-clause-round c = round_trans c.args.cluster.now c.perform.new.self c.work_turn.new.cluster
    (works_round c.args.cluster.now c.perform.new.self (works_same c.args.cluster.now c.perform.new.self (c.in_ok-perform.ensures.none c.if-branch.false).0))
    (works_round c.perform.new.self c.work_turn.new.cluster c.work_turn.ensures.does.works)

pub returns-clause-begun : goal.returns-clause-begun
returns-clause-begun c = left_begun c.args.place c.args.name.now c.args.cluster.now c.perform.new.self c.work_turn.new.cluster c.is_going.ensures c.requires (c.in_ok-perform.ensures.none c.if-branch.false) c.in_ok-did.ensures.starts

pub returns-in_err-perform-clause-round : goal.returns-in_err-perform-clause-round
returns-in_err-perform-clause-round c = works_round c.args.cluster.now c.perform.new.self (works_same c.args.cluster.now c.perform.new.self c.in_err-perform.ensures.err)

pub returns-in_err-did-clause-once : goal.returns-in_err-did-clause-once
returns-in_err-did-clause-once c =
    let s = (c.in_ok-perform.ensures.none c.if-branch.false).0 in
    did_later 1 c.args.name.now c.args.cluster.now c.perform.new.self c.work_turn.new.cluster s
    (did_named 1 _ c.args.name.now c.perform.new.self c.work_turn.new.cluster (ap (λ x. (member_at (state_of x) (c.args.place + 1)).name) s.1 ∙ c.requires.1) c.work_turn.ensures.once)
