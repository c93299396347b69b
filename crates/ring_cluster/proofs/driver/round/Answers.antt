use Rattle.std.proofs.Common.{◌-◌, arith}
use Rattle.ring_cluster.proofs.rounds.Counting.{each_more, each_fewer}
use Rattle.ring_cluster.proofs.rounds.Turning.{round_trans, parts_begun}
use Rattle.ring_cluster.proofs.driver.round.Goals as goal

pub returns-in_err-side_by_side-clause-few : goal.returns-in_err-side_by_side-clause-few
returns-in_err-side_by_side-clause-few g c = each_fewer (c.args.turns - 1) c.args.turns c.args.cluster.now c.side_by_side.new.self (omega arith) c.side_by_side.ensures.few

pub returns-in_err-last_turns-clause-round : goal.returns-in_err-last_turns-clause-round
returns-in_err-last_turns-clause-round g c = round_trans c.args.cluster.now c.side_by_side.new.self c.last_turns.new.cluster c.side_by_side.ensures.round c.last_turns.ensures.round

pub returns-in_err-last_turns-clause-few : goal.returns-in_err-last_turns-clause-few
returns-in_err-last_turns-clause-few g c = each_more (c.args.turns - 1) 1 c.args.turns c.args.cluster.now c.side_by_side.new.self c.last_turns.new.cluster (omega (arith, c.requires)) c.side_by_side.ensures.few c.last_turns.ensures.once

pub returns-clause-round : goal.returns-clause-round
returns-clause-round g c = round_trans c.args.cluster.now c.side_by_side.new.self c.last_turns.new.cluster c.side_by_side.ensures.round c.last_turns.ensures.round

pub returns-clause-few : goal.returns-clause-few
returns-clause-few g c = each_more (c.args.turns - 1) 1 c.args.turns c.args.cluster.now c.side_by_side.new.self c.last_turns.new.cluster (omega (arith, c.requires)) c.side_by_side.ensures.few c.last_turns.ensures.once

pub returns-clause-begun : goal.returns-clause-begun
returns-clause-begun g c = parts_begun c.args.cluster.now c.side_by_side.new.self c.last_turns.new.cluster c.side_by_side.ensures.round c.last_turns.ensures.round c.in_ok-last_turns.ensures.begun
