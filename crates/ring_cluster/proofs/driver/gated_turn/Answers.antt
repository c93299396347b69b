use Rattle.std.proofs.Common.{arith}
use Rattle.ring_cluster.proofs.rounds.Members.{members_few}
use Rattle.ring_cluster.proofs.driver.gated_turn.Goals as goal

pub overflow_cast-who : goal.overflow_cast-who
overflow_cast-who g c = omega (arith, c.requires.0, members_few c.args.cluster.now c.is_going.ensures)

pub overflow_add-who : goal.overflow_add-who
overflow_add-who g c = omega (arith, c.requires.0, members_few c.args.cluster.now c.is_going.ensures)
