use Rattle.std.proofs.Common.{arith}
use Rattle.ring_cluster.proofs.rounds.Members.{members_few}
use Rattle.ringplay.proofs.report.id_at.Goals as goal

pub overflow_cast-result : goal.overflow_cast-result
overflow_cast-result c = omega (arith, c.requires, members_few c.args.cluster.now c.is_going.ensures)

pub overflow_add-result : goal.overflow_add-result
overflow_add-result c = omega (arith, c.requires, members_few c.args.cluster.now c.is_going.ensures)
