use Rattle.std.proofs.Common.{suc, ap, arith}
use Rattle.ring_rules.specs.Machine.{runs_phase}
use Rattle.ring_world.proofs.refreshing.refresh.Goals as goal

pub view_of-requires-clause-some : goal.view_of-requires-clause-some
view_of-requires-clause-some c = omega (arith, c.requires.later, c.requires.up.placed.from_one (suc c.args.place) (ap runs_phase c.requires.up.up))
