use Rattle.std.proofs.Common.{subst}
use Rattle.ring_cluster.specs.Seen.{state_of}
use Rattle.ring_cluster.specs.Turns.{HasTurn}
use Rattle.ring_cluster.proofs.driver.event_of.Goals as goal

pub name_of-requires-in-Erase : goal.name_of-requires-in-Erase
name_of-requires-in-Erase c =
    let h = subst (HasTurn (state_of c.args.cluster.now) c.args.id.0) c.in-Erase.is c.requires.turn in
    (h.0, h.1)
