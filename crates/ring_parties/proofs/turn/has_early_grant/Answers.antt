use Rattle.ring_parties.proofs.turns.Gains.{early_is}
use Rattle.ring_parties.proofs.turn.has_early_grant.Goals as goal

pub returns-in-Some-first_back : goal.returns-in-Some-first_back
returns-in-Some-first_back c =
    let first = c.in-Some-first_back.ensures in
    early_is c.is_late.result c.args.node.now c.in-Some.out.now c.in-Some-first_back.grant first.0 c.in-Some.ensures first.1 c.is_late.ensures
