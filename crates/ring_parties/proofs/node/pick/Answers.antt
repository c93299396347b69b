use Rattle.std.proofs.Common.{rules}
use Rattle.ring_parties.proofs.standing.Shown.{picks_shown}
use Rattle.ring_parties.proofs.node.pick.Goals as goal

pub returns : goal.returns
returns c =
    let picks = c.in_ok-pick.ensures.acts.ends in
    record {
      judged = search rules;
      ok = picks_shown c.args.node.now c.pick.new.self picks.0 picks.1 picks.2 c.in_ok-pick.ensures.acts.ok;
      err = search rules;
    }
