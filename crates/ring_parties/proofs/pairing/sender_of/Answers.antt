use Rattle.std.proofs.Common.{ℕ, ◌<◌, ◌-◌, length, get_or, rules}
use Rattle.ring_parties.proofs.pairs.Each.{at_here}
use Rattle.ring_parties.proofs.pairing.sender_of.Goals as goal

pub returns : goal.returns
returns c =
    let i : ℕ = c.in_ok-name.name.from.0 - 1 in
    let l : i < length c.args.members.now = search rules in
    record {
      sender = get_or c.args.members.now i c.index-members-sender.result;
      receiver = get_or c.args.members.now c.args.place c.index-members-place.result;
      sends = at_here c.args.members.now i c.index-members-sender.result l;
      takes = at_here c.args.members.now c.args.place c.index-members-place.result c.requires;
      paired = (c.in_ok-name.name, search rules, search rules);
    }
