use Rattle.std.proofs.Common.{arith}
use Rattle.ring_parties.proofs.parties.Parties.step.Goals as goal

pub refusal-requires : goal.refusal-requires
refusal-requires c = record {
  within = omega (arith, c.requires.at.0, c.requires.standing.stand.stand.count);
  standing = (c.args.credit, c.args.names.now, c.args.journal.now.items, c.requires.standing);
}
