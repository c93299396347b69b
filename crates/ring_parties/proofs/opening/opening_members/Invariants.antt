use Rattle.std.proofs.Common.{◌≡◌, ℕ, map}
use Rattle.std.specs.List.{range_with_len}
use Rattle.ordered_link.specs.Names.{PairName}
use Rattle.ring_parties.specs.Parties.{keeps_in, out_seen, in_seen}
use Rattle.ring_parties.specs.Keeps.{no_keeps}
use Rattle.ring_parties.proofs.standing.Founding.{AreMade}
use Rattle.ring_parties.proofs.opening.opening_members.Given as goal

abbrev pub invariant-loop-k : goal.invariant-loop-k
invariant-loop-k l = record {
  made : (rings : ℕ → PairName) × AreMade rings l.credit l.names l.k l.members.items (out_seen l.last) (in_seen l.link);
  keeps : map keeps_in l.members.items ≡ map (λ (k : ℕ). no_keeps) (range_with_len 0 l.k);
}
