-- Lemmas on counts that never fall.
use Rattle.std.proofs.Common.{ℕ, ◌≤◌, arith}
use Rattle.ring_io.specs.Count.{Rose}

-- a count that rose has risen later too
pub Rose-later : (a b c : ℕ) → Rose a b → b ≤ c → Rose a c
Rose-later a b c rose more = omega arith

-- a count that rose has risen since earlier too
pub Rose-earlier : (a b c : ℕ) → a ≤ b → Rose b c → Rose a c
Rose-earlier a b c less rose = omega arith
