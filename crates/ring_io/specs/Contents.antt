-- What a sink's told bytes gain.
use Rattle.std.specs.Prelude.{◌≡◌, ℕ, Bool, true, false, List, [], ◌++◌, take, Option, Some, None, ⊤, Result, MatchResult}
use Rattle.std.specs.Io.KnownBytes.{Appends}

-- the held bytes grow by these, where they are told; they may be told no longer only where the sink may lose track, and then they are never told again
abbrev pub Gains : Bool → Option (List ℕ) → Option (List ℕ) → List ℕ → Type 0
Gains false old new bytes = Appends old new bytes
Gains true old None bytes = ⊤
Gains true None (Some ys) bytes = ⊥
Gains true (Some xs) (Some ys) bytes = ys ≡ xs ++ bytes

-- `write(piece)` gained the n bytes that it took at `Ok(n)`, and none at `Err`
abbrev pub WriteGains : {E : Type 0} → Bool → Option (List ℕ) → Option (List ℕ) → Result ℕ E → List ℕ → Type 0
WriteGains loses old new r piece = MatchResult r (λ n. Gains loses old new (take n piece)) (λ _. Gains loses old new [])
