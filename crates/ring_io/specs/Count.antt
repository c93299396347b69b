-- Counts of faults and of calls, which stand still at their last value.
use Rattle.std.specs.Prelude.{◌≡◌, ℕ, ◌+◌, ◌-◌, ◌^◌, ◌≤◌, min, Result, MatchResult}

-- the last value of a count
abbrev pub last_count : ℕ
last_count = 2 ^ 64 - 1

-- one more, or the last value
abbrev pub next_count : ℕ → ℕ
next_count n = min (n + 1) last_count

-- the count rose in between, or stands at its last value
abbrev pub Rose : ℕ → ℕ → Type 0
Rose old new = next_count old ≤ new

-- the count rose by one where the call failed, and stayed where it did not
abbrev pub CountsFault : {X E : Type 0} → ℕ → ℕ → Result X E → Type 0
CountsFault old new r = MatchResult r (λ _. new ≡ old) (λ _. new ≡ next_count old)
