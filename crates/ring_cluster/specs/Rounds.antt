-- How many rounds were given a number.
use Rattle.std.specs.Prelude.{◌≡◌, ℕ, ◌+◌, ◌-◌, ◌≤◌, ◌^◌, min}
use Rattle.ring_cluster.specs.Seen.{Seen}

-- their count after n more: it stands still at the last value of a u32
abbrev pub more_rounds : ℕ → ℕ → ℕ
more_rounds n rounds = min (rounds + n) (2 ^ 32 - 1)

-- at least so many rounds were given a number since, and at most so many
abbrev pub GivesNumbers : ℕ → ℕ → Seen → Seen → Type 0
GivesNumbers least most c d = (n : ℕ) × (least ≤ n) × (n ≤ most) × (d.rounds ≡ more_rounds n c.rounds)
