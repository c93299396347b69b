-- Lamport clocks.
use Rattle.std.specs.Prelude.{ℕ, Bool, nat_eq, nat_le, max, if◌then◌else◌}
use Rattle.ring_names.specs.declared.numbers.Stamp.{Stamp}
use Rattle.lamport_merge.specs.declared.clock.Clock.{Clock}

-- a clock at this time of this round
abbrev pub clock_at : ℕ → ℕ → Clock
clock_at round time = record { round = round; time = time }

-- a clock that has met a stamp: of its round, it stands at the later of the two times
abbrev pub met : Clock → Stamp → Clock
met c s = if nat_eq s.round c.round then clock_at c.round (max c.time s.time) else c

-- whether it ticks no more
abbrev pub is_spent : Clock → Bool
is_spent c = nat_le 4294967294 c.time
