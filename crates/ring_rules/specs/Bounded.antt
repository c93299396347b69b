-- The numbers that the events of a run name.
use Rattle.std.specs.Prelude.{◌≤◌, ◌<◌, ⊤}
use Rattle.ring_rules.specs.Event.{Event, Refresh, Refuse}

-- a version that a member reads is one of a view, of which there are fewer than 256, since each of 64 entries is admitted,
-- registered, marked and erased once; and the number that a client is told is that of a refusal
abbrev pub IsBounded : Event → Type 0
IsBounded (Refresh by version) = (1 ≤ version) × (version < 256)
IsBounded (Refuse code inner) = (6 ≤ code) × (code ≤ 44)
IsBounded e = ⊤
