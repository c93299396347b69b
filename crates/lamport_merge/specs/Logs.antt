-- The logs as their parties keep them.
use Rattle.std.specs.Prelude.{ℕ, ◌+◌, ◌-◌, List, [], ◌∷◌, ◌++◌, length, map}
use Rattle.ring_rules.specs.declared.event.Event.{Event}
use Rattle.lamport_merge.specs.Merge.{Log}
use Rattle.lamport_merge.specs.Next.{rests}

-- what a log is seen as: whose it is, what happened, each at its time, and for how many more entries there is room
pub record LogSeen : Type 0 where
  pub party : ℕ
  pub entries : List (ℕ × Event)
  pub spare : ℕ

-- nothing happened yet
abbrev pub new_log : ℕ → ℕ → LogSeen
new_log party spare = record { party = party; entries = []; spare = spare }

-- it is emptied, and keeps its room
abbrev pub emptied : LogSeen → LogSeen
emptied l = record l { entries = []; spare = l.spare + length l.entries }

-- something more happened, at this time
abbrev pub with_entry : ℕ → Event → LogSeen → LogSeen
with_entry time event l = record l { entries = l.entries ++ (time, event) ∷ []; spare = l.spare - 1 }

-- a log, but for its room
abbrev pub log_of : LogSeen → Log Event
log_of l = record { party = l.party; entries = l.entries }

-- several logs, but for their room
abbrev pub logs_of : List LogSeen → List (Log Event)
logs_of ls = map log_of ls

-- what is left of logs from these places on
abbrev pub left_of : List LogSeen → List ℕ → List (Log Event)
left_of ls places = rests (logs_of ls) places

-- logs that are gathered, and for how many more there is room
pub record GatheredSeen : Type 0 where
  pub logs : List (Log Event)
  pub room : ℕ
