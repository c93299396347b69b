-- What a party records of a round.
use Rattle.std.specs.Prelude.{ℕ, ◌+◌, Bool, true, cond, not, ◌&&◌, nat_eq, nat_le, max, List, [], ◌∷◌, ◌++◌, Option, Some, None}
use Rattle.ring_names.specs.declared.numbers.Stamp.{Stamp}
use Rattle.ring_rules.specs.declared.event.Event.{Event}

-- What a party has recorded: the number of the round, whether the party is alone in it, the time of its clock, whose clock it is, and what
-- the party did, each at its time.
pub record Recorded : Type 0 where
  pub round : ℕ
  pub is_alone : Bool
  pub time : ℕ
  pub party : ℕ
  pub entries : List (ℕ × Event)

-- The same, and for how many more entries there is room.
pub record RecorderSeen : Type 0 where
  pub recorded : Recorded
  pub spare : ℕ

-- a round begins
abbrev pub begun : ℕ → Bool → Recorded → Recorded
begun round is_alone r = record { round = round; is_alone = is_alone; time = 0; party = r.party; entries = [] }

-- before the first round, in which the party is alone
abbrev pub nothing_recorded : ℕ → Recorded
nothing_recorded party = record { round = 0; is_alone = true; time = 0; party = party; entries = [] }

-- the time of a stamp, where it is of a round that the party shares with others; else 0
abbrev pub time_in : Recorded → Stamp → ℕ
time_in r s = cond (not r.is_alone && nat_eq s.round r.round) s.time 0

-- what was given under a stamp is taken in
abbrev pub met : Stamp → Recorded → Recorded
met s r = record r { time = max r.time (time_in r s) }

-- the clock ticks
abbrev pub ticked : Recorded → Recorded
ticked r = record r { time = r.time + 1 }

-- the party does something, at the next time
abbrev pub noted : Event → Recorded → Recorded
noted e r = record (ticked r) { entries = r.entries ++ (r.time + 1, e) ∷ [] }

-- where it does something
abbrev pub noted_some : Option Event → Recorded → Recorded
noted_some None r = r
noted_some (Some e) r = noted e r

-- the stamp of what the party gives now: where it is alone, it carries time 0
abbrev pub given : Recorded → Stamp
given r = record { round = r.round; time = cond r.is_alone 0 r.time; party = r.party }

-- whether its clock ticks no more in this round
abbrev pub is_used_up : Recorded → Bool
is_used_up r = nat_le 4294967294 r.time

-- whether what carries a stamp may be taken in only in a later round, since no time of this one is above that of the stamp
abbrev pub is_late : Recorded → Stamp → Bool
is_late r s = nat_le 4294967294 (time_in r s)
