-- Sources and sinks over memory.
use Rattle.std.specs.Prelude.{ℕ, ◌+◌, ◌-◌, ◌==◌, min, max, Bool, ◌||◌, List, ◌++◌, length, take, Option, Some, None, if◌then◌else◌}
use Rattle.std.specs.List.{list_any}
use Rattle.ring_io.specs.Count.{next_count, last_count}

-- the calls that fail, by their numbers from 1; the most bytes that a call moves; the calls made, and the faults among them
pub record Calls : Type 0 where
  pub fails : List ℕ
  pub most : ℕ
  pub made : ℕ
  pub faults : ℕ

-- whether the next call is listed to fail
abbrev pub is_next_listed : Calls → Bool
is_next_listed c = list_any (λ number. number == next_count c.made) c.fails

-- a call more
abbrev pub one_more : Calls → Calls
one_more c = record c { made = next_count c.made }

-- a call more, which failed
abbrev pub one_failed : Calls → Calls
one_failed c = record c { made = next_count c.made; faults = next_count c.faults }

-- no call yet, and the most bytes that a call moves, 1 at least
abbrev pub no_calls : ℕ → List ℕ → Calls
no_calls most fails = record { fails = fails; most = max most 1; made = 0; faults = 0 }

-- the bytes held, of `room` at most
pub record Held : Type 0 where
  pub bytes : List ℕ
  pub room : ℕ

-- for how many further bytes there is room
abbrev pub free_in : Held → ℕ
free_in h = h.room - length h.bytes

-- a source: the bytes left
pub record Supply : Type 0 where
  pub left : List ℕ
  pub calls : Calls

-- how many bytes the next call gives to a buffer of this length, if it isn't listed
abbrev pub given_count : Supply → ℕ → ℕ
given_count s room = min s.calls.most (min room (length s.left))

-- a sink: the bytes held
pub record Store : Type 0 where
  pub held : Held
  pub calls : Calls

-- whether the next call fails: it is listed, or there is no room
abbrev pub is_next_refused : Store → Bool
is_next_refused s = is_next_listed s.calls || length s.held.bytes == s.held.room

-- how many bytes the next call takes of a piece of this length, if it isn't refused
abbrev pub taken_count : Store → ℕ → ℕ
taken_count s len = min s.calls.most (min len (free_in s.held))

-- a sink that never fails: the bytes held, and how many were lost
pub record Kept : Type 0 where
  pub held : Held
  pub lost : ℕ

-- the bytes given so far, if none was lost
abbrev pub told_bytes : Kept → Option (List ℕ)
told_bytes k = if k.lost == 0 then Some k.held.bytes else None

-- the bytes held of these too while there is room, and the others counted
abbrev pub kept_more : Kept → List ℕ → Kept
kept_more k more = record {
  held = record k.held { bytes = k.held.bytes ++ take (free_in k.held) more };
  lost = min (k.lost + (length more - free_in k.held)) last_count;
}
