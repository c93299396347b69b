-- What a member keeps of each origin, and the packets that it puts and takes, by the places of the origins.
use Rattle.std.specs.Prelude.{ℕ, ◌+◌, Bool, List, [], map, slice_index_or, Option, None}
use Rattle.std.specs.List.{range_with_len}
use Rattle.activity.specs.Kept.{Kept, no_kept, got_of}
use Rattle.activity.specs.LastSent.{LastSent, never_sent}
use Rattle.activity.specs.Packets.{LineSeen, PacketSeen, line_of, got_in}
use Rattle.ring_rules.specs.Rows.{most_members}

-- the places of all origins that a ring may have, whose ids are one more
unfoldable pub places : List ℕ
places = range_with_len 0 most_members

-- what is kept of the origin at a place
abbrev pub known_at : List Kept → ℕ → Kept
known_at known p = slice_index_or known p no_kept

-- what was last sent of it
abbrev pub last_sent_at : List LastSent → ℕ → LastSent
last_sent_at last_sent p = slice_index_or last_sent p never_sent

-- its line
abbrev pub line_at : List (Option LineSeen) → ℕ → Option LineSeen
line_at lines p = slice_index_or lines p None

-- what a packet says of an origin of which this is kept
abbrev pub last_sent_now : Kept → LastSent
last_sent_now k = record { got = got_of k; forgot = k.forgot }

-- A packet as it goes from one member to the next (gm's `activity` message), whatever the order of its lines: at the place of each
-- origin its line, where it has one.
pub record PacketById : Type 0 where
  pub view : ℕ
  pub first : Bool
  pub lines : List (Option LineSeen)

-- what a packet is, whatever the order of its lines
abbrev pub packet_by_id : PacketSeen → PacketById
packet_by_id k = record { view = k.view; first = k.first; lines = map (λ p. line_of k.lines (p + 1)) places }

-- a line with the same numbers that brings nothing
abbrev pub emptied : LineSeen → LineSeen
emptied c = record { origin = c.origin; lo = got_in c; messages = []; forgot = c.forgot }
