-- Which packet a member sends.
use Rattle.std.specs.Prelude.{ℕ, ◌-◌, ◌≤◌, Bool, true, false, cond, not, ◌&&◌, nat_eq, nat_le, List, drop, map, max, Option, Some, None}
use Rattle.std.specs.List.{filter}
use Rattle.ring_names.specs.declared.numbers.MemberId.{MemberId}
use Rattle.group_view.specs.View.{as_id}
use Rattle.activity.specs.Kept.{Kept, KeptRow, got_of, kept_of}
use Rattle.activity.specs.LastSent.{LastSent, LastSentRow, sent_of}
use Rattle.activity.specs.Packets.{LineSeen}

-- whether the numbers of an origin are those last sent
abbrev pub is_last_sent : Kept → LastSent → Bool
is_last_sent k t = nat_eq (got_of k) t.got && nat_eq k.forgot t.forgot

-- a first packet has a line of each origin with a message, any other of those whose numbers aren't the last sent
abbrev pub has_line : Bool → Kept → LastSent → Bool
has_line true k t = not (nat_eq (got_of k) 0)
has_line false k t = not (is_last_sent k t)

-- A first packet carries all that isn't forgotten, any other what came since the last one. Where the sender has forgotten
-- messages that it hasn't sent, the line begins behind them.
abbrev pub lo_of : Bool → Kept → LastSent → ℕ
lo_of true k t = k.forgot
lo_of false k t = max k.forgot t.got

-- the line of an origin from this number on
abbrev pub line_from : ℕ → MemberId → Kept → LineSeen
line_from lo origin k = record { origin = origin; lo = lo; messages = drop (lo - k.forgot) k.messages; forgot = k.forgot }

-- the line of an origin in the next packet, where it has one
abbrev pub next_line : Bool → ℕ → Kept → LastSent → Option LineSeen
next_line first p k t = cond (has_line first k t) (Some (line_from (lo_of first k t) (as_id p) k)) None

-- whether a row has a line
abbrev pub row_has_line : Bool → List LastSentRow → KeptRow → Bool
row_has_line first sent r = has_line first r.kept (sent_of sent r.origin.0)

-- the line of a row
abbrev pub row_line : Bool → List LastSentRow → KeptRow → LineSeen
row_line first sent r = line_from (lo_of first r.kept (sent_of sent r.origin.0)) r.origin r.kept

-- the lines of the next packet, in the order of the rows
abbrev pub lines_of : Bool → List LastSentRow → List KeptRow → List LineSeen
lines_of first sent rows = map (row_line first sent) (filter (row_has_line first sent) rows)

-- no more was sent of an origin than is there
pub record IsNotAbove (sent : List LastSentRow) (rows : List KeptRow) : Type 0 where
  pub got : (p : ℕ) → (sent_of sent p).got ≤ got_of (kept_of rows p)
  pub forgot : (p : ℕ) → (sent_of sent p).forgot ≤ (kept_of rows p).forgot

-- whether an id is one of the first, and its numbers aren't those last sent
abbrev pub tells_new : List LastSentRow → List KeptRow → ℕ → ℕ → Bool
tells_new sent rows ids p = nat_le 1 p && nat_le p ids && not (is_last_sent (kept_of rows p) (sent_of sent p))
