-- What the structs show.
use Rattle.std.specs.Prelude.{List, map}
use Rattle.ring_names.specs.declared.numbers.MemberId.{MemberId}
use Rattle.activity.specs.declared.table.Table.{Table}
use Rattle.activity.specs.declared.sent.SentRow.{SentRow}
use Rattle.activity.specs.Kept.{Kept, KeptRow}
use Rattle.activity.specs.LastSent.{LastSent, LastSentRow}

-- what a table keeps
abbrev pub kept_in : Table → Kept
kept_in t = record { forgot = t.store.forgot; messages = t.store.messages; retired = t.retired; base = t.base }

-- the row of an entry
abbrev pub kept_row : MemberId × Table → KeptRow
kept_row e = record { origin = e.0; kept = kept_in e.1; room = e.1.store.spare }

-- the rows of entries
abbrev pub kept_rows : List (MemberId × Table) → List KeptRow
kept_rows entries = map kept_row entries

-- the numbers of a row
abbrev pub last_sent_of : SentRow → LastSent
last_sent_of s = record { got = s.got; forgot = s.forgot }

-- the row of an entry
abbrev pub last_sent_row : MemberId × SentRow → LastSentRow
last_sent_row e = record { origin = e.0; last_sent = last_sent_of e.1 }

-- the rows of entries
abbrev pub last_sent_rows : List (MemberId × SentRow) → List LastSentRow
last_sent_rows entries = map last_sent_row entries
