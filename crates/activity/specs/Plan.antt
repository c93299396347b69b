-- What a packet does to what is kept.
use Rattle.std.specs.Prelude.{◌≡◌, ℕ, ◌-◌, Bool, true, false, cond, ◌&&◌, nat_eq, nat_le, List, [], ◌∷◌, ◌++◌, length, map, drop, max, Option, Some, None}
use Rattle.std.specs.List.{filter_map}
use Rattle.std.specs.Option.{option_map_or}
use Rattle.ring_names.specs.declared.numbers.MemberId.{MemberId}
use Rattle.group_view.specs.View.{Group, is_between}
use Rattle.activity.specs.declared.change.Change.{Change}
use Rattle.activity.specs.declared.change.Change.TheVariants.{Receive, CameRound}
use Rattle.activity.specs.Kept.{Kept, KeptRow, got_of, no_kept, kept_of, has_room}
use Rattle.activity.specs.Packets.{LineSeen, got_in, line_of}

-- whether a member answers, against a sender, for an origin: it is the member, or stands between the two
abbrev pub owns : Group → ℕ → ℕ → ℕ → Bool
owns view y s p = cond (nat_eq p y) true (is_between view.entries s p y)

-- Whether a line is used: it leaves no gap, lowers no number, and leaves nothing forgotten that wasn't got. The member
-- answers for the origin, or receives its messages.
abbrev pub fits : Bool → Kept → LineSeen → Bool
fits true k c = nat_le c.lo (got_of k) && nat_le k.forgot (got_in c) && nat_le (got_in c) (got_of k) && nat_le k.retired c.forgot
fits false k c = nat_le c.lo (got_of k) && nat_le (got_of k) (got_in c) && nat_le k.forgot c.forgot && nat_le c.forgot (got_in c)

-- What a line changes: where the member answers for the origin, what was sent has come round, and its acknowledgement as far
-- as the sender has forgotten; else the messages behind those that the member has are received.
abbrev pub change_in : Bool → Kept → LineSeen → Change
change_in true k c = CameRound c.origin (got_in c) c.forgot
change_in false k c = Receive c.origin (max c.lo (got_of k)) (got_in c) c.forgot

-- the change of a line that is used
abbrev pub change_of : Bool → Kept → LineSeen → Option Change
change_of own k c = cond (fits own k c) (Some (change_in own k c)) None

-- the changes of lines, in their order; own tells for which origins the member answers
abbrev pub changes_of : (ℕ → Bool) → List KeptRow → List LineSeen → List Change
changes_of own rows lines = filter_map (λ c. change_of (own c.origin.0) (kept_of rows c.origin.0) c) lines

-- what a change makes of what is kept: a line's messages behind a number join, and those up to another are forgotten
abbrev pub changed : Kept → LineSeen → Change → Kept
changed k c (Receive p from to forgot) =
    record k { forgot = forgot; messages = drop (forgot - k.forgot) (k.messages ++ drop (from - c.lo) c.messages) }
changed k c (CameRound p forgot retired) = record k { forgot = forgot; messages = drop (forgot - k.forgot) k.messages; retired = retired }

-- what a packet makes of what is kept of an origin, by its line there
abbrev pub accepted : Bool → Kept → Option LineSeen → Kept
accepted own k None = k
accepted own k (Some c) = option_map_or (changed k c) (change_of own k c) k

-- the origin of a change
abbrev pub origin_of : Change → MemberId
origin_of (Receive p from to forgot) = p
origin_of (CameRound p forgot retired) = p

-- how many messages it brings
abbrev pub arrivals : Change → ℕ
arrivals (Receive p from to forgot) = to - from
arrivals (CameRound p forgot retired) = 0

-- the ids of the origins of changes
abbrev pub changed_origins : List Change → List ℕ
changed_origins changes = map (λ c. (origin_of c).0) changes

-- the origin of each change has a row, with room for what it brings
abbrev pub AreReady : List KeptRow → List Change → Type 0
AreReady rows [] = Unit {0}
AreReady rows (c ∷ changes) = (has_room rows (origin_of c).0 (arrivals c) ≡ true) × AreReady rows changes

-- the first of changes, if it is of this origin
abbrev pub first_for : ℕ → List Change → Option Change
first_for p [] = None
first_for p (c ∷ changes) = cond (nat_eq (origin_of c).0 p) (Some c) None

-- ---- a member that waits for its first packet

-- whether a line of it is used: nothing is forgotten in it that it doesn't carry or end before
abbrev pub begins : LineSeen → Bool
begins c = nat_le c.lo c.forgot && nat_le c.forgot (got_in c)

-- its change, as if all its messages were received
abbrev pub whole_change : LineSeen → Change
whole_change c = Receive c.origin c.lo (got_in c) c.forgot

-- what is kept of an origin before a line's messages join: nothing, from its first on; the member receives behind its last
abbrev pub opened : Option LineSeen → Kept
opened None = no_kept
opened (Some c) = cond (begins c) (record { forgot = c.lo; messages = []; retired = 0; base = got_in c }) no_kept

-- what the member begins with: the line's messages, but for those that the sender has forgotten
abbrev pub begun : Option LineSeen → Kept
begun None = no_kept
begun (Some c) = cond (begins c) (record { forgot = c.forgot; messages = drop (c.forgot - c.lo) c.messages; retired = 0; base = got_in c }) no_kept

-- each line that is used has a row, with room for its messages
pub record AreOpened (rows : List KeptRow) (lines : List LineSeen) : Type 0 where
  pub room : (p : ℕ) (c : LineSeen) → line_of lines p ≡ Some c → begins c ≡ true → has_room rows p (length c.messages) ≡ true
