-- The state of the ring: its views, what each member knows of each origin, and what stands on each link.
use Rattle.std.specs.Prelude.{ℕ, ◌+◌, ◌-◌, Bool, true, false, List, [], length, slice_index_or, nat_eq, Option, None}
use Rattle.std.specs.List.{list_all, range_with_len}
use Rattle.queue_core.specs.declared.message.Message.{Message}
use Rattle.queue_mirror.specs.Mirror.{MirrorState, founding}
use Rattle.ring_rules.specs.declared.numbers.Numbers.{Numbers}
use Rattle.ring_rules.specs.Rows.{Row, Flow, no_row, no_numbers, full_flow}
use Rattle.group_view.specs.View.{Group}
use Rattle.group_view.specs.Since.{no_group}
use Rattle.ring_rules.specs.View.{ids, left_by, right_by}
pub use Rattle.ring_rules.specs.declared.phase.Phase.{Phase}
pub use Rattle.ring_rules.specs.declared.phase.Phase.TheVariants.{Waiting, Up, Stopped}
pub use Rattle.ring_rules.specs.declared.phase.Ending.{Ending}
pub use Rattle.ring_rules.specs.declared.phase.Ending.TheVariants.{Moved, Halted}

-- A packet has the version of its sender's view, and numbers for each origin.
pub record Packet : Type 0 where
  pub version : ℕ
  pub numbers : List Numbers

-- A member: its name, its phase, the version of its view, the log of its own messages, and a row for each origin; where
-- among the links the one stands on which it sends, and the one from which it takes; and of the queue its mirror, whether it
-- has published Start as a master, the version that its view had when it last told how many messages there are, and whether
-- its mirror is whole: it was there from the opening, and so has all that was published.
pub record Member : Type 0 where
  pub name : List ℕ
  pub phase : Phase
  pub version : ℕ
  pub log : List Message
  pub rows : List Row
  pub out : Option ℕ
  pub current : Option ℕ
  pub mirror : MirrorState
  pub started : Bool
  pub told : ℕ
  pub whole : Bool

-- What one side of a link knows: whether no packet passed it yet, and the last one that did. At the sending side a packet
-- passes when it is put, at the receiving side when it is taken.
pub record Sending : Type 0 where
  pub fresh : Bool
  pub sent : Packet

-- A link: who sends on it to whom, the version at which it was opened, its packets on the way, the oldest first, how it
-- ends behind them and whether its receiver has taken that end, its sending side, its receiving side, and its credit.
pub record Link : Type 0 where
  pub sender : ℕ
  pub receiver : ℕ
  pub opened : ℕ
  pub packets : List Packet
  pub ending : Option Ending
  pub over : Bool
  pub sending : Sending
  pub had : Sending
  pub flow : Flow

-- The members by id, and an origin's row and numbers likewise; the links in order of opening; the views by version. Ids and
-- versions count from 1, and at 0 stands nobody. Each link opens with the same credit.
pub record World : Type 0 where
  pub members : List Member
  pub links : List Link
  pub views : List Group
  pub initial : ℕ
  pub more : ℕ

-- a packet that says nothing
abbrev pub no_packet : Packet
no_packet = record { version = 0; numbers = [] }

-- nobody: who stands at id 0, and beyond the ring
abbrev pub no_member : Member
no_member = record { name = []; phase = Stopped; version = 0; log = []; rows = []; out = None; current = None; mirror = founding; started = false; told = 0; whole = true }

-- a side of a link that nothing passed
abbrev pub no_sending : Sending
no_sending = record { fresh = true; sent = no_packet }

-- what stands beyond the links
abbrev pub no_link : Link
no_link = record { sender = 0; receiver = 0; opened = 0; packets = []; ending = None; over = false; sending = no_sending; had = no_sending; flow = full_flow 0 0 }

-- what a member knows of an origin, and what a packet says of it: 0 in all numbers where nothing is said
abbrev pub row_at : Member → ℕ → Row
row_at y p = slice_index_or y.rows p no_row

-- what a packet says of an origin: 0 in all numbers where it says nothing
abbrev pub numbers_at : Packet → ℕ → Numbers
numbers_at k p = slice_index_or k.numbers p no_numbers

-- the member of an id
abbrev pub member_at : World → ℕ → Member
member_at w q = slice_index_or w.members q no_member

-- the link at a place
abbrev pub link_at : World → ℕ → Link
link_at w s = slice_index_or w.links s no_link

-- the packet that was put first of those on the link
abbrev pub oldest : Link → Packet
oldest l = slice_index_or l.packets 0 no_packet

-- the view of a version
abbrev pub view_in : World → ℕ → Group
view_in w v = slice_index_or w.views v no_group

-- the version of the newest view
abbrev pub newest : World → ℕ
newest w = length w.views - 1

-- the ring is the newest view
abbrev pub ring : World → List ℕ
ring w = ids (view_in w (newest w))

-- the left neighbour of y in the view of version v
abbrev pub left : World → ℕ → ℕ → ℕ
left w v y = left_by w.views v y

-- the right one
abbrev pub right : World → ℕ → ℕ → ℕ
right w v y = right_by w.views v y

-- a member runs when it is up or waits
abbrev pub runs_phase : Phase → Bool
runs_phase Waiting = true
runs_phase Up = true
runs_phase Stopped = false

-- whether a member waits for its first packet
abbrev pub is_waiting : Phase → Bool
is_waiting Waiting = true
is_waiting Up = false
is_waiting Stopped = false

-- whether the member of an id runs
abbrev pub runs : World → ℕ → Bool
runs w q = runs_phase (member_at w q).phase

-- the receiver has had the sender at its left in each view from the opening of the link up to v
unfoldable pub is_kept_of : List Group → ℕ → ℕ → ℕ → ℕ → Bool
is_kept_of vs to sender opened v = list_all (λ u. nat_eq (left_by vs u to) sender) (range_with_len opened (v + 1 - opened))

-- the same of a link
abbrev pub is_kept : World → Link → ℕ → Bool
is_kept w l v = is_kept_of w.views l.receiver l.sender l.opened v
