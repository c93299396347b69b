-- Compact packets: which lines a packet has, and a take of those lines alone.
use Rattle.std.specs.Prelude.{◌≡◌, ◌≤◌, ◌<◌, ◌&&◌, Some, ℕ, Bool, true, false, not, nat_eq, if◌then◌else◌, List, [], ◌∷◌, map}
use Rattle.std.specs.List.{range_with_len, flat_map}
use Rattle.queue_core.specs.declared.op.Op.{Op}
use Rattle.queue_mirror.specs.Mirror.{apply_ops}
use Rattle.ring_rules.specs.declared.numbers.Numbers.{Numbers}
use Rattle.ring_rules.specs.Rows.{Row, lo_of}
use Rattle.ring_rules.specs.Machine.{Waiting, Up, Packet, Member, Sending, World, oldest, row_at, numbers_at, member_at, link_at, view_in, runs}
use Rattle.ring_rules.specs.Step.{size, with_member, with_link, popped, is_owned, brought_at, taker, take_from, begun, begin_from, next_packet}
use Rattle.ring_rules.specs.Refusal.{is_empty}

-- ---- one packet after another

-- what a side knows when a packet has passed
abbrev pub passed : Packet → Sending
passed k = record { fresh = false; sent = k }

-- a packet goes on just where the one before it ended, and the first one begins where its sender had forgotten
abbrev pub GoesOnFrom : Sending → Packet → Type 0
GoesOnFrom before k = (p : ℕ) → (numbers_at k p).lo ≡ lo_of before.fresh (numbers_at k p).forgot (numbers_at before.sent p)

-- so does each of these, from what passed before them up to what passed last
abbrev pub IsInTurn : Sending → List Packet → Sending → Type 0
IsInTurn before [] end = end ≡ before
IsInTurn before (k ∷ ks) end = GoesOnFrom before k × IsInTurn (passed k) ks end

-- the packets of each link go in turn, from the one taken last up to the one put last
abbrev pub GoesInTurn : World → Type 0
GoesInTurn w = (s : ℕ) → IsInTurn (link_at w s).had (link_at w s).packets (link_at w s).sending

-- what passed before the packet that is put behind these
abbrev pub before_next : Sending → List Packet → Sending
before_next before [] = before
before_next before (k ∷ ks) = before_next (passed k) ks

-- behind the packets of a link, what passed last is what was put last
abbrev pub KeepsBefore : World → Type 0
KeepsBefore w = (s : ℕ) → before_next (link_at w s).had (link_at w s).packets ≡ (link_at w s).sending

-- the next packet of a running member goes on from the one that it put last on its out link, wherever that one is now
abbrev pub NextGoesOn : World → Type 0
NextGoesOn w = (x o : ℕ) → runs w x ≡ true → (member_at w x).out ≡ Some o → GoesOnFrom (link_at w o).sending (next_packet (member_at w x) (link_at w o).sending)

-- ---- what was sent last

-- a member that is up has forgotten nothing beyond the got that it sent last on its out link, if it sent anything there
abbrev pub HasSentForgot : World → Type 0
HasSentForgot w = (x o p : ℕ) → (member_at w x).phase ≡ Up → (member_at w x).out ≡ Some o → (link_at w o).sending.fresh ≡ false → 1 ≤ p → p < size w → (row_at (member_at w x) p).forgot ≤ (numbers_at (link_at w o).sending.sent p).got

-- the next packet of a member that is up begins nowhere below what it has forgotten, so who keeps all messages after that
-- number has all that the packet brings
abbrev pub HoldsNext : World → Type 0
HoldsNext w = (x o p : ℕ) → (member_at w x).phase ≡ Up → (member_at w x).out ≡ Some o → 1 ≤ p → p < size w → (row_at (member_at w x) p).forgot ≤ (numbers_at (next_packet (member_at w x) (link_at w o).sending) p).lo

-- ---- what was taken last

-- the number of a row that a take sets to the packet's got: where its member answers for the origin, it is what it forgot
abbrev pub low : Bool → Row → ℕ
low true r = r.forgot
low false r = r.got

-- and the one that it sets to the packet's forgot
abbrev pub low_forgot : Bool → Row → ℕ
low_forgot true r = r.retired
low_forgot false r = r.forgot

-- a row has what numbers say: where it is answered for, they have come round
pub record Has (own : Bool) (r : Row) (k : Numbers) : Type 0 where
  pub got : low own r ≡ k.got
  pub forgot : low_forgot own r ≡ k.forgot

-- a member that is up has still what the packet said that it took last on its current link, if it took any there
abbrev pub HasTaken : World → Type 0
HasTaken w = (y s p : ℕ) → (member_at w y).phase ≡ Up → (member_at w y).current ≡ Some s → p < size w → (link_at w s).had.fresh ≡ false → Has (is_owned (view_in w (member_at w y).version) y (link_at w s).sender p) (row_at (member_at w y) p) (numbers_at (link_at w s).had.sent p)

-- ---- lines

-- the first packet of a link has a line for each origin of which it says that anything was received, and a later one where
-- what it says isn't what the packet before it said
abbrev pub has_line : Bool → Numbers → Numbers → Bool
has_line true k before = not (nat_eq k.got 0)
has_line false k before = not (nat_eq k.got before.got && nat_eq k.forgot before.forgot)

-- whether a packet that goes behind this has a line for an origin
abbrev pub line_in : Sending → Packet → ℕ → Bool
line_in before k p = has_line before.fresh (numbers_at k p) (numbers_at before.sent p)

-- what a take makes of y by the lines of a packet alone: a row without a line stays as it was
abbrev pub by_lines : ℕ → Sending → Packet → Member → Member → Member
by_lines n before k y taken = record taken { rows = map (λ p. if line_in before k p then row_at taken p else row_at y p) (range_with_len 0 n) }

-- the queue's operations that these lines bring
abbrev pub line_news : World → ℕ → ℕ → List Op
line_news w y s = flat_map (λ p. if line_in (link_at w s).had (oldest (link_at w s)) p then brought_at w y s p else []) (range_with_len 0 (size w))

-- y takes the lines of the oldest packet of link s, and the packet is gone
abbrev pub take_lines_from : World → ℕ → ℕ → World
take_lines_from w y s = with_link (with_member w y (record (by_lines (size w) (link_at w s).had (oldest (link_at w s)) (member_at w y) (taker w y s)) { mirror = apply_ops (member_at w y).mirror (line_news w y s) })) s (popped (link_at w s))

-- y, that waits, takes the lines of its first packet, and the packet is gone
abbrev pub begin_lines_from : World → ℕ → ℕ → World
begin_lines_from w y s = with_link (with_member w y (by_lines (size w) (link_at w s).had (oldest (link_at w s)) (member_at w y) (begun (size w) (member_at w y) (oldest (link_at w s))))) s (popped (link_at w s))

-- wherever a member that is up may take a packet of its current link, its lines alone do all that the packet does
abbrev pub TakesByLines : World → Type 0
TakesByLines w = (y s : ℕ) → y < size w → (member_at w y).phase ≡ Up → (member_at w y).current ≡ Some s → is_empty (link_at w s).packets ≡ false → (oldest (link_at w s)).version ≤ (member_at w y).version → take_lines_from w y s ≡ take_from w y s

-- and so it is wherever a member takes its first packet
abbrev pub BeginsByLines : World → Type 0
BeginsByLines w = (y s : ℕ) → (member_at w y).phase ≡ Waiting → (member_at w y).current ≡ Some s → begin_lines_from w y s ≡ begin_from w y s

-- ---- together

-- the laws on which compact packets rest, in a state
pub record IsCompact (w : World) : Type 0 where
  pub turn : GoesInTurn w
  pub before : KeepsBefore w
  pub next : NextGoesOn w
  pub sent : HasSentForgot w
  pub holds : HoldsNext w
  pub taken : HasTaken w
  pub lines : TakesByLines w
  pub first : BeginsByLines w
